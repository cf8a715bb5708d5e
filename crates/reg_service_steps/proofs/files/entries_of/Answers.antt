use Rattle.std.proofs.Common.{[], ◌∷◌, ◌++◌, ◌∙◌, ap, map, sym}
use Rattle.std.proofs.lemmas.List.{map-append}
use Rattle.reg_line.specs.File.{entry_view}
use Rattle.reg_service_steps.specs.Reads.{entry_of_version}
use Rattle.reg_service_steps.proofs.files.entries_of.Goals as goal

pub loop-version-preserved : goal.loop-version-preserved
loop-version-preserved c =
    ap (map entry_view) c.in_ok-push.ensures.items
    ∙ map-append entry_view c.loop-version.entries.items (c.entry_of.result ∷ [])
    ∙ (λ i. c.loop-version.invariant i ++ c.entry_of.ensures i ∷ [])
    ∙ sym (map-append entry_of_version c.loop-version.yielded (c.in-Some.version ∷ []))
