use Rattle.reg_reference.proofs.Words.{◌++◌, ap, ◌∙◌, flat_map, Registry, line_at, registry_of}
use Rattle.reg_reference.proofs.ReportTexts.{crates_told}
use Rattle.reg_reference.proofs.plain.PlainRegistry.crates_report.Goals as goal

pub returns : goal.returns
returns c =
    let s : Registry = registry_of c.args.self.now in
    c.in_ok-push_crates.ensures ∙ ap (λ t. t ++ flat_map (λ n. line_at s n.now) c.as_slice.result.now) c.new-report.ensures.bytes
    ∙ ap (flat_map (λ n. line_at s n.now)) c.as_slice.ensures.value
    ∙ crates_told s c.in_ok-names.names.items c.in_ok-names.ensures
