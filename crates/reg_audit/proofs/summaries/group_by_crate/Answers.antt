use Rattle.reg_audit.proofs.Words.{◌++◌, ◌∷◌, [], ◌∙◌, ap, sym, ◌==◌, if◌then◌else◌, shown_version}
use Rattle.reg_audit.proofs.Kept.{kept_more}
use Rattle.reg_audit.proofs.summaries.group_by_crate.Goals as goal

pub loop-version-preserved : goal.loop-version-preserved
loop-version-preserved c id =
    let x = c.version-item.result in
    c.in_ok-add.ensures id ∙ ap (λ l. l ++ (if x.crate_id == id then shown_version x ∷ [] else [])) (c.loop-version.invariant id)
    ∙ sym (kept_more shown_version (λ v. v.crate_id == id) c.args.versions.now c.loop-version.version-index x c.loop-version-test.true c.version-item.is)
