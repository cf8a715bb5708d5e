use Rattle.reg_line.proofs.Words.{sym, ◌∙◌, false≢true}
use Rattle.reg_line.proofs.StemFacts.{stem_read-IsStemOf, same_ok, not_refused}
use Rattle.reg_line.proofs.stem_check.check_stem.Goals as goal

pub returns-in-Ok : goal.returns-in-Ok
returns-in-Ok c =
    (c.in-Ok.ensures.stem_of, λ w. same_ok _ _ (sym c.in-Ok.ensures.answer ∙ stem_read-IsStemOf c.args.stem.now c.args.name.now c.args.vers.now c.args.digest.now w))

pub returns-in_default : goal.returns-in_default
returns-in_default c = (
  λ t. absurd (false≢true t),
  λ w. absurd (not_refused c.in-Err.fault _ _ c.in_default.not-Memory c.in-Err.ensures.answer (stem_read-IsStemOf c.args.stem.now c.args.name.now c.args.vers.now c.args.digest.now w)),
)
