use Rattle.reg_tables_represent.proofs.Words.{higher_of, line_length, HasVersion}
use Rattle.reg_tables_represent.proofs.Common.{◌+◌, ◌∙◌, Database, subst, sym}
use Rattle.reg_tables_represent.proofs.Readings.{◌⨾◌, fails, same_now, so_far, was_clean}
use Rattle.reg_tables_represent.proofs.summaries.numbers_with.Goals as goal

pub returns-clause-told : goal.returns-clause-told
returns-clause-told g c clean top next was e has a b =
    let clean_two = was_clean c.in_ok-next.ensures.same clean in
    let clean_one = was_clean c.in_ok-top.ensures.same clean_two in
    let same_one = same_now c.in_ok-kept.ensures.same clean_one in
    let same_two = same_now (c.in_ok-kept.ensures.same ⨾ c.in_ok-top.ensures.same) clean_two in
    let kept = c.in_ok-kept.ensures.told clean_one top.id was has in
    let first = c.in_ok-top.ensures.told clean_two top (sym kept.0) (subst (λ (db : Database). HasVersion top db.trees) (sym same_one) a) in
    let second = c.in_ok-next.ensures.told clean next e (subst (λ (db : Database). HasVersion next db.trees) (sym same_two) b) in (
      c.in_ok-highest.ensures ∙ (λ i. (higher_of (first i) (second i)).id),
      c.in_ok-index_length.ensures ∙ (λ i. kept.1 i + line_length (second i)),
    )

pub returns-in_err-top-clause-same : goal.returns-in_err-top-clause-same
returns-in_err-top-clause-same g c = fails _ c.from_residual-in_err-top.ensures.0 (c.in_ok-kept.ensures.same ⨾ c.in_err-top.ensures.same)

pub returns-in_err-next-clause-same : goal.returns-in_err-next-clause-same
returns-in_err-next-clause-same g c =
    fails _ c.from_residual-in_err-next.ensures.0 (c.in_ok-kept.ensures.same ⨾ c.in_ok-top.ensures.same ⨾ c.in_err-next.ensures.same)

pub returns-in_err-highest-clause-same : goal.returns-in_err-highest-clause-same
returns-in_err-highest-clause-same g c = so_far (c.in_ok-kept.ensures.same ⨾ c.in_ok-top.ensures.same ⨾ c.in_ok-next.ensures.same)

pub returns-in_err-index_length-clause-same : goal.returns-in_err-index_length-clause-same
returns-in_err-index_length-clause-same g c = so_far (c.in_ok-kept.ensures.same ⨾ c.in_ok-top.ensures.same ⨾ c.in_ok-next.ensures.same)

pub returns-clause-same : goal.returns-clause-same
returns-clause-same g c = so_far (c.in_ok-kept.ensures.same ⨾ c.in_ok-top.ensures.same ⨾ c.in_ok-next.ensures.same)
