use Rattle.reg_tables_rows.proofs.Words.{archives_tree, AreReserved, HaveIds, ◌⨾◌, fails, left, so_far, told_before, was_clean}
use Rattle.reg_tables_rows.proofs.all_rows.other_tables.Goals as goal

pub returns-clause-base : goal.returns-clause-base
returns-clause-base g c clean = c.in_ok-base.ensures.base (was_clean (c.in_ok-see_archives.ensures.same ⨾ left c.in_ok-reserved.ensures) clean)

pub returns-clause-archives : goal.returns-clause-archives
returns-clause-archives g c clean =
    told_before (λ db. HaveIds (db archives_tree)) c.in_ok-base.ensures.same c.in_ok-see_archives.ensures.same (was_clean (left c.in_ok-reserved.ensures) clean) c.in_ok-see_archives.ensures.ids

pub returns-clause-reserved : goal.returns-clause-reserved
returns-clause-reserved g c clean =
    told_before (λ db. AreReserved db c.in_ok-reserved.reserved.items) (c.in_ok-base.ensures.same ⨾ c.in_ok-see_archives.ensures.same) (left c.in_ok-reserved.ensures) clean c.in_ok-reserved.ensures.told

pub returns-clause-same : goal.returns-clause-same
returns-clause-same g c = so_far (c.in_ok-base.ensures.same ⨾ c.in_ok-see_archives.ensures.same ⨾ left c.in_ok-reserved.ensures)

pub returns-in_err-see_archives-clause-same : goal.returns-in_err-see_archives-clause-same
returns-in_err-see_archives-clause-same g c = fails _ c.from_residual-in_err-see_archives.ensures.0 (c.in_ok-base.ensures.same ⨾ c.in_err-see_archives.ensures.same)

pub returns-in_err-reserved-clause-same : goal.returns-in_err-reserved-clause-same
returns-in_err-reserved-clause-same g c =
    fails _ c.from_residual-in_err-reserved.ensures.0 (c.in_ok-base.ensures.same ⨾ c.in_ok-see_archives.ensures.same ⨾ left c.in_err-reserved.ensures)
