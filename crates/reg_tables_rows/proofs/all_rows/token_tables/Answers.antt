use Rattle.reg_tables_sql.specs.Tokens.{AreTokens}
use Rattle.reg_tables_represent.proofs.Readings.{◌⨾◌, fails, left, so_far, told_before, was_clean}
use Rattle.reg_tables_rows.proofs.all_rows.token_tables.Goals as goal

pub returns-clause-accounts : goal.returns-clause-accounts
returns-clause-accounts g c clean = c.in_ok-all.ensures.told (was_clean (left c.in_ok-all-2.ensures ⨾ left c.in_ok-all-3.ensures) clean)

pub returns-clause-tokens : goal.returns-clause-tokens
returns-clause-tokens g c clean =
    told_before (λ db. AreTokens db c.in_ok-all-2.field-0.items) (left c.in_ok-all.ensures) (left c.in_ok-all-2.ensures) (was_clean (left c.in_ok-all-3.ensures) clean) c.in_ok-all-2.ensures.told

pub returns-clause-same : goal.returns-clause-same
returns-clause-same g c = so_far (left c.in_ok-all.ensures ⨾ left c.in_ok-all-2.ensures ⨾ left c.in_ok-all-3.ensures)

pub returns-in_err-all-2-clause-same : goal.returns-in_err-all-2-clause-same
returns-in_err-all-2-clause-same g c = fails _ c.from_residual-in_err-all-2.ensures.0 (left c.in_ok-all.ensures ⨾ left c.in_err-all-2.ensures)

pub returns-in_err-all-3-clause-same : goal.returns-in_err-all-3-clause-same
returns-in_err-all-3-clause-same g c = fails _ c.from_residual-in_err-all-3.ensures.0 (left c.in_ok-all.ensures ⨾ left c.in_ok-all-2.ensures ⨾ left c.in_err-all-3.ensures)
