use Rattle.reg_tables_represent.proofs.Words.{columns_of_scope, IfOk-from_err, IsRow, StandsSoundBy}
use Rattle.reg_tables_represent.proofs.Common.{Database, map, rows_in, Some, subst, sym}
use Rattle.reg_tables_represent.specs.FoundTokens.{entry_of_row}
use Rattle.reg_tables_represent.proofs.Readings.{◌⨾◌, fails, left, same_now, so_far, was_clean}
use Rattle.reg_tables_represent.proofs.ScopeRows.{lists_its_scopes}
use Rattle.reg_tables_represent.proofs.tokens.find.Goals as goal

pub returns-in_ok-scopes-in-Some-clause-found : goal.returns-in_ok-scopes-in-Some-clause-found
returns-in_ok-scopes-in-Some-clause-found g c clean ids s h =
    let digest = c.args.digest.now in
    let token = c.in-Some.token in
    let early = was_clean (left c.in_ok-scopes-in-Some.ensures) clean in
    let same = same_now c.in_ok-find_row.ensures.same early in
    let row : IsRow s digest (Some token) = subst (IsRow s digest) c.in-Some.is (c.in_ok-find_row.ensures.found early ids s h) in
    let t = (entry_of_row digest row.0 token).1 in
    let now = subst (λ (d : Database). StandsSoundBy ids s d.trees) (sym same) h in
    (row.0, row.1, row.2, row.3, lists_its_scopes token.id s.tokens (rows_in g.S.Store c.find_row.new.conn) now.stands.tokens t row.2 (map columns_of_scope c.in_ok-scopes-in-Some.scopes.items) (c.in_ok-scopes-in-Some.ensures.told clean))

pub returns-in_ok-scopes-in-Some-clause-same : goal.returns-in_ok-scopes-in-Some-clause-same
returns-in_ok-scopes-in-Some-clause-same g c = so_far (c.in_ok-find_row.ensures.same ⨾ left c.in_ok-scopes-in-Some.ensures)

pub returns-in_err-find_row : goal.returns-in_err-find_row
returns-in_err-find_row g c =
    let stop = c.from_residual in
    record { found = λ clean. IfOk-from_err _ _ stop.ensures.0; same = fails _ stop.ensures.0 c.in_err-find_row.ensures.same }

pub returns-in-None-clause-same : goal.returns-in-None-clause-same
returns-in-None-clause-same g c = so_far c.in_ok-find_row.ensures.same

pub returns-in_err-scopes-in-Some : goal.returns-in_err-scopes-in-Some
returns-in_err-scopes-in-Some g c =
    let stop = c.from_residual-in_err-scopes-in-Some in
    record { found = λ clean. IfOk-from_err _ _ stop.ensures.0; same = fails _ stop.ensures.0 (c.in_ok-find_row.ensures.same ⨾ left c.in_err-scopes-in-Some.ensures) }
