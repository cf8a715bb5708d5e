use Rattle.reg_tables_represent.proofs.Words.{IfOk-from_err, columns_of_scope, StandsSoundBy}
use Rattle.reg_tables_represent.proofs.Common.{Database, map, rows_in, subst, sym}
use Rattle.reg_tables_represent.proofs.Readings.{◌⨾◌, fails, left, same_now, so_far, was_clean}
use Rattle.reg_tables_represent.proofs.ScopeRows.{lists_scopes}
use Rattle.reg_tables_represent.proofs.TokenEntries.{lists_tokens}
use Rattle.reg_tables_represent.proofs.tokens.list_both.Goals as goal

pub returns-clause-tokens : goal.returns-clause-tokens
returns-clause-tokens g c clean ids s h =
    let early = was_clean (left c.in_ok-scopes.ensures) clean in
    lists_tokens s.tokens (rows_in g.S.Store c.args.conn.now) h.stands.tokens c.in_ok-tokens.tokens.items (c.in_ok-tokens.ensures.told early)

pub returns-clause-scopes : goal.returns-clause-scopes
returns-clause-scopes g c clean ids s h =
    let same = same_now (left c.in_ok-tokens.ensures) (was_clean (left c.in_ok-scopes.ensures) clean) in
    let now = subst (λ (d : Database). StandsSoundBy ids s d.trees) (sym same) h in
    lists_scopes s.tokens (rows_in g.S.Store c.all.new.conn) now.stands.tokens (map columns_of_scope c.in_ok-scopes.scopes.items) (c.in_ok-scopes.ensures.told clean)

pub returns-clause-same : goal.returns-clause-same
returns-clause-same g c = so_far (left c.in_ok-tokens.ensures ⨾ left c.in_ok-scopes.ensures)

pub returns-in_err-tokens : goal.returns-in_err-tokens
returns-in_err-tokens g c =
    let stop = c.from_residual.ensures.0 in
    record { tokens = λ clean. IfOk-from_err _ _ stop; scopes = λ clean. IfOk-from_err _ _ stop; same = fails _ stop (left c.in_err-tokens.ensures) }

pub returns-in_err-scopes : goal.returns-in_err-scopes
returns-in_err-scopes g c =
    let stop = c.from_residual-in_err-scopes.ensures.0 in
    record {
      tokens = λ clean. IfOk-from_err _ _ stop;
      scopes = λ clean. IfOk-from_err _ _ stop;
      same = fails _ stop (left c.in_ok-tokens.ensures ⨾ left c.in_err-scopes.ensures);
    }
