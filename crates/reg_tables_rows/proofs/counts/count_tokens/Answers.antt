use Rattle.reg_tables_rows.proofs.Words.{◌≡◌, ◌+◌, length, arith, refl, state, next_id}
use Rattle.reg_tables_represent.specs.Stands.{row_of_token}
use Rattle.reg_tables_rows.proofs.counts.count_tokens.Goals as goal

pub returns-clause-counted : goal.returns-clause-counted
returns-clause-counted g c clean ids s h =
    let db = (state g.S.Store c.args.conn.now).now.trees in
    let is : c.next.result ≡ 1 + length s.tokens = next_id row_of_token (λ e. refl) s.tokens (db 3) c.in_ok-last.last c.next.result h.stands.tokens.rows (c.in_ok-last.ensures.told clean) c.next.ensures.next in
    omega (arith, is)
