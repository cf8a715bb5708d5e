use Rattle.reg_tables_rows.proofs.Words.{◌≡◌, ◌+◌, length, arith, refl, state, next_id}
use Rattle.reg_tables_represent.specs.Stands.{row_of_account}
use Rattle.reg_tables_rows.proofs.counts.count_accounts.Goals as goal

pub returns-clause-counted : goal.returns-clause-counted
returns-clause-counted g c clean ids s h =
    let db = (state g.S.Store c.args.conn.now).now.trees in
    let is : c.next.result ≡ 1 + length s.accounts = next_id row_of_account (λ e. refl) s.accounts (db 1) c.in_ok-last.last c.next.result h.stands.accounts.rows (c.in_ok-last.ensures.told clean) c.next.ensures.next in
    omega (arith, is)
