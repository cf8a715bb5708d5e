use Rattle.reg_tables_represent.proofs.Words.{Account, StandAccounts, StandsBy, row_of_account}
use Rattle.reg_tables_represent.proofs.Common.{◌≡◌, arith, Database, HasCleanDisk, option_map, refl, state, subst, sym, true}
use Rattle.reg_tables_represent.proofs.NextId.{next_id}
use Rattle.reg_tables_represent.proofs.Standing.{adds_account}
use Rattle.reg_tables_represent.proofs.Stays.{with_accounts}
use Rattle.reg_tables_represent.proofs.Writings.{◌⨾◌, adds, ends, fails, reads}
use Rattle.reg_tables_represent.proofs.accounts.add.Goals as goal

pub returns-clause-stands : goal.returns-clause-stands
returns-clause-stands g c clean ids s h =
    let stands = h.stands in
    let old = state g.S.Store c.args.conn.now in
    let mid = state g.S.Store c.last_id.new.conn in
    let new = state g.S.Store c.insert.new.conn in
    let early : HasCleanDisk mid = omega (arith, c.insert.ensures.survives.clean) in
    let same : mid.now ≡ old.now = (c.in_ok-last.ensures.only early).0.0.now_is in
    let a : Account = record { login = c.args.login.now; name = option_map (λ n. n.now) c.args.name; enabled = true } in
    let id : c.in_ok-id.id ≡ _ = next_id row_of_account (λ e. refl) s.accounts (old.now.trees 1) _ c.in_ok-id.id stands.accounts.rows (c.in_ok-last.ensures.told early) c.in_ok-id.ensures in
    let put = c.in_ok-insert.ensures.changes clean in
    let then = subst (λ (d : Database). StandAccounts s.accounts d.trees) (sym same) stands.accounts in
    let after = adds_account s.accounts a mid new then c.in_ok-id.id id put in
    (id, with_accounts ids s mid.now.trees new.now.trees (subst (λ (d : Database). StandsBy ids s d.trees) (sym same) stands) _ put.becomes.others after)

pub returns-in_err-last-clause-leaves : goal.returns-in_err-last-clause-leaves
returns-in_err-last-clause-leaves g c = fails _ c.from_residual.ensures.0 (reads c.in_err-last.ensures) c.requires

pub returns-in_err-id-clause-leaves : goal.returns-in_err-id-clause-leaves
returns-in_err-id-clause-leaves g c = ends (reads c.in_ok-last.ensures) c.requires

pub returns-in_err-insert-clause-leaves : goal.returns-in_err-insert-clause-leaves
returns-in_err-insert-clause-leaves g c =
    fails _ c.from_residual-in_err-insert.ensures.0 (reads c.in_ok-last.ensures ⨾ adds c.in_err-insert.ensures) c.requires

pub returns-clause-leaves : goal.returns-clause-leaves
returns-clause-leaves g c = ends (reads c.in_ok-last.ensures ⨾ adds c.in_ok-insert.ensures) c.requires
