use Rattle.reg_service_requests.proofs.Words.{sym, subst, SetsOwner, runs_as}
use Rattle.reg_tables.specs.Calling.{UpdatesBy}
use Rattle.reg_service_requests.proofs.owning.set_owner.Goals as goal

pub returns-then-is_owner : goal.returns-then-is_owner
returns-then-is_owner g c =
    subst (λ b. UpdatesBy g.S.Store c.args.work.now c.add_owner.new.self c.add_owner.result (SetsOwner b c.args.crate_id c.args.account)) (sym c.if-is_owner.true)
    (runs_as g.S.Store c.add_owner.result c.args.work.now c.add_owner.new.self (λ added sets. sets.0) c.add_owner.ensures)

pub returns-else-is_owner : goal.returns-else-is_owner
returns-else-is_owner g c =
    subst (λ b. UpdatesBy g.S.Store c.args.work.now c.remove_owner.new.self c.remove_owner.result (SetsOwner b c.args.crate_id c.args.account)) (sym c.if-is_owner.false)
    (runs_as g.S.Store c.remove_owner.result c.args.work.now c.remove_owner.new.self (λ removed sets. sets.0) c.remove_owner.ensures)
