use Rattle.reg_service_requests.proofs.OwningRuns.{AreSet}
use Rattle.reg_service_requests.proofs.owning.set_owners.Given as goal

abbrev pub invariant-loop-account : goal.invariant-loop-account
invariant-loop-account g l = AreSet g.S.Store l.are_owners l.crate_id l.accounts l.account-index l.initial.work l.work
