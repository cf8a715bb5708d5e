use Rattle.std.proofs.Common.{drop}
use Rattle.reg_service_requests.proofs.OwningIds.{texts_of}
use Rattle.reg_service_requests.proofs.OwningRuns.{AreFound}
use Rattle.reg_service_requests.proofs.owning.find_all_known.Given as goal

abbrev pub invariant-loop-login : goal.invariant-loop-login
invariant-loop-login g l = AreFound g.S.Store (texts_of l.logins) (texts_of (drop l.login-index l.logins)) l.ids.items l.initial.work l.work
