use Rattle.reg_service_requests.proofs.Words.{drop, has_login, entries_of, id_among}
use Rattle.reg_service_requests.proofs.OwningIds.{IsSoFar, texts_of}
use Rattle.reg_service_requests.proofs.owning.ids_of_owners.Given as goal

abbrev pub invariant-loop-login : goal.invariant-loop-login
invariant-loop-login l = IsSoFar (has_login (entries_of l.owners)) (id_among (entries_of l.owners)) (texts_of l.logins) (texts_of (drop l.login-index l.logins)) l.ids.items
