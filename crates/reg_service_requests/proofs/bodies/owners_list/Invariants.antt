use Rattle.reg_service_requests.proofs.Words.{◌≡◌, map, take, owner_of_account}
use Rattle.reg_service_requests.proofs.bodies.owners_list.Given as goal

-- the owners so far are in the list
abbrev pub invariant-loop-owner : goal.invariant-loop-owner
invariant-loop-owner l = l.body ≡ map owner_of_account (take l.owner-index l.owners)
