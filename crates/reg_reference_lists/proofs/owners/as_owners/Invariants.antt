use Rattle.reg_reference_lists.proofs.Words.{◌≡◌, map, take, owner_by, owner_of}
use Rattle.reg_reference_lists.proofs.owners.as_owners.Given as goal

abbrev pub invariant-loop-account : goal.invariant-loop-account
invariant-loop-account l = map owner_of l.owners.items ≡ map (owner_by l.name) (take l.account-index l.accounts)
