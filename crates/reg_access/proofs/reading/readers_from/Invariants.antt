use Rattle.reg_access.proofs.Words.{◌≡◌, map, take, reader_of}
use Rattle.reg_access.proofs.reading.readers_from.Given as goal

-- the accounts so far are readers
abbrev pub invariant-loop-account : goal.invariant-loop-account
invariant-loop-account l = l.list.items ≡ map reader_of (take l.account-index l.accounts)
