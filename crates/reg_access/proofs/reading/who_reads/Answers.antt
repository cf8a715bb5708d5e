use Rattle.reg_access.proofs.Questions.{asks_after, asks_both, asks_failed, asks_made, asks_refused}
use Rattle.reg_access.proofs.ReadLaw.{readers_found}
use Rattle.reg_access.proofs.reading.who_reads.Goals as goal

pub returns-in-Ok : goal.returns-in-Ok
returns-in-Ok g c =
    asks_made g.S.Store (c.in_ok-found.found, c.in_ok-accounts.accounts) c.in-Ok.list c.args.work.now c.find_readers.new.work
    (λ h. readers_found _ c.args.name.now c.in_ok-found.found c.in_ok-accounts.accounts.items c.in-Ok.list.items (rw c.canon.ensures at h.0) h.1 (rw c.deref.ensures.value at c.in-Ok.ensures))
    (asks_both g.S.Store c.in_ok-found.found c.in_ok-accounts.accounts c.args.work.now c.find_named.new.work c.find_readers.new.work c.in_ok-found.ensures c.in_ok-accounts.ensures)

pub returns : goal.returns
returns g c =
    asks_refused g.S.Store (c.in_ok-found.found, c.in_ok-accounts.accounts) c.fail.result c.args.work.now c.find_readers.new.work c.fail.new.self c.fail.ensures.fails
    (asks_both g.S.Store c.in_ok-found.found c.in_ok-accounts.accounts c.args.work.now c.find_named.new.work c.find_readers.new.work c.in_ok-found.ensures c.in_ok-accounts.ensures) c.fail.ensures.leaves

pub returns-in_err-accounts : goal.returns-in_err-accounts
returns-in_err-accounts g c =
    asks_after g.S.Store c.in_ok-found.found _ c.args.work.now c.find_named.new.work c.find_readers.new.work c.in_ok-found.ensures
    (asks_failed g.S.Store _ _ c.find_named.new.work c.find_readers.new.work c.from_residual-in_err-accounts.ensures.0 c.in_err-accounts.ensures)
