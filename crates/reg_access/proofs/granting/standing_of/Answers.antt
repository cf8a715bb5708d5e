use Rattle.reg_access.proofs.Questions.{asks_after, asks_both, asks_failed, asks_made}
use Rattle.reg_access.proofs.granting.standing_of.Goals as goal

pub returns-in_err-taken : goal.returns-in_err-taken
returns-in_err-taken g c =
    asks_after g.S.Store c.in_ok-owners.owners _ c.args.work.now c.find_owners.new.work c.is_taken.new.work c.in_ok-owners.ensures
    (asks_failed g.S.Store _ _ c.find_owners.new.work c.is_taken.new.work c.from_residual-in_err-taken.ensures.0 c.in_err-taken.ensures)

pub returns : goal.returns
returns g c =
    asks_made g.S.Store (c.in_ok-owners.owners, c.in_ok-taken.taken) _ c.args.work.now c.is_taken.new.work (λ h. h)
    (asks_both g.S.Store c.in_ok-owners.owners c.in_ok-taken.taken c.args.work.now c.find_owners.new.work c.is_taken.new.work c.in_ok-owners.ensures c.in_ok-taken.ensures)
