use Rattle.reg_access.proofs.Words.{action_of, rows_seen}
use Rattle.reg_access.proofs.Admitting.{admission_made}
use Rattle.reg_access.proofs.FoundFacts.{unknown_verdict}
use Rattle.reg_access.proofs.Questions.{asks_after, asks_both, asks_failed, asks_made}
use Rattle.reg_access.proofs.access.judge.Goals as goal

pub returns-in_default-clause-asks : goal.returns-in_default-clause-asks
returns-in_default-clause-asks g c =
    asks_made g.S.Store c.in_ok-token.field-0 _ c.args.work.now c.find_token.new.work
    (λ h. record { decided = unknown_verdict (rows_seen g.S.Store c.args.work.now) c.args.digest.now (action_of c.args.action.now) (rw c.in_default.is at h); shown = tt }) c.in_ok-token.ensures

pub returns-clause-asks : goal.returns-clause-asks
returns-clause-asks g c =
    asks_made g.S.Store (c.in_ok-token.field-0, c.in_ok-found.found) _ c.args.work.now c.find_all.new.work
    (λ h. admission_made c.args.digest.now (action_of c.args.action.now) (rows_seen g.S.Store c.args.work.now) c.in-Some.token c.in_ok-found.found c.admission_of.result (rw c.in-Some.is at h.0) h.1 c.admission_of.ensures)
    (asks_both g.S.Store c.in_ok-token.field-0 c.in_ok-found.found c.args.work.now c.find_token.new.work c.find_all.new.work c.in_ok-token.ensures c.in_ok-found.ensures)

pub returns-in_err-found-clause-asks : goal.returns-in_err-found-clause-asks
returns-in_err-found-clause-asks g c =
    asks_after g.S.Store c.in_ok-token.field-0 _ c.args.work.now c.find_token.new.work c.find_all.new.work c.in_ok-token.ensures
    (asks_failed g.S.Store _ _ c.find_token.new.work c.find_all.new.work c.from_residual-in_err-found.ensures.0 c.in_err-found.ensures)
