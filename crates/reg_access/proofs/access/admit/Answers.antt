use Rattle.reg_access.proofs.Words.{ap, ◌∙◌, action_of, decision_of, rows_seen}
use Rattle.reg_tables_represent.proofs.Results.{if_ok}
use Rattle.reg_access.proofs.Admitting.{principal_told}
use Rattle.reg_access.proofs.JoinLaw.{joins_decide}
use Rattle.reg_access.proofs.access.admit.Goals as goal

pub returns-clause-decided : goal.returns-clause-decided
returns-clause-decided g c clean = if_ok c.judge.result (λ m told. told.decided) (c.judge.ensures.asks.told clean)

pub returns-clause-policy : goal.returns-clause-policy
returns-clause-policy g c clean =
    if_ok c.judge.result
    (λ m told ids s holds. told.decided ∙ ap decision_of (joins_decide ids s (rows_seen g.S.Store c.args.work.now) holds.sound holds.stands c.args.digest.now (action_of c.args.action.now) c.fits.ensures)) (c.judge.ensures.asks.told clean)

pub returns-clause-found : goal.returns-clause-found
returns-clause-found g c clean =
    if_ok c.judge.result
    (λ m told. principal_told c.args.digest.now (action_of c.args.action.now) (rows_seen g.S.Store c.args.work.now) m told) (c.judge.ensures.asks.told clean)
