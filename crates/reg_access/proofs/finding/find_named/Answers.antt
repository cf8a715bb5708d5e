use Rattle.reg_access.proofs.Words.{action_of, rows_seen}
use Rattle.reg_access.proofs.FoundFacts.{named_found}
use Rattle.reg_access.proofs.Questions.{asks_after, asks_both, asks_failed, asks_made}
use Rattle.reg_access.proofs.finding.find_named.Goals as goal

pub returns-in_err-version : goal.returns-in_err-version
returns-in_err-version g c =
    asks_after g.S.Store c.in_ok-covered.covered _ c.args.work.now c.find_scopes.new.work c.find_version_named.new.work c.in_ok-covered.ensures
    (asks_after g.S.Store c.in_ok-row.row _ c.find_scopes.new.work c.find_crate.new.work c.find_version_named.new.work c.in_ok-row.ensures
    (asks_failed g.S.Store _ _ c.find_crate.new.work c.find_version_named.new.work c.from_residual-in_err-version.ensures.0 c.in_err-version.ensures))

pub returns-in_err-against : goal.returns-in_err-against
returns-in_err-against g c =
    asks_after g.S.Store c.in_ok-covered.covered _ c.args.work.now c.find_scopes.new.work c.stands_against.new.work c.in_ok-covered.ensures
    (asks_after g.S.Store c.in_ok-row.row _ c.find_scopes.new.work c.find_crate.new.work c.stands_against.new.work c.in_ok-row.ensures
    (asks_after g.S.Store c.in_ok-version.version _ c.find_crate.new.work c.find_version_named.new.work c.stands_against.new.work c.in_ok-version.ensures
    (asks_failed g.S.Store _ _ c.find_version_named.new.work c.stands_against.new.work c.from_residual-in_err-against.ensures.0 c.in_err-against.ensures)))

pub returns : goal.returns
returns g c =
    let db = rows_seen g.S.Store c.args.work.now in
    asks_made g.S.Store (((c.in_ok-covered.covered, c.in_ok-row.row), c.in_ok-version.version), c.in_ok-against.against) _ c.args.work.now c.stands_against.new.work
    (λ h. named_found (action_of c.args.action.now) c.args.name.now c.args.token.now.id c.args.token.now.account db _ c.requires.named h.0.0.0 h.0.0.1 h.0.1 h.1)
    (asks_both g.S.Store ((c.in_ok-covered.covered, c.in_ok-row.row), c.in_ok-version.version) c.in_ok-against.against c.args.work.now c.find_version_named.new.work c.stands_against.new.work
    (asks_both g.S.Store (c.in_ok-covered.covered, c.in_ok-row.row) c.in_ok-version.version c.args.work.now c.find_crate.new.work c.find_version_named.new.work
    (asks_both g.S.Store c.in_ok-covered.covered c.in_ok-row.row c.args.work.now c.find_scopes.new.work c.find_crate.new.work c.in_ok-covered.ensures (rw c.canon.ensures at c.in_ok-row.ensures)) c.in_ok-version.ensures) c.in_ok-against.ensures)

pub returns-in_err-row : goal.returns-in_err-row
returns-in_err-row g c =
    asks_after g.S.Store c.in_ok-covered.covered _ c.args.work.now c.find_scopes.new.work c.find_crate.new.work c.in_ok-covered.ensures
    (asks_failed g.S.Store _ _ c.find_scopes.new.work c.find_crate.new.work c.from_residual-in_err-row.ensures.0 c.in_err-row.ensures)
