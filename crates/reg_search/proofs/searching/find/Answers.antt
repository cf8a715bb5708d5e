use Rattle.reg_search.proofs.Words.{refl, IfOk-from_err, rows_in, Second, FindsIds, ShowsCrates}
use Rattle.reg_search.proofs.ReadSteps.{◌⨾◌, fails, so_far, told_before, was_clean}
use Rattle.reg_search.proofs.Told.{all_found}
use Rattle.reg_search.proofs.searching.find.Goals as goal

pub walk-requires-clause-ours : goal.walk-requires-clause-ours
walk-requires-clause-ours g c = c.in_ok-hidden.ensures.reads.ours Second c.requires

pub read_page-requires-clause-ours : goal.read_page-requires-clause-ours
read_page-requires-clause-ours g c = c.in_ok-hits.ensures.reads.ours Second (c.in_ok-hidden.ensures.reads.ours Second c.requires)

pub read_page-requires-clause-open : goal.read_page-requires-clause-open
read_page-requires-clause-open g c clean = (c.in_ok-hits.ensures.reads.same clean).0.is_open

pub returns-in_err-hidden-clause-found : goal.returns-in_err-hidden-clause-found
returns-in_err-hidden-clause-found g c clean = IfOk-from_err _ _ c.from_residual.ensures.0

pub returns-in_err-hidden-clause-reads : goal.returns-in_err-hidden-clause-reads
returns-in_err-hidden-clause-reads g c = fails _ c.from_residual.ensures.0 c.in_err-hidden.ensures.reads

pub returns-in_err-hits-clause-found : goal.returns-in_err-hits-clause-found
returns-in_err-hits-clause-found g c clean = IfOk-from_err _ _ c.from_residual-in_err-hits.ensures.0

pub returns-in_err-hits-clause-reads : goal.returns-in_err-hits-clause-reads
returns-in_err-hits-clause-reads g c = fails _ c.from_residual-in_err-hits.ensures.0 (c.in_ok-hidden.ensures.reads ⨾ c.in_err-hits.ensures.reads)

pub returns-in_err-crates-clause-found : goal.returns-in_err-crates-clause-found
returns-in_err-crates-clause-found g c clean = IfOk-from_err _ _ c.from_residual-in_err-crates.ensures.0

pub returns-in_err-crates-clause-reads : goal.returns-in_err-crates-clause-reads
returns-in_err-crates-clause-reads g c = fails _ c.from_residual-in_err-crates.ensures.0 (c.in_ok-hidden.ensures.reads ⨾ c.in_ok-hits.ensures.reads ⨾ c.in_err-crates.ensures.reads)

pub returns-clause-reads : goal.returns-clause-reads
returns-clause-reads g c = so_far (c.in_ok-hidden.ensures.reads ⨾ c.in_ok-hits.ensures.reads ⨾ c.in_ok-crates.ensures.reads)

pub returns-clause-found : goal.returns-clause-found
returns-clause-found g c clean =
    let hidden = c.in_ok-hidden.hidden in
    let hits = c.in_ok-hits.hits in
    let crates = c.in_ok-crates.crates in
    let late = was_clean c.in_ok-crates.ensures.reads clean in
    let early = was_clean c.in_ok-hits.ensures.reads late in
    let finds = told_before (λ db. FindsIds c.args.needle.now hidden.items c.args.most db hits) c.in_ok-hidden.ensures.reads early
    (rw c.deref.ensures.value at (c.in_ok-hits.ensures.found late)) in
    let shows = told_before (λ db. ShowsCrates hits.ids.items db crates.items) (c.in_ok-hidden.ensures.reads ⨾ c.in_ok-hits.ensures.reads) late
    (rw c.deref-2.ensures.value at (c.in_ok-crates.ensures.shown clean)) in
    all_found (rows_in g.S.Store c.args.conn.now) c.args.viewer c.args.most c.args.needle.now hidden.items hits (record { total = hits.total; crates = crates })
    (rw c.needle.ensures at (c.in_ok-hidden.ensures.hidden early)) finds shows refl
