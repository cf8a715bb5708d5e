use Rattle.reg_tables_represent.proofs.Words.{scope_of, GivesPatterns, Within}
use Rattle.reg_tables_represent.proofs.Common.{◌+◌, AddsColumns, arith, HasCleanDisk, state, subst, survives_then, take}
use Rattle.reg_tables_represent.proofs.TokenChanges.{gives_next, gives_all}
use Rattle.reg_tables_represent.proofs.Withins.{within_then}
use Rattle.reg_tables_represent.proofs.Writings.{◌⨾◌, ends, fails, steps, went}
use Rattle.reg_tables_represent.proofs.tokens.add_scopes.Goals as goal

pub loop-index-preserved : goal.loop-index-preserved
loop-index-preserved g c =
    let first = state g.S.Store c.args.conn.now in
    let old = state g.S.Store c.loop-index.conn in
    let new = state g.S.Store c.add_scope.new.conn in
    let early : HasCleanDisk new → HasCleanDisk old = λ clean. omega (arith, clean, c.add_scope.ensures.leaves.survives.clean) in
    let pattern = c.index-patterns-index.result in
    let given : HasCleanDisk new → GivesPatterns c.args.token (take (c.loop-index.index + 1) c.args.patterns.now) first.now.trees new.now.trees = λ clean.
    let added = subst (λ k. AddsColumns 5 (scope_of c.args.token (k, pattern)) old new) c.in_ok-place.ensures (c.in_ok-add_scope.ensures.added clean) in
    gives_next c.args.token c.args.patterns.now c.loop-index.index pattern first.now.trees old new c.loop-index-test.true c.index-patterns-index.is (c.loop-index.invariant.0 (early clean)) added in
    let within : HasCleanDisk new → Within first new = λ clean. within_then first old new (c.loop-index.invariant.1 (early clean)) (c.in_ok-add_scope.ensures.leaves.within clean) in
    (given, within, survives_then first old new _ _ _ (λ _ _ h. h) (λ _ _ h. h) c.loop-index.invariant.2 c.add_scope.ensures.leaves.survives)

pub returns-in_err-add_scope-clause-leaves : goal.returns-in_err-add_scope-clause-leaves
returns-in_err-add_scope-clause-leaves g c =
    let before = went (state g.S.Store c.args.conn.now) (state g.S.Store c.loop-index.conn) c.loop-index.invariant.1 c.loop-index.invariant.2 in
    fails _ c.from_residual-in_err-add_scope.ensures.0 (before ⨾ steps c.in_err-add_scope.ensures.leaves) c.requires

pub returns-clause-given : goal.returns-clause-given
returns-clause-given g c clean =
    gives_all c.args.token c.args.patterns.now c.loop-index.index (state g.S.Store c.args.conn.now).now.trees (state g.S.Store c.loop-index.conn).now.trees c.loop-index-test.false (c.loop-index.invariant.0 clean)

pub returns-in_err-place-clause-leaves : goal.returns-in_err-place-clause-leaves
returns-in_err-place-clause-leaves g c =
    ends (went (state g.S.Store c.args.conn.now) (state g.S.Store c.loop-index.conn) c.loop-index.invariant.1 c.loop-index.invariant.2) c.requires

pub returns-clause-leaves : goal.returns-clause-leaves
returns-clause-leaves g c =
    ends (went (state g.S.Store c.args.conn.now) (state g.S.Store c.loop-index.conn) c.loop-index.invariant.1 c.loop-index.invariant.2) c.requires
