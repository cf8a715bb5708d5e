use Rattle.std.proofs.Common.{◌∙◌, ◌+◌, arith, inl, inr, refl, subst, sym}
use Rattle.reg_http.specs.Trails.{tail}
use Rattle.reg_cli_run.specs.Limited.{HasTurns}
use Rattle.reg_cli_run.proofs.Visiting.{Joins, tried_on, tries_then, visits_nothing}
use Rattle.reg_cli_run.proofs.connections.serve_connections.Goals as goal

pub connections-init : goal.connections-init
connections-init g c = record {
  turns = c.requires.turns;
  counts = refl;
  fewer = omega arith;
  number = 0;
  of_all = omega arith;
  serves = visits_nothing g.S.Store c.history_law.ensures.begins (g.D.Door.log c.args.door.now) c.args.registry.now (tail (g.T.Write.contents c.args.trail.now.end.inner) c.args.trail.now);
}

pub serve_next-requires : goal.serve_next-requires
serve_next-requires g c = record { turns = c.connections.invariant.turns; room = omega (arith, c.connections.invariant.counts, c.connections-test.true, c.requires.room) }

pub connections-preserved : goal.connections-preserved
connections-preserved g c =
    let so_far = c.connections.invariant in
    let it = c.in_ok-stopped.ensures in
    let joins : Joins g.S.Store = record { join = c.joined_law.ensures; tells = c.telling_law.ensures.join } in
    let both = tries_then g.S.Store joins so_far.number 1 _ _ _ _ _ _ _ _ _ so_far.serves it.serves in
    record {
      turns = subst HasTurns (sym (it.serves.limits ∙ it.serves.visits.keeps.limits)) so_far.turns;
      counts = omega (arith, so_far.counts, it.counts, c.connections-test.true);
      fewer = omega (arith, so_far.fewer);
      number = so_far.number + 1;
      of_all = omega (arith, so_far.of_all, c.connections-test.true);
      serves = tried_on g.S.Store c.tried_law.ensures (so_far.number + 1) _ _ _ _ _ _ both (sym it.told ∙ c.if-stopped.false);
    }

pub returns-in_err-stopped-clause-counts : goal.returns-in_err-stopped-clause-counts
returns-in_err-stopped-clause-counts g c = rw c.in_err-stopped.ensures.counts.1 c.connections.invariant.counts

pub returns-in_err-stopped-clause-serves : goal.returns-in_err-stopped-clause-serves
returns-in_err-stopped-clause-serves g c =
    let so_far = c.connections.invariant in
    let it = c.in_err-stopped.ensures in
    (so_far.number, so_far.of_all, inl (rw (it.counts.2, it.counts.3, it.counts.4) so_far.serves))

pub returns-then-stopped-clause-counts : goal.returns-then-stopped-clause-counts
returns-then-stopped-clause-counts g c = omega (arith, c.connections.invariant.counts, c.in_ok-stopped.ensures.counts, c.connections-test.true)

pub returns-then-stopped-clause-ok : goal.returns-then-stopped-clause-ok
returns-then-stopped-clause-ok g c = inr (sym c.in_ok-stopped.ensures.told ∙ c.if-stopped.true, omega (arith, c.connections.invariant.fewer, c.connections-test.true))

pub returns-then-stopped-clause-serves : goal.returns-then-stopped-clause-serves
returns-then-stopped-clause-serves g c =
    let so_far = c.connections.invariant in
    let it = c.in_ok-stopped.ensures in
    let joins : Joins g.S.Store = record { join = c.joined_law.ensures; tells = c.telling_law.ensures.join } in
    (so_far.number + 1, omega (arith, so_far.of_all, c.connections-test.true), inr (tries_then g.S.Store joins so_far.number 1 _ _ _ _ _ _ _ _ _ so_far.serves it.serves, sym it.told ∙ c.if-stopped.true))

pub returns-clause-counts : goal.returns-clause-counts
returns-clause-counts g c = c.connections.invariant.counts

pub returns-clause-serves : goal.returns-clause-serves
returns-clause-serves g c = (c.connections.invariant.number, c.connections.invariant.of_all, inl c.connections.invariant.serves)
