use Rattle.std.proofs.Common.{◌+◌, [], ◌∷◌, arith, inl, inr, refl, subst}
use Rattle.sqlite.specs.Files.{file_state, over_files}
use Rattle.reg_http.specs.Trails.{tail}
use Rattle.reg_cli.specs.Openings.{FindsLeft}
use Rattle.reg_cli.specs.Rounds.{Round, ServesOpenings}
use Rattle.reg_cli.proofs.serving.serve_openings.Goals as goal

pub openings-init : goal.openings-init
openings-init g c = record {
  counts = omega (arith, c.requires.none);
  begun = c.requires.begun;
  rounds = (0, omega arith, [], (refl, refl, refl));
}

pub serve_store-requires-clause-begun : goal.serve_store-requires-clause-begun
serve_store-requires-clause-begun g c = c.openings.invariant.begun

pub returns-then-left-eq0-clause-served : goal.returns-then-left-eq0-clause-served
returns-then-left-eq0-clause-served g c = omega (arith, c.in_ok-served.ensures.counts, c.openings.invariant.counts, c.if-left-eq0.true)

pub returns-then-left-eq0-clause-rounds : goal.returns-then-left-eq0-clause-rounds
returns-then-left-eq0-clause-rounds g c =
    let it = rw c.in_default-served.is at c.in_ok-served.ensures.served in
    let so_far = c.openings.invariant.rounds in
    let start = tail (g.T.Write.contents c.args.trail.now.end.inner) c.args.trail.now in
    subst (λ limits. ServesOpenings over_files limits c.args.conn start c.args.service.now.connections (tail (g.T.Write.contents c.serve_store.new.trail.end.inner) c.serve_store.new.trail)) c.limits-limits.ensures (record {
      earlier = so_far.2;
      before = so_far.0;
      found = c.openings.conn;
      trail = tail (g.T.Write.contents c.openings.trail.end.inner) c.openings.trail;
      rounds = so_far.3;
      last = it.0;
      number = it.1;
      end = it.5;
      count = omega (arith, so_far.1, it.3, c.if-left-eq0.true);
    })

pub openings-smaller : goal.openings-smaller
openings-smaller g c =
    let it = rw c.in_default-served.is at c.in_ok-served.ensures.served in
    elim it.4 [ inl none ↦ omega (arith, none, c.if-left-eq0.false) | inr more ↦ more.1 ]

pub openings-preserved : goal.openings-preserved
openings-preserved g c =
    let it = rw c.in_default-served.is at c.in_ok-served.ensures.served in
    let so_far = c.openings.invariant.rounds in
    let round : Round _ = record {
      found = c.openings.conn;
      last = it.0;
      number = it.1;
      trail = tail (g.T.Write.contents c.openings.trail.end.inner) c.openings.trail;
    } in
    record {
      counts = omega (arith, c.in_ok-served.ensures.counts, c.openings.invariant.counts);
      begun = c.in_ok-conn.ensures.new.autocommit;
      rounds = (
        so_far.0 + it.1,
        omega (arith, so_far.1, it.3),
        round ∷ so_far.2,
        (
          so_far.0,
          refl,
          so_far.3,
          it.5,
          elim it.4 [ inl none ↦ absurd (omega (arith, none, c.if-left-eq0.false)) | inr more ↦ more.0 ],
          subst (λ h. FindsLeft (file_state h) (file_state c.in_ok-conn.conn)) it.2 c.in_ok-conn.ensures.found,
        ),
      );
    }
