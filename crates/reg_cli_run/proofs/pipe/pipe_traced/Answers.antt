use Rattle.std.proofs.Common.{[], inl, inr, length, refl, rules, subst}
use Rattle.reg_service.specs.Registries.{limits_of, tables_of}
use Rattle.reg_http.specs.Streams.{ServesTraced, trail_in}
use Rattle.reg_http.specs.Trails.{tail}
use Rattle.reg_http.proofs.Kept.{goes_on}
use Rattle.reg_http.proofs.Trails.{trailed_on, trails_both}
use Rattle.reg_cli_run.specs.Lines.{lines_in}
use Rattle.reg_cli_run.specs.Setups.{trail_done}
use Rattle.reg_cli_run.proofs.pipe.pipe_traced.Goals as goal

pub serve_traced-requires : goal.serve_traced-requires
serve_traced-requires g c =
    let keeps = c.in_default.ensures.keeps in
    record { reads = rw keeps.limits c.requires.reads; writes = rw keeps.limits c.requires.writes }

pub returns-in-Err : goal.returns-in-Err
returns-in-Err g c =
    let up = c.in-Err.ensures in
    record {
      piped = λ clean s shows.
          (let done = up.done clean s shows in
          (inl (record { fault = c.in-Err.fault; set_up = done.0; ends = c.exit_of_setup.ensures; unread = refl; unwritten = refl }), done.1));
      spends = inl (refl, refl);
      told = up.told;
      keeps = up.keeps;
    }

pub returns : goal.returns
returns g c =
    let limits = limits_of c.args.registry.now in
    let entry = tables_of c.args.registry.now in
    let lines = lines_in c.args.setup.now in
    let between = tables_of c.setup_traced.new.registry in
    let now = tables_of c.serve_traced.new.registry in
    let k0 = tail (g.T.Write.contents c.args.trail.now.end.inner) c.args.trail.now in
    let k1 = tail (g.T.Write.contents c.setup_traced.new.trail.end.inner) c.setup_traced.new.trail in
    let k2 = tail (g.T.Write.contents c.serve_traced.new.trail.end.inner) c.serve_traced.new.trail in
    let read = g.R.Read.remaining in
    let held = g.W.Write.contents in
    record {
      piped = λ clean s shows.
          (let up = c.in_default.ensures.done (c.serve_traced.ensures.keeps.clean clean) s shows in
          let after = up.0.done.after in
          let (xs, run, served, tells) = subst
          (λ l. ServesTraced g.S.Store l after between now k1 k2 (read c.args.r.now.inner) (read c.serve_traced.new.r.inner) (held c.args.w.now.inner) (held c.serve_traced.new.w.inner) c.serve_traced.result)
          c.setup_traced.ensures.keeps.limits (c.serve_traced.ensures.serves clean after up.0.done.ran.shows) in (
            inr (record { between = between; set_up = up.0; result = c.serve_traced.result; serves = (xs, run, served); ends = c.exit_of_stream.ensures }),
            trails_both k0 k1 k2 (trail_done g.S.Store limits s entry lines between (length lines) [] up.0.done) (trail_in limits after xs) up.1 tells,
          ));
      spends = search rules;
      told = trailed_on k0 k1 k2 c.setup_traced.ensures.told c.serve_traced.ensures.told;
      keeps = goes_on c.setup_traced.ensures.keeps c.serve_traced.ensures.keeps;
    }
