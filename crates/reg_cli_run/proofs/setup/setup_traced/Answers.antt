use Rattle.std.proofs.Common.{◌≡◌, ◌<◌, ◌∙◌, ap, arith, length, subst, sym}
use Rattle.std.proofs.lemmas.List.{length-map}
use Rattle.std.proofs.lemmas.Result.{err_from_is_err_and}
use Rattle.reg_service.specs.Registries.{limits_of, tables_of}
use Rattle.reg_http.specs.Trails.{tail}
use Rattle.reg_http.proofs.Exchanged.{EventsGoOn}
use Rattle.reg_http.proofs.Kept.{goes_on, still}
use Rattle.reg_http.proofs.Trails.{trailed_nothing, trailed_on}
use Rattle.reg_cli_run.specs.Lines.{lines_in}
use Rattle.reg_cli_run.specs.Setups.{HasDoneTold}
use Rattle.reg_cli_run.proofs.LineFacts.{line_at}
use Rattle.reg_cli_run.proofs.Orders.{begun, failed, obeyed}
use Rattle.reg_cli_run.proofs.setup.setup_traced.Goals as goal

pub loop-line-init : goal.loop-line-init
loop-line-init g c =
    let k0 = tail (g.T.Write.contents c.args.trail.now.end.inner) c.args.trail.now in
    record {
      keeps = still;
      told = trailed_nothing k0;
      held = λ clean s shows. begun g.S.Store (limits_of c.args.registry.now) s (tables_of c.args.registry.now) (lines_in c.args.setup.now) k0 c.history_law.ensures.begins shows;
    }

pub loop-line-preserved : goal.loop-line-preserved
loop-line-preserved g c =
    let law : EventsGoOn g.S.Store = record { run = c.history_law.ensures.goes_on; one = c.telling_law.ensures.one; join = c.telling_law.ensures.join } in
    let inv = c.loop-line.invariant in
    let now = c.obey_line.ensures.keeps in
    let lines = lines_in c.args.setup.now in
    let k0 = tail (g.T.Write.contents c.args.trail.now.end.inner) c.args.trail.now in
    let k1 = tail (g.T.Write.contents c.loop-line.trail.end.inner) c.loop-line.trail in
    let k2 = tail (g.T.Write.contents c.obey_line.new.trail.end.inner) c.obey_line.new.trail in
    let count : length c.in_ok-lines.lines.items ≡ length lines = sym (length-map c.in_ok-lines.lines.items (λ l. l.now)) ∙ ap length c.in_ok-lines.ensures in
    let less : c.loop-line.line-index < length lines = omega (arith, count, c.deref-line-items.ensures.len, c.loop-line-test.true) in
    record {
      keeps = goes_on inv.keeps now;
      told = trailed_on k0 k1 k2 inv.told c.obey_line.ensures.told;
      held = λ clean s shows.
          obeyed g.S.Store (limits_of c.args.registry.now) s (tables_of c.args.registry.now) lines law c.loop-line.line-index (tables_of c.loop-line.registry) (tables_of c.obey_line.new.registry) k0 k1 k2
          (inv.held (now.clean clean) s shows) clean _ less (line_at c.in_ok-lines.lines.items _ lines c.loop-line.line-index _ c.deref-line-items.ensures.value c.in_ok-lines.ensures less)
          _ inv.keeps.limits c.in_ok-obey_line.field-0 c.in_ok-obey_line.ensures.obeyed;
    }

pub returns-in_err-lines : goal.returns-in_err-lines
returns-in_err-lines g c =
    let p = err_from_is_err_and c.from_residual.result c.from_residual.ensures.1 in
    let k0 = tail (g.T.Write.contents c.args.trail.now.end.inner) c.args.trail.now in
    rw (p.1, p.2) (record {
      done = λ clean s shows.
          let none = begun g.S.Store (limits_of c.args.registry.now) s (tables_of c.args.registry.now) (lines_in c.args.setup.now) k0 c.history_law.ensures.begins shows in
          ((0, omega arith, none.0), none.1);
      told = trailed_nothing k0;
      keeps = still;
    })

pub returns-in_err-obey_line : goal.returns-in_err-obey_line
returns-in_err-obey_line g c =
    let law : EventsGoOn g.S.Store = record { run = c.history_law.ensures.goes_on; one = c.telling_law.ensures.one; join = c.telling_law.ensures.join } in
    let p = err_from_is_err_and c.from_residual-in_err-obey_line.result c.from_residual-in_err-obey_line.ensures.1 in
    let inv = c.loop-line.invariant in
    let now = c.obey_line.ensures.keeps in
    let lines = lines_in c.args.setup.now in
    let k0 = tail (g.T.Write.contents c.args.trail.now.end.inner) c.args.trail.now in
    let k1 = tail (g.T.Write.contents c.loop-line.trail.end.inner) c.loop-line.trail in
    let k2 = tail (g.T.Write.contents c.obey_line.new.trail.end.inner) c.obey_line.new.trail in
    let count : length c.in_ok-lines.lines.items ≡ length lines = sym (length-map c.in_ok-lines.lines.items (λ l. l.now)) ∙ ap length c.in_ok-lines.ensures in
    let less : c.loop-line.line-index < length lines = omega (arith, count, c.deref-line-items.ensures.len, c.loop-line-test.true) in
    rw (p.1, p.2) (record {
      done = λ clean s shows.
          failed g.S.Store (limits_of c.args.registry.now) s (tables_of c.args.registry.now) lines law c.loop-line.line-index (tables_of c.loop-line.registry) (tables_of c.obey_line.new.registry) k0 k1 k2
          (inv.held (now.clean clean) s shows) clean _ less (line_at c.in_ok-lines.lines.items _ lines c.loop-line.line-index _ c.deref-line-items.ensures.value c.in_ok-lines.ensures less)
          _ inv.keeps.limits c.in_err-obey_line.field-0.0 c.in_err-obey_line.ensures.obeyed;
      told = trailed_on k0 k1 k2 inv.told c.obey_line.ensures.told;
      keeps = goes_on inv.keeps now;
    })

pub returns : goal.returns
returns g c =
    let inv = c.loop-line.invariant in
    let lines = lines_in c.args.setup.now in
    let k0 = tail (g.T.Write.contents c.args.trail.now.end.inner) c.args.trail.now in
    let k1 = tail (g.T.Write.contents c.loop-line.trail.end.inner) c.loop-line.trail in
    let count : length c.in_ok-lines.lines.items ≡ length lines = sym (length-map c.in_ok-lines.lines.items (λ l. l.now)) ∙ ap length c.in_ok-lines.ensures in
    record {
      done = λ clean s shows.
          subst (HasDoneTold g.S.Store (limits_of c.args.registry.now) s (tables_of c.args.registry.now) lines (tables_of c.loop-line.registry) k0 k1) (omega (arith, count, c.deref-line-items.ensures.len, c.loop-line-test.false))
          (inv.held clean s shows);
      told = inv.told;
      keeps = inv.keeps;
    }
