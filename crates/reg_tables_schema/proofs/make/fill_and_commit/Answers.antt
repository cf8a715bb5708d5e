use Rattle.reg_tables_schema.proofs.Words.{arith, HasCleanDisk, state}
use Rattle.reg_tables_schema.proofs.MakeLemmas.{on_err, begins_blank, refused_keeps, undone_keeps, begun_keeps, kept_keeps, survives_making, survives_failing, rests}
use Rattle.reg_tables_schema.proofs.make.fill_and_commit.Goals as goal

pub returns-in_err-begin-clause-kept : goal.returns-in_err-begin-clause-kept
returns-in_err-begin-clause-kept g c clean = on_err c.from_residual.result (refused_keeps (state g.S.Store c.args.conn.now) (state g.S.Store c.begin.new.conn) (c.in_err-begin.ensures.refused clean))

pub fill-requires : goal.fill-requires
fill-requires g c clean = begins_blank (state g.S.Store c.args.conn.now) (state g.S.Store c.begin.new.conn) c.requires (c.in_ok-begin.ensures.begun clean)

pub returns-in_err-fill-clause-kept : goal.returns-in_err-fill-clause-kept
returns-in_err-fill-clause-kept g c clean =
    let early : HasCleanDisk (state g.S.Store c.begin.new.conn) = omega (arith, c.fill.ensures.survives.clean) in
    on_err c.from_residual-in_err-fill.result
    (begun_keeps (state g.S.Store c.args.conn.now) (state g.S.Store c.begin.new.conn) (state g.S.Store c.fill.new.conn) (c.in_ok-begin.ensures.begun early) (c.fill.ensures.kept clean))

pub returns-in_err-fill-clause-survives : goal.returns-in_err-fill-clause-survives
returns-in_err-fill-clause-survives g c =
    survives_failing c.args.base.now (state g.S.Store c.args.conn.now) (state g.S.Store c.begin.new.conn) (state g.S.Store c.fill.new.conn) c.begin.ensures.survives c.fill.ensures.survives

pub returns-in_err-finish-clause-kept : goal.returns-in_err-finish-clause-kept
returns-in_err-finish-clause-kept g c clean =
    let mid = state g.S.Store c.begin.new.conn in
    let last = state g.S.Store c.fill.new.conn in
    let end = state g.S.Store c.finish.new.conn in
    let late : HasCleanDisk last = omega (arith, c.finish.ensures.survives.clean) in
    let early : HasCleanDisk mid = omega (arith, c.fill.ensures.survives.clean) in
    on_err c.from_residual-in_err-finish.result
    (begun_keeps (state g.S.Store c.args.conn.now) mid end (c.in_ok-begin.ensures.begun early) (kept_keeps mid last end (c.fill.ensures.kept late) (undone_keeps last end (c.in_err-finish.ensures.undone clean))))

pub returns-in_err-finish-clause-survives : goal.returns-in_err-finish-clause-survives
returns-in_err-finish-clause-survives g c =
    let last = state g.S.Store c.fill.new.conn in
    let end = state g.S.Store c.finish.new.conn in
    survives_making c.args.base.now (state g.S.Store c.args.conn.now) (state g.S.Store c.begin.new.conn) last end
    (λ (clean : HasCleanDisk end). c.in_ok-fill.ensures.made (omega (arith, c.finish.ensures.survives.clean))) c.begin.ensures.survives c.fill.ensures.survives c.finish.ensures.survives

pub returns-clause-made : goal.returns-clause-made
returns-clause-made g c clean =
    let last = state g.S.Store c.fill.new.conn in
    let late : HasCleanDisk last = omega (arith, c.finish.ensures.survives.clean) in
    rests c.args.base.now last (state g.S.Store c.finish.new.conn) (c.in_ok-fill.ensures.made late) (c.in_ok-finish.ensures.kept clean)

pub returns-clause-survives : goal.returns-clause-survives
returns-clause-survives g c =
    let last = state g.S.Store c.fill.new.conn in
    let end = state g.S.Store c.finish.new.conn in
    survives_making c.args.base.now (state g.S.Store c.args.conn.now) (state g.S.Store c.begin.new.conn) last end
    (λ (clean : HasCleanDisk end). c.in_ok-fill.ensures.made (omega (arith, c.finish.ensures.survives.clean))) c.begin.ensures.survives c.fill.ensures.survives c.finish.ensures.survives
