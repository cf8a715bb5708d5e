use Rattle.reg_tables_represent.proofs.Common.{arith, HasCleanDisk, state}
use Rattle.std.proofs.lemmas.Result.{IfOk-from_err}
use Rattle.reg_tables_schema.proofs.MakeLemmas.{begun_keeps, on_err, refused_keeps}
use Rattle.reg_tables_represent.proofs.Raising.{extends_keeps, silent_then, upgrades}
use Rattle.reg_tables_represent.proofs.upgrade.extend.Goals as goal

pub returns-in_err-begin : goal.returns-in_err-begin
returns-in_err-begin g c = record {
  upgrades = λ clean. IfOk-from_err _ _ c.from_residual.ensures.0;
  kept = λ clean. on_err c.from_residual.result (refused_keeps (state g.S.Store c.args.conn.now) (state g.S.Store c.begin.new.conn) (c.in_err-begin.ensures.refused clean));
  survives = c.begin.ensures.survives;
}

pub returns-in_err-add_tables : goal.returns-in_err-add_tables
returns-in_err-add_tables g c =
    let old = state g.S.Store c.args.conn.now in
    let mid = state g.S.Store c.begin.new.conn in
    let new = state g.S.Store c.add_tables.new.conn in
    let stop = c.from_residual-in_err-add_tables in
    let early = λ (clean : HasCleanDisk new). let it : HasCleanDisk mid = omega (arith, clean, c.add_tables.ensures.survives.clean) in it in record {
      upgrades = λ clean. IfOk-from_err _ _ stop.ensures.0;
      kept = λ clean. on_err stop.result (begun_keeps old mid new (c.in_ok-begin.ensures.begun (early clean)) (c.in_err-add_tables.ensures.refused clean));
      survives = silent_then old mid new c.begin.ensures.survives c.add_tables.ensures.survives;
    }

pub returns-in_err-set_second : goal.returns-in_err-set_second
returns-in_err-set_second g c =
    let old = state g.S.Store c.args.conn.now in
    let mid = state g.S.Store c.begin.new.conn in
    let last = state g.S.Store c.add_tables.new.conn in
    let new = state g.S.Store c.set_second.new.conn in
    let stop = c.from_residual-in_err-set_second in
    let late = λ (clean : HasCleanDisk new). let it : HasCleanDisk last = omega (arith, clean, c.set_second.ensures.survives.clean) in it in
    let early = λ (clean : HasCleanDisk new). let it : HasCleanDisk mid = omega (arith, late clean, c.add_tables.ensures.survives.clean) in it in record {
      upgrades = λ clean. IfOk-from_err _ _ stop.ensures.0;
      kept = λ clean. on_err stop.result
          (extends_keeps old mid last new (c.in_ok-begin.ensures.begun (early clean)) (c.in_ok-add_tables.ensures.added (late clean)) (refused_keeps last new (c.in_err-set_second.ensures.refused clean)));
      survives = silent_then old last new (silent_then old mid last c.begin.ensures.survives c.add_tables.ensures.survives) c.set_second.ensures.survives;
    }

pub returns : goal.returns
returns g c =
    let old = state g.S.Store c.args.conn.now in
    let mid = state g.S.Store c.begin.new.conn in
    let last = state g.S.Store c.add_tables.new.conn in
    let new = state g.S.Store c.set_second.new.conn in
    let late = λ (clean : HasCleanDisk new). let it : HasCleanDisk last = omega (arith, clean, c.set_second.ensures.survives.clean) in it in
    let early = λ (clean : HasCleanDisk new). let it : HasCleanDisk mid = omega (arith, late clean, c.add_tables.ensures.survives.clean) in it in record {
      upgrades = λ clean. upgrades old mid last new (c.in_ok-begin.ensures.begun (early clean)) (c.in_ok-add_tables.ensures.added (late clean)) (c.in_ok-set_second.ensures.changes clean);
      kept = λ clean. tt;
      survives = silent_then old last new (silent_then old mid last c.begin.ensures.survives c.add_tables.ensures.survives) c.set_second.ensures.survives;
    }
