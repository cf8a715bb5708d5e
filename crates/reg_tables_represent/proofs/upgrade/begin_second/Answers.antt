use Rattle.reg_tables_represent.proofs.Common.{arith, HasCleanDisk, state}
use Rattle.reg_tables_schema.proofs.MakeLemmas.{kept_undone}
use Rattle.reg_tables_represent.proofs.Raising.{back_second, kept_back, ready_second, silent_then}
use Rattle.reg_tables_represent.proofs.upgrade.begin_second.Goals as goal

pub returns : goal.returns
returns g c =
    let old = state g.S.Store c.args.conn.now in
    let new = state g.S.Store c.begin_on.new.conn in
    let first = λ (clean : HasCleanDisk new). let it : HasCleanDisk old = omega (arith, clean, c.begin_on.ensures.survives.clean) in it in record {
      begun = c.in_default.ensures.begun;
      back = rw c.in_default.is at (back_second c.args.edition old new first c.requires c.begin_on.result c.begin_on.ensures.begun);
      ready = rw c.in_default.is at (ready_second c.args.edition old new first c.requires c.begin_on.result c.begin_on.ensures.begun);
      undone = λ clean. tt;
      ours = tt;
      survives = c.begin_on.ensures.survives;
    }

pub returns-in-Err : goal.returns-in-Err
returns-in-Err g c =
    let old = state g.S.Store c.args.conn.now in
    let mid = state g.S.Store c.begin_on.new.conn in
    let new = state g.S.Store c.undo.new.conn in
    let first = λ (clean : HasCleanDisk mid). let it : HasCleanDisk old = omega (arith, clean, c.begin_on.ensures.survives.clean) in it in
    let early = λ (clean : HasCleanDisk new). let it : HasCleanDisk mid = omega (arith, clean, c.undo.ensures.survives.clean) in it in record {
      begun = λ clean. tt;
      back = tt;
      ready = tt;
      undone = λ clean. kept_undone old mid new (c.in-Err.ensures.kept (early clean)) (c.undo.ensures.undone clean);
      ours = c.undo.ensures.ours c.args.edition (kept_back c.args.edition old mid first c.requires c.in-Err.ensures.kept);
      survives = silent_then old mid new c.begin_on.ensures.survives c.undo.ensures.survives;
    }
