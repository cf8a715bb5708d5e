use Rattle.std.proofs.Common.{◌∙◌, refl, rules, sym}
use Rattle.std.proofs.lemmas.Bool.{false≢true}
use Rattle.sqlite.proofs.StateLemmas.{survives_weaker}
use Rattle.sqlite.specs.Held.{state}
use Rattle.sqlite.specs.State.{HasCleanDisk}
use Rattle.reg_tables_schema.proofs.MakeLemmas.{undone_keeps}
use Rattle.reg_tables_schema.specs.declared.edition.SchemaVersion.TheVariants.{Second}
use Rattle.reg_tables.proofs.Stopping.{commits_ours, committed_ours, if_done, if_refused, leaves_last}
use Rattle.reg_tables.specs.Works.{edition_in, seen}
use Rattle.reg_tables.proofs.work.Work.commit.Goals as goal

pub returns-then-failed : goal.returns-then-failed
returns-then-failed g c = search rules fits 100

pub returns-then-is_err : goal.returns-then-is_err
returns-then-is_err g c =
    let old = seen g.S.Store c.args.self in
    let new = state g.S.Store c.finish.new.conn in
    let it = c.finish.ensures in
    let undone = λ (clean : HasCleanDisk (state g.S.Store c.finish.new.conn)). if_refused c.finish.result c.is_err.result c.is_err.ensures.value c.if-is_err.true (it.undone clean) in
    record {
      committed = tt;
      refused = record {
        undone = undone;
        alone = λ clean. leaves_last old new _ c.stop_law-then-is_err.ensures (undone_keeps old new (undone clean)) it.survives clean;
        edition = refl;
        shut = λ _. refl;
        same_mode = λ failed. absurd (false≢true (sym c.if-failed.false ∙ failed));
      };
      ours = if_refused c.finish.result c.is_err.result c.is_err.ensures.value c.if-is_err.true (it.ours_again (edition_in c.args.self.tables.now) c.requires.back);
      survives = survives_weaker old new _ _ (λ clean db is. (c.if-failed.false, is.0, is.1)) (commits_ours old new c.live_law.ensures (c.requires.ready c.if-failed.false) it.survives);
    }

pub returns : goal.returns
returns g c =
    let old = seen g.S.Store c.args.self in
    let new = state g.S.Store c.finish.new.conn in
    let it = c.finish.ensures in
    let kept = λ (clean : HasCleanDisk (state g.S.Store c.finish.new.conn)). if_done c.finish.result c.is_err.result c.is_err.ensures.value c.if-is_err.false (it.kept clean) in
    let alone = λ (clean : HasCleanDisk (state g.S.Store c.finish.new.conn)). if_done c.finish.result c.is_err.result c.is_err.ensures.value c.if-is_err.false (it.alone clean) in
    record {
      committed = record {
        whole = c.if-failed.false;
        kept = kept;
        alone = alone;
        leaves = committed_ours old new c.live_law.ensures (c.requires.ready c.if-failed.false) it.survives kept alone;
        second = refl;
        same_mode = refl;
      };
      refused = tt;
      ours = if_done c.finish.result c.is_err.result c.is_err.ensures.value c.if-is_err.false (it.ours Second (c.requires.ready c.if-failed.false));
      survives = survives_weaker old new _ _ (λ clean db is. (c.if-failed.false, is.0, is.1)) (commits_ours old new c.live_law.ensures (c.requires.ready c.if-failed.false) it.survives);
    }
