use Rattle.std.proofs.Common.{◌∙◌, Err, ap, refl, subst, sym}
use Rattle.sqlite.specs.Held.{state}
use Rattle.reg_tables_schema.specs.States.{HasSchema}
use Rattle.reg_tables_schema.specs.declared.edition.SchemaVersion.TheVariants.{Second}
use Rattle.reg_tables_represent.proofs.Made.{made_stands}
use Rattle.reg_tables.proofs.Stopping.{make_leaves, not_ok, same_fault}
use Rattle.reg_tables.proofs.tables.Tables.make.Goals as goal

pub returns-in-Ok : goal.returns-in-Ok
returns-in-Ok g c =
    let made = c.in-Ok.ensures in record {
      made = made.made;
      stands = λ clean. made_stands c.args.base.now (state g.S.Store c.make_tables-made.new.conn) (made.made clean);
      ours = (made.ours, refl);
      leaves = λ clean db l. let it = made.made clean in subst (HasSchema Second) (sym (c.stop_law.ensures it.1.is_open db l)) it.0.sound;
      second = refl;
      alone = λ clean. c.stop_law.ensures (made.made clean).1.is_open;
      unknown = tt;
      blank = made.blank (λ e. not_ok (sym e));
      untouched = tt;
      undone = tt;
      kept = made.survives;
      handed_back = tt;
      last = tt;
    }

pub returns-in-Err : goal.returns-in-Err
returns-in-Err g c =
    let made = c.make_tables-made in record {
      made = tt;
      stands = tt;
      ours = tt;
      leaves = tt;
      second = tt;
      alone = tt;
      unknown = (λ e. c.in-Err.ensures.unknown.0 (ap Err e), λ other. same_fault (c.in-Err.ensures.unknown.1 other));
      blank = tt;
      untouched = λ e. made.ensures.untouched (c.in-Err.is ∙ ap Err e);
      undone = λ clean e. made.ensures.undone clean (c.in-Err.is ∙ ap Err e);
      kept = tt;
      handed_back = made.ensures.survives;
      last = make_leaves g.S.Store c.args.conn made.new.conn made.result c.in-Err.fault _ c.in-Err.is c.stop_law.ensures made.ensures.untouched made.ensures.undone made.ensures.survives;
    }
