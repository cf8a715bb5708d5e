use Rattle.std.proofs.Common.{rules}
use Rattle.sqlite.specs.Held.{state}
use Rattle.reg_tables.proofs.Stopping.{live_leaves, silent_leaves, storage_known, survives_itself, undone_itself}
use Rattle.reg_tables.proofs.tables.Tables.adopt.Goals as goal

pub returns-in-Err : goal.returns-in-Err
returns-in-Err g c =
    let s = state g.S.Store c.args.conn in record {
      found = tt;
      rests = tt;
      about = tt;
      edition = tt;
      ours = tt;
      leaves = tt;
      unknown = λ clean e. absurd (storage_known e);
      handed_back = λ clean. undone_itself s c.rest_law.ensures c.requires;
      kept = tt;
      left = survives_itself s;
    }

pub has_base-requires : goal.has_base-requires
has_base-requires g c = search rules fits 100

pub returns-in-Ok-true-clause-edition : goal.returns-in-Ok-true-clause-edition
returns-in-Ok-true-clause-edition g c = search rules fits 100

pub returns-in-Ok-false-clause-unknown : goal.returns-in-Ok-false-clause-unknown
returns-in-Ok-false-clause-unknown g c = search rules fits 300

pub returns-in-Ok-false-clause-handed_back : goal.returns-in-Ok-false-clause-handed_back
returns-in-Ok-false-clause-handed_back g c = c.has_base.ensures.undone

pub returns-in-Ok-false-clause-left : goal.returns-in-Ok-false-clause-left
returns-in-Ok-false-clause-left g c = c.has_base.ensures.survives

pub returns-in-Ok-true-clause-rests : goal.returns-in-Ok-true-clause-rests
returns-in-Ok-true-clause-rests g c = c.has_base.ensures.undone

pub returns-in-Ok-true-clause-kept : goal.returns-in-Ok-true-clause-kept
returns-in-Ok-true-clause-kept g c = c.has_base.ensures.survives

pub returns-in-Ok-true-clause-about : goal.returns-in-Ok-true-clause-about
returns-in-Ok-true-clause-about g c = search rules fits 300

pub returns-in-Ok-true-clause-leaves : goal.returns-in-Ok-true-clause-leaves
returns-in-Ok-true-clause-leaves g c =
    let s = state g.S.Store c.args.conn in
    silent_leaves _ s (state g.S.Store c.has_base.new.conn) c.has_base.ensures.survives (λ clean. live_leaves _ s c.live_law.ensures (λ up db l. g.met.S.Store.settled c.args.conn.store db up l) (c.rest_law.ensures c.requires) (search rules fits 100) (c.in-Ok-true.ensures.was_open clean))
