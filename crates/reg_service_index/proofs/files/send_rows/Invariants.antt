use Rattle.reg_service_index.proofs.Words.{◌≡◌, List, pos, ◌++◌, ◌∷◌, [], Row, Int, Piles, entries_text, HasWalked, lines_in}
use Rattle.std.proofs.Common.{length}
use Rattle.reg_body.specs.Sent.{sink}
use Rattle.reg_service_index.proofs.files.send_rows.Given as goal

abbrev pub invariant-rows : goal.invariant-rows
invariant-rows g l = record {
  same_reference : l.rows.conn.ghost_name ≡ l.initial.rows.conn.ghost_name;
  walked : (given : List Row) × (length given ≡ l.count) × HasWalked g.S.Store entries_text (Int (pos l.crate_id) ∷ []) l.fn.conn l.rows.conn.now given
      × Piles [] (l.front ++ lines_in given) l.pile l.writes l.used (sink (g.W.Write.contents l.fn.w.inner) l.fn.w) (sink (g.W.Write.contents l.w.inner) l.w);
}
