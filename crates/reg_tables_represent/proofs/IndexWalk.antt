-- A walk over the entries of a crate's index file.

use Rattle.reg_tables_represent.proofs.Words.{Second, IsOurs, Held, state, HasWalked, HasCleanDisk, IsUnchanged, Shown, State, Ghosts}
use Rattle.reg_tables_represent.proofs.Words.{entries_text}
use Rattle.reg_tables_represent.proofs.Common.{◌≡◌, [], ◌∷◌, ◌∙◌, ap, arith, Database, Int, List, pos, Row, subst, ℕ}
use Rattle.reg_tables_sql.specs.Stems.{AreStemsOf}
use Rattle.reg_tables_sql.proofs.StemQueries.{stems}
use Rattle.reg_tables_schema.specs.Schema.{ours}

module _ {S : Type 0} (g : Ghosts S) (first now : Held S) (of_crate : ℕ) (rows : List Row) (at : IsOurs Second (state g first)) (clean : HasCleanDisk (state g now))
    (w : HasWalked g entries_text (Int (pos of_crate) ∷ []) first now rows) where
  same_now : IsUnchanged (state g first) (state g now)
  same_now = w.same clean

  schema_still : (state g now).now.schema ≡ ours
  schema_still =
      let rests = at (omega (arith, w.survives.clean, clean)) same_now.0.was_open in
      ap (λ (d : Database). d.schema) (same_now.0.now_is ∙ rests.settled) ∙ rests.committed_is

  back : (rs : List Row) → AreStemsOf of_crate (state g now).now.trees rs → AreStemsOf of_crate (state g first).now.trees rs
  back rs h = subst (λ (d : Database). AreStemsOf of_crate d.trees rs) same_now.0.now_is h

  -- the walk has come to its end
  pub entries_read : (last : State) → Shown entries_text (Int (pos of_crate) ∷ []) (state g now) last rows → AreStemsOf of_crate (state g first).now.trees rows
  entries_read last h = back rows (stems (state g now) of_crate schema_still last rows h)
