-- What the text of the rows of an index file answers, whole or in part.
use Rattle.reg_tables_sql.proofs.Words.{◌≡◌, ℕ, pos, List, [], ◌∷◌, ◌++◌, codes, refl, sym, ap, subst, ◌∙◌, Int, Binary, ascending, timed}
use Rattle.reg_tables_sql.proofs.Words.{Database, Row, Term, col, Query, inner, end, overlay, reads_listing, IsSourceOf, State, IsUnchanged}
use Rattle.reg_tables_sql.proofs.Words.{command_of, by_column, ours, is_number, IsSelection, in_order, in_order_of, then_equal}
use Rattle.reg_tables_sql.proofs.Words.{equals_first, matches_number}
use Rattle.std.proofs.Common.{IsTrue}
use Rattle.sqlite.specs.Command.TheVariants.{Select}
use Rattle.sqlite.specs.Listing.{understood}
use Rattle.sqlite.specs.State.{Begins, IsStatement, Shown}
use Rattle.sqlite.proofs.Callers.{EndsIn, begins_shown}
use Rattle.sqlite_resolve.specs.declared.compiled.Compiled.{Compiled}
use Rattle.sqlite_tied.specs.Compute.{everything}
use Rattle.reg_tables_schema.proofs.Reading.{selected_by}
use Rattle.reg_tables_sql.specs.Stems.{AreStemsOf, entries_text}

abbrev project : List Term
project = col 1 6 ∷ col 1 8 ∷ []

abbrev query : Query
query = in_order (inner 11 end) (equals_first 2) project ((col 1 0, ascending Binary) ∷ [])

abbrev names : List (List ℕ)
names = codes "stem" ∷ codes "yanked" ∷ []

pub stems_are : IsSelection ours entries_text query names
unfolding understood everything
stems_are = record { command = refl; unlisted = refl; plain = (refl, refl) }

module _ (old : State) (of_crate : ℕ) (at : old.now.schema ≡ ours) where
  abbrev params : Row
  params = Int (pos of_crate) ∷ []

  pub stems : (new : State) (rows : List Row) → Shown entries_text params old new rows → AreStemsOf of_crate old.now.trees rows
  stems new rows h =
      in_order_of (overlay old.now.trees []) params 11 (equals_first 2) project ((col 1 0, ascending Binary) ∷ []) rows (is_number 2 of_crate) (by_column 0) (matches_number old.now.trees 11 2 of_crate)
      (λ a b. then_equal (by_column 0 a b)) (selected_by stems_are params old new rows at h)

  ends : (c : Compiled) (db : Database) (it : IsStatement old entries_text params c) → IsSourceOf (reads_listing old.now.schema entries_text) old.now db → EndsIn c.command db (timed params c.formats it.now)
  ends c db it source =
      let known : c.command ≡ Select (record { lets = []; body = query }) names = ap command_of (sym it.is ∙ ap (λ s. understood s entries_text) at) ∙ stems_are.command in
      subst (λ k. EndsIn k db (timed params c.formats it.now)) (sym known) tt

  -- rows that begin an answer begin all those that are there
  pub stems_begun : (rows : List Row) → IsTrue old.is_open → Begins entries_text params old rows → (tail : List Row) × AreStemsOf of_crate old.now.trees (rows ++ tail)
  stems_begun rows up h =
      let still : IsUnchanged old old = (record { was_open = up; is_open = up; now_is = refl; committed_is = refl; mode = refl }, record { changes = refl; last_rowid = refl }, refl) in
      let all = begins_shown entries_text params old old rows h still ends in
      (all.0, stems old (rows ++ all.0) all.1)
