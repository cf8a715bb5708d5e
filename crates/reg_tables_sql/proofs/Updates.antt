-- What an UPDATE does, from its text, its table and the test of its WHERE.
use Rattle.reg_tables_sql.proofs.Words.{◌≡◌, ℕ, ℤ, pos, List, [], ◌∷◌, slice_get, map, Bool, true, ◌&&◌, Some, None, Ok, refl, ap, subst}
use Rattle.reg_tables_sql.proofs.Words.{◌∙◌, filter, IsPermutation, IsPermutation-sym, Int, Row, column, Term, eval_all, binary, is_true}
use Rattle.reg_tables_sql.proofs.Words.{Binary, Compare, Eq, Table, Trees, inner, end, matches, overlay, Answers, State, Executes, IsPlain}
use Rattle.reg_tables_sql.proofs.Words.{command_of, one_permutation, Program, edited, has_rowid, put_row, without_rowid, ours, our_tables}
use Rattle.reg_tables_sql.proofs.Words.{IsInside, IsRowWrite, replacing, plain, same_filter, and_true, equals_int, matched, of_table}
use Rattle.reg_tables_sql.proofs.Words.{shown_exactly, equals_first}
use Rattle.sqlite.specs.Command.TheVariants.{Update}
use Rattle.sqlite.specs.Listing.{understood}
use Rattle.sqlite.proofs.Callers.{statement_of, runs_as}
use Rattle.reg_tables_schema.specs.Changes.{Replaces, Touches}
use Rattle.reg_tables_schema.proofs.Edits.{updated}
use Rattle.reg_tables_schema.proofs.Statements.{replaces, touches}
use Rattle.reg_tables_sql.specs.Updates.{KeepsWhereNone}

-- the rows that pass a test are those that a WHERE with these parameters matches
abbrev pub Matches : ℕ → List Term → Row → (Row → Bool) → Type 0
Matches tree filters params test = (db : Trees) → matches db filters (inner tree end) (params ∷ []) ≡ map (λ r. params ∷ r ∷ []) (filter test (db tree))

-- WHERE key = ?1
pub matches_rowid : (tree : ℕ) (id : ℤ) (rest : Row) → Matches tree (equals_first 0) (Int id ∷ rest) (has_rowid id)
matches_rowid tree id rest db =
    let params : Row = Int id ∷ rest in
    let test = λ (r : Row). is_true (binary (Compare Eq Binary) (column r 0) (Int id)) && true in
    matched test (λ (r : Row). params ∷ r ∷ []) (db tree)
    ∙ ap (map (λ (r : Row). params ∷ r ∷ [])) (same_filter test (has_rowid id) (λ r. and_true _ ∙ equals_int (column r 0) id) (db tree))

pub matches_key : (tree id : ℕ) (rest : Row) → Matches tree (equals_first 0) (Int (pos id) ∷ rest) (has_rowid (pos id))
matches_key tree id = matches_rowid tree (pos id)

-- the query of an UPDATE of one table
abbrev pub update_of : ℕ → List Term → List Term → Program
update_of tree filters project = record { lets = []; body = plain (inner tree end) filters project }

-- what our schema makes of a text: an UPDATE of one table
pub record IsUpdate (text : List ℕ) (at : ℕ) (table : Table) (filters project : List Term) : Type 0 where
  pub found : slice_get our_tables at ≡ Some table
  pub bare : IsPlain (understood ours text)
  pub command : command_of (understood ours text) ≡ Update at (update_of table.tree filters project)
  pub writing : IsRowWrite (understood ours text)
  pub seen : (db : Trees) → overlay db [] table.tree ≡ db table.tree

module _ {text : List ℕ} {at : ℕ} {table : Table} {filters project : List Term} (is : IsUpdate text at table filters project) (params : Row) (test : Row → Bool) (met : Matches table.tree filters params test)
    (old new : State) (count : ℕ) (inside : IsInside old) (h : Executes text params old new (Ok count)) where
  pub updates_only : Touches table.tree old new
  updates_only = touches text at table is.found is.bare (update_of table.tree filters project) is.command params old new (Ok count) inside h

  abbrev writes : Row → Row
  writes row = eval_all project (params ∷ row ∷ [])

  -- what it writes of the rows that pass
  written : (rows : List Row) → Answers old.now (update_of table.tree filters project) params rows → IsPermutation (map writes (filter test (old.now.trees table.tree))) rows
  written rows a =
      subst (λ all. IsPermutation (map writes (filter test all)) rows) (is.seen old.now.trees)
      (of_table (overlay old.now.trees []) params table.tree filters project rows test (met (overlay old.now.trees [])) a.answer)

  -- where one row passes, it is replaced
  pub updates_one : (id : ℕ) (was row : Row) → edited old.now.trees (replacing old.now.trees table (writes was ∷ [])) ≡ put_row row (without_rowid (pos id) (old.now.trees table.tree))
      → filter test (old.now.trees table.tree) ≡ was ∷ [] → Replaces table.tree id row old new
  updates_one id was row edit one =
      replaces text at table is.found is.bare (update_of table.tree filters project) is.command params id row old new (Ok count) inside
      (λ rows a. ap (λ rs. edited old.now.trees (replacing old.now.trees table rs)) (one_permutation (writes was) rows (subst (λ xs. IsPermutation (map writes xs) rows) one (written rows a))) ∙ edit) h

  -- the same of any rowid
  pub rewrites_one : (was : Row) → filter test (old.now.trees table.tree) ≡ was ∷ []
      → new.now.trees table.tree ≡ edited old.now.trees (replacing old.now.trees table (writes was ∷ []))
  rewrites_one was one =
      let w = runs_as text params old new ours inside.schema_is (Update at (update_of table.tree filters project)) is.command is.bare count h in
      let done = updated old new ours inside.schema_is at table is.found (statement_of text (understood ours text)) params count refl (update_of table.tree filters project) w in
      let one_written = one_permutation (writes was) done.rows (subst (λ xs. IsPermutation (map writes xs) done.rows) one (written done.rows done.answer)) in
      done.put.step.rows ∙ ap (λ rs. edited old.now.trees (replacing old.now.trees table rs)) one_written

  none_written : (rows : List Row) → filter test (old.now.trees table.tree) ≡ [] → Answers old.now (update_of table.tree filters project) params rows → rows ≡ []
  none_written rows none a =
      shown_exactly {X = Row} (λ r. r) rows None (IsPermutation-sym [] rows (subst (λ xs. IsPermutation (map writes xs) rows) none (written rows a)))

  -- where none does, nothing is
  pub updates_none : KeepsWhereNone table.tree test old new
  updates_none none =
      let w = runs_as text params old new ours inside.schema_is (Update at (update_of table.tree filters project)) is.command is.bare count h in
      let done = updated old new ours inside.schema_is at table is.found (statement_of text (understood ours text)) params count refl (update_of table.tree filters project) w in
      done.put.step.rows ∙ ap (λ rs. edited old.now.trees (replacing old.now.trees table rs)) (none_written done.rows none done.answer)
