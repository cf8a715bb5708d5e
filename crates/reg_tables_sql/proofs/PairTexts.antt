-- What the writing statements on a table of pairs do, from what is computed of its texts.
use Rattle.reg_tables_sql.proofs.Words.{◌≡◌, ℕ, pos, List, [], ◌∷◌, slice_get, map, true, false, ◌&&◌, Some, Result, OnOk, ap, subst, ◌∙◌}
use Rattle.reg_tables_sql.proofs.Words.{filter, IsPermutation, Null, Int, Row, column, Term, lit, col, op2, binary, is_true, Table, Trees}
use Rattle.reg_tables_sql.proofs.Words.{inner, end, matches, overlay, Answers, Binary, Values, Insert, Delete, State, Executes, Error}
use Rattle.reg_tables_sql.proofs.Words.{IsPlain, command_of, next_rowid, Program, Compare, Eq, ours, our_tables, IsInside, IsRowWrite}
use Rattle.reg_tables_sql.proofs.Words.{AddsColumns, Removes, is_number, step_of, plain, same_filter, equals_int, and_true, matched}
use Rattle.reg_tables_sql.proofs.Words.{of_table, adds_columns, removes, is_pair, pair_columns}
use Rattle.sqlite.specs.Listing.{understood}
use Rattle.sqlite_trees.specs.Tree.{rowid}

abbrev pub insert_terms : List Term
insert_terms = lit Null ∷ col 0 0 ∷ col 0 1 ∷ []

-- the row is of this crate and of this account
abbrev pub pair_filter : List Term
pair_filter = op2 (Compare Eq Binary) (col 1 1) (col 0 0) ∷ op2 (Compare Eq Binary) (col 1 2) (col 0 1) ∷ []

abbrev pub remove_query : ℕ → Program
remove_query tree = record { lets = []; body = plain (inner tree end) pair_filter (col 1 0 ∷ []) }

-- what our schema makes of the two texts
pub record ArePairTexts (at : ℕ) (table : Table) (insert_text remove_text : List ℕ) : Type 0 where
  pub found : slice_get our_tables at ≡ Some table
  pub uncounted : table.is_counted ≡ false
  pub insert_is : command_of (understood ours insert_text) ≡ Insert at (Values insert_terms 3)
  pub insert_plain : IsPlain (understood ours insert_text)
  pub insert_writes : IsRowWrite (understood ours insert_text)
  pub remove_is : command_of (understood ours remove_text) ≡ Delete at (remove_query table.tree)
  pub remove_plain : IsPlain (understood ours remove_text)
  pub remove_writes : IsRowWrite (understood ours remove_text)
  pub seen : (db : Trees) → overlay db [] table.tree ≡ db table.tree

-- the rows that the two conditions match
pub pair_matches : (db : Trees) (tree of_crate account : ℕ)
    → matches db pair_filter (inner tree end) (pair_columns of_crate account ∷ []) ≡ map (λ (r : Row). pair_columns of_crate account ∷ r ∷ []) (filter (is_pair of_crate account) (db tree))
pair_matches db tree of_crate account =
    let equal = λ (place n : ℕ) (r : Row). is_true (binary (Compare Eq Binary) (column r place) (Int (pos n))) in
    let test = λ (r : Row). equal 1 of_crate r && (equal 2 account r && true) in
    let env = λ (r : Row). pair_columns of_crate account ∷ r ∷ [] in
    matched test env (db tree)
    ∙ ap (map env) (same_filter test (is_pair of_crate account) (λ r. rw (equals_int (column r 1) (pos of_crate), equals_int (column r 2) (pos account)) (ap (λ b. is_number 1 of_crate r && b) (and_true _))) (db tree))

module _ {at : ℕ} {table : Table} {insert_text remove_text : List ℕ} (is : ArePairTexts at table insert_text remove_text) (old new : State) (of_crate account : ℕ) (r : Result ℕ Error) (inside : IsInside old) where
  abbrev params : Row
  params = pair_columns of_crate account

  pub adds_pair : (step_of old.now.trees table params insert_terms 3).news ≡ (Int (next_rowid (old.now.trees table.tree)) ∷ params) ∷ [] → Executes insert_text params old new r
      → OnOk r (AddsColumns table.tree params old new)
  adds_pair news h = adds_columns insert_text at table is.found is.insert_plain is.uncounted insert_terms 3 is.insert_is params params old new r inside news h

  gone : (rows : List Row) → Answers old.now (remove_query table.tree) params rows → IsPermutation (map (λ row. rowid row ∷ []) (filter (is_pair of_crate account) (old.now.trees table.tree))) rows
  gone rows a =
      subst (λ all. IsPermutation (map (λ row. rowid row ∷ []) (filter (is_pair of_crate account) all)) rows) (is.seen old.now.trees)
      (of_table (overlay old.now.trees []) params table.tree pair_filter (col 1 0 ∷ []) rows (is_pair of_crate account) (pair_matches (overlay old.now.trees []) table.tree of_crate account) a.answer)

  pub removes_pair : Executes remove_text params old new r → OnOk r (Removes table.tree (is_pair of_crate account) old new)
  removes_pair h = removes remove_text at table is.found is.remove_plain (remove_query table.tree) is.remove_is params (is_pair of_crate account) old new r inside gone h
