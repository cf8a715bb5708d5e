-- What the queries on the rowids of tables without a key answer.
use Rattle.reg_tables_sql.proofs.Words.{◌≡◌, ℕ, ℤ, List, [], ◌∷◌, codes, map, refl, subst, Binary, ascending, col, Trees, Query, inner, end}
use Rattle.reg_tables_sql.proofs.Words.{overlay, State, IsInOrder, by_column, ours, IsInside, shows, IsSelection, selected, in_order}
use Rattle.reg_tables_sql.proofs.Words.{all_in_order, AreRowids, rowid_columns}
use Rattle.sqlite.specs.Listing.{understood}
use Rattle.sqlite.specs.State.{Shown}
use Rattle.sqlite_tied.specs.Compute.{everything}
use Rattle.reg_tables_sql.specs.declared.pairs.TheConstants.{OWNER_ROWIDS_TEXT, READER_ROWIDS_TEXT}
use Rattle.reg_tables_sql.specs.declared.reserved.TheConstants.{ROWIDS_TEXT}

abbrev rowids_query : ℕ → Query
rowids_query tree = in_order (inner tree end) [] (col 1 0 ∷ []) ((col 1 0, ascending Binary) ∷ [])

-- what our schema makes of a text: a query for the rowids of a table, under this name
pub record AsksRowids (tree : ℕ) (name text : List ℕ) : Type 0 where
  pub is : IsSelection ours text (rowids_query tree) (name ∷ [])
  pub seen : (db : Trees) → overlay db [] tree ≡ db tree

pub rowids : {tree : ℕ} {name text : List ℕ} → AsksRowids tree name text → (old new : State) (list : List ℤ) → IsInside old → Shown text [] old new (map rowid_columns list) → AreRowids tree old.now.trees list
rowids {tree} {name} {text} it old new list at h =
    subst (λ rows. IsInOrder (by_column 0) rows (shows (0 ∷ [])) (map rowid_columns list)) (it.seen old.now.trees)
    (all_in_order (overlay old.now.trees []) [] tree (col 1 0 ∷ []) (map rowid_columns list) 0 (selected it.is [] old new (map rowid_columns list) at h))

pub of_owners : AsksRowids 9 (codes "rowid") OWNER_ROWIDS_TEXT.now
unfolding understood everything
of_owners = record { is = record { command = refl; unlisted = refl; plain = (refl, refl) }; seen = λ db. refl }

pub of_readers : AsksRowids 18 (codes "rowid") READER_ROWIDS_TEXT.now
unfolding understood everything
of_readers = record { is = record { command = refl; unlisted = refl; plain = (refl, refl) }; seen = λ db. refl }

pub of_reserved : AsksRowids 14 (codes "rowid") ROWIDS_TEXT.now
unfolding understood everything
of_reserved = record { is = record { command = refl; unlisted = refl; plain = (refl, refl) }; seen = λ db. refl }
