-- What the queries on crates answer.
use Rattle.reg_tables_sql.proofs.Words.{has_rowid, Row, not, ◌==◌, ◌≡◌, ℕ, List, [], ◌∷◌, codes, map, Option, refl, Bool, pos, ◌≡◌, length}
use Rattle.reg_tables_sql.proofs.Words.{◌∙◌, Text, Int, Binary, ascending, Term, col, inner, end, overlay, State, ours, IsInside}
use Rattle.reg_tables_sql.proofs.Words.{IsSelection, selected, number_columns, shown_of, is_text, shows, counted, greatest, greatest_of}
use Rattle.reg_tables_sql.proofs.Words.{plain, of_table, shown_exactly, any_shown, in_order, equals_first, matches_text, matches_number}
use Rattle.reg_tables_sql.proofs.Words.{all_in_order, one_count, IsCount, IsLastId}
use Rattle.std.specs.Prelude.{not}
use Rattle.sqlite.specs.Listing.{understood}
use Rattle.sqlite.specs.State.{Shown}
use Rattle.sqlite_tied.specs.Compute.{everything}
use Rattle.reg_tables_sql.specs.declared.crates.TheConstants.{ALL_BY_ID_TEXT, ALL_TEXT, BY_CANON_TEXT, COUNT_TEXT, HAS_ID_TEXT, LAST_ID_TEXT}
use Rattle.reg_tables_sql.specs.declared.crates.Crate.{Crate}
use Rattle.reg_tables_sql.specs.Crates.{AreCrates, AreCratesById, IsCrateOfCanon, crate_columns, IsCrateThere}

abbrev project : List Term
project = col 1 0 ∷ col 1 2 ∷ col 1 3 ∷ []

abbrev names : List (List ℕ)
names = codes "id" ∷ codes "canon" ∷ codes "name" ∷ []

pub by_canon_is : IsSelection ours BY_CANON_TEXT.now (plain (inner 7 end) (equals_first 2) project) (names)
unfolding understood everything
by_canon_is = record { command = refl; unlisted = refl; plain = (refl, refl) }

pub by_canon : (old new : State) (canon : List ℕ) (found : Option Crate) → IsInside old
    → Shown BY_CANON_TEXT.now (Text canon ∷ []) old new (shown_of crate_columns found) → IsCrateOfCanon canon old.now.trees found
by_canon old new canon found at h =
    let db = overlay old.now.trees [] in
    shown_exactly crate_columns _ found
    (of_table db (Text canon ∷ []) 7 (equals_first 2) project _ (is_text 2 canon) (matches_text db 7 2 canon) (selected by_canon_is (Text canon ∷ []) old new _ at h))

pub listed_is : IsSelection ours ALL_TEXT.now (in_order (inner 7 end) [] project ((col 1 2, ascending Binary) ∷ [])) (names)
unfolding understood everything
listed_is = record { command = refl; unlisted = refl; plain = (refl, refl) }

pub listed : (old new : State) (list : List Crate) → IsInside old → Shown ALL_TEXT.now [] old new (map crate_columns list) → AreCrates old.now.trees list
listed old new list at h = all_in_order (overlay old.now.trees []) [] 7 project _ 2 (selected listed_is [] old new _ at h)

pub listed_by_id_is : IsSelection ours ALL_BY_ID_TEXT.now (in_order (inner 7 end) [] project ((col 1 0, ascending Binary) ∷ [])) (names)
unfolding understood everything
listed_by_id_is = record { command = refl; unlisted = refl; plain = (refl, refl) }

pub listed_by_id : (old new : State) (list : List Crate) → IsInside old → Shown ALL_BY_ID_TEXT.now [] old new (map crate_columns list) → AreCratesById old.now.trees list
listed_by_id old new list at h = all_in_order (overlay old.now.trees []) [] 7 project _ 0 (selected listed_by_id_is [] old new _ at h)

pub last_is : IsSelection ours LAST_ID_TEXT.now (greatest 7) (codes "id" ∷ [])
unfolding understood everything
last_is = record { command = refl; unlisted = refl; plain = (refl, refl) }

pub last : (old new : State) (id : Option ℕ) → IsInside old → Shown LAST_ID_TEXT.now [] old new (shown_of number_columns id) → IsLastId 7 old.now.trees id
last old new id at h = greatest_of (overlay old.now.trees []) 7 _ (selected last_is [] old new _ at h)

pub count_is : IsSelection ours COUNT_TEXT.now (counted (inner 7 end) []) (codes "count(*)" ∷ [])
unfolding understood everything
count_is = record { command = refl; unlisted = refl; plain = (refl, refl) }

pub count : (old new : State) (n : ℕ) → IsInside old → Shown COUNT_TEXT.now [] old new (number_columns n ∷ []) → IsCount 7 old.now.trees n
count old new n at h = one_count (overlay old.now.trees []) 7 n (selected count_is [] old new _ at h)

pub by_id_is : IsSelection ours HAS_ID_TEXT.now (plain (inner 7 end) (equals_first 0) (col 1 0 ∷ [])) (codes "id" ∷ [])
unfolding understood everything
by_id_is = record { command = refl; unlisted = refl; plain = (refl, refl) }

pub by_id : (old new : State) (id : ℕ) (rows : List Row) (there : Bool) → IsInside old → Shown HAS_ID_TEXT.now (Int (pos id) ∷ []) old new rows → there ≡ not (length rows == 0) → IsCrateThere id old.now.trees there
by_id old new id rows there at h is =
    let db = overlay old.now.trees [] in
    is ∙ any_shown (has_rowid (pos id)) (shows (0 ∷ [])) _ rows
    (of_table db (Int (pos id) ∷ []) 7 (equals_first 0) (col 1 0 ∷ []) rows (has_rowid (pos id)) (matches_number db 7 0 id) (selected by_id_is (Int (pos id) ∷ []) old new rows at h))
