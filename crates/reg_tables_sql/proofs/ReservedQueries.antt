-- What the queries on reserved names answer.
use Rattle.reg_tables_sql.proofs.Words.{◌≡◌, ℕ, List, [], ◌∷◌, codes, map, refl, ◌∙◌, Text, Binary, ascending, Row, col, Query, inner, end}
use Rattle.reg_tables_sql.proofs.Words.{overlay, State, ours, IsInside, IsSelection, selected, Bool, length, not, ◌==◌, Global, is_text}
use Rattle.reg_tables_sql.proofs.Words.{shows, plain, of_table, any_shown, in_order, equals_first, matches_text, all_in_order}
use Rattle.sqlite.specs.Listing.{understood}
use Rattle.sqlite.specs.State.{Shown}
use Rattle.sqlite_tied.specs.Compute.{everything}
use Rattle.std.specs.Prelude.{String}
use Rattle.reg_tables_sql.specs.declared.reserved.TheConstants.{ALL_TEXT, BY_CANON_TEXT}
use Rattle.reg_tables_sql.specs.Reserved.{AreReserved, IsReserved, columns_of_text}

abbrev pub by_canon_query : Query
by_canon_query = plain (inner 14 end) (equals_first 1) (col 1 1 ∷ [])

pub by_canon_is : IsSelection ours BY_CANON_TEXT.now by_canon_query (codes "canon" ∷ [])
unfolding understood everything
by_canon_is = record { command = refl; unlisted = refl; plain = (refl, refl) }

pub by_canon : (old new : State) (canon : List ℕ) (rows : List Row) (there : Bool) → IsInside old → Shown BY_CANON_TEXT.now (Text canon ∷ []) old new rows
    → there ≡ not (length rows == 0) → IsReserved canon old.now.trees there
by_canon old new canon rows there at h is =
    let db = overlay old.now.trees [] in
    is ∙ any_shown (is_text 1 canon) (shows (1 ∷ [])) _ rows
    (of_table db (Text canon ∷ []) 14 (equals_first 1) (col 1 1 ∷ []) rows (is_text 1 canon) (matches_text db 14 1 canon) (selected by_canon_is (Text canon ∷ []) old new rows at h))

pub listed_is : IsSelection ours ALL_TEXT.now (in_order (inner 14 end) [] (col 1 1 ∷ []) ((col 1 1, ascending Binary) ∷ [])) (codes "canon" ∷ [])
unfolding understood everything
listed_is = record { command = refl; unlisted = refl; plain = (refl, refl) }

pub listed : (old new : State) (list : List (String Global)) → IsInside old → Shown ALL_TEXT.now [] old new (map columns_of_text list) → AreReserved old.now.trees list
listed old new list at h = all_in_order (overlay old.now.trees []) [] 14 (col 1 1 ∷ []) _ 1 (selected listed_is [] old new _ at h)
