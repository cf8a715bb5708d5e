-- What the queries on restricted crates answer.
use Rattle.reg_tables_sql.proofs.Words.{◌≡◌, ℕ, pos, Bool, List, [], ◌∷◌, codes, map, length, not, ◌==◌, refl, ◌∙◌, Int, Binary, ascending}
use Rattle.reg_tables_sql.proofs.Words.{Row, col, inner, end, overlay, State, number_columns, ours, IsInside, shows, plain, IsSelection}
use Rattle.reg_tables_sql.proofs.Words.{selected, of_table, any_shown, in_order, equals_first, matches_number, all_in_order, is_restricted}
use Rattle.sqlite.specs.Listing.{understood}
use Rattle.sqlite.specs.State.{Shown}
use Rattle.sqlite_tied.specs.Compute.{everything}
use Rattle.reg_tables_sql.specs.declared.restricted.TheConstants.{ALL_TEXT, IS_THERE_TEXT}
use Rattle.reg_tables_sql.specs.Restricted.{AreRestricted, IsRestricted}

pub there_is : IsSelection ours IS_THERE_TEXT.now (plain (inner 17 end) (equals_first 0) (col 1 0 ∷ [])) (codes "crate" ∷ [])
unfolding understood everything
there_is = record { command = refl; unlisted = refl; plain = (refl, refl) }

pub there : (old new : State) (of_crate : ℕ) (rows : List Row) (has : Bool) → IsInside old → Shown IS_THERE_TEXT.now (Int (pos of_crate) ∷ []) old new rows → has ≡ not (length rows == 0)
    → IsRestricted of_crate old.now.trees has
there old new of_crate rows has at h is =
    let params : Row = Int (pos of_crate) ∷ [] in
    let db = overlay old.now.trees [] in
    is ∙ any_shown (is_restricted of_crate) (shows (0 ∷ [])) _ rows
    (of_table db params 17 (equals_first 0) (col 1 0 ∷ []) rows (is_restricted of_crate) (matches_number db 17 0 of_crate) (selected there_is params old new rows at h))

pub listed_is : IsSelection ours ALL_TEXT.now (in_order (inner 17 end) [] (col 1 0 ∷ []) ((col 1 0, ascending Binary) ∷ [])) (codes "crate" ∷ [])
unfolding understood everything
listed_is = record { command = refl; unlisted = refl; plain = (refl, refl) }

pub listed : (old new : State) (list : List ℕ) → IsInside old → Shown ALL_TEXT.now [] old new (map number_columns list) → AreRestricted old.now.trees list
listed old new list at h = all_in_order (overlay old.now.trees []) [] 17 (col 1 0 ∷ []) _ 0 (selected listed_is [] old new _ at h)
