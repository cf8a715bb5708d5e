-- What the queries on summaries answer.
use Rattle.reg_tables_sql.proofs.Words.{ℕ, pos, List, [], ◌∷◌, codes, map, Option, refl, Int, Binary, ascending, Row, Term, col, inner, end}
use Rattle.reg_tables_sql.proofs.Words.{overlay, State, ours, shown_of, IsInside, is_number, plain, IsSelection, selected, of_table}
use Rattle.reg_tables_sql.proofs.Words.{shown_exactly, in_order, equals_first, matches_number, all_in_order}
use Rattle.sqlite.specs.Listing.{understood}
use Rattle.sqlite.specs.State.{Shown}
use Rattle.sqlite_tied.specs.Compute.{everything}
use Rattle.reg_tables_sql.specs.declared.summaries.TheConstants.{ALL_TEXT, OF_CRATE_TEXT}
use Rattle.reg_tables_sql.specs.declared.summaries.Summary.{Summary}
use Rattle.reg_tables_sql.specs.Summaries.{AreSummaries, IsSummaryOf, columns_of_summary}

abbrev project : List Term
project = col 1 0 ∷ col 1 2 ∷ col 1 3 ∷ []

abbrev names : List (List ℕ)
names = codes "crate" ∷ codes "highest" ∷ codes "index_length" ∷ []

pub of_crate_is : IsSelection ours OF_CRATE_TEXT.now (plain (inner 16 end) (equals_first 0) project) names
unfolding understood everything
of_crate_is = record { command = refl; unlisted = refl; plain = (refl, refl) }

pub of_crate : (old new : State) (id : ℕ) (found : Option Summary) → IsInside old
    → Shown OF_CRATE_TEXT.now (Int (pos id) ∷ []) old new (shown_of columns_of_summary found) → IsSummaryOf id old.now.trees found
of_crate old new id found at h =
    let params : Row = Int (pos id) ∷ [] in
    let db = overlay old.now.trees [] in
    shown_exactly columns_of_summary _ found (of_table db params 16 (equals_first 0) project _ (is_number 0 id) (matches_number db 16 0 id) (selected of_crate_is params old new _ at h))

pub listed_is : IsSelection ours ALL_TEXT.now (in_order (inner 16 end) [] project ((col 1 0, ascending Binary) ∷ [])) names
unfolding understood everything
listed_is = record { command = refl; unlisted = refl; plain = (refl, refl) }

pub listed : (old new : State) (list : List Summary) → IsInside old → Shown ALL_TEXT.now [] old new (map columns_of_summary list) → AreSummaries old.now.trees list
listed old new list at h = all_in_order (overlay old.now.trees []) [] 16 project _ 0 (selected listed_is [] old new _ at h)
