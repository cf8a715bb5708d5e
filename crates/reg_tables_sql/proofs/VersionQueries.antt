-- What the queries on versions answer.
use Rattle.reg_tables_sql.proofs.Words.{◌≡◌, ℕ, pos, List, [], ◌∷◌, codes, length, map, Option, refl, ap, ◌∙◌, filter, Value, Int, Binary}
use Rattle.reg_tables_sql.proofs.Words.{ascending, Row, Term, col, inner, end, overlay, State, ours, IsInside, IsSelection, selected, Key}
use Rattle.reg_tables_sql.proofs.Words.{by_column, number_columns, shown_of, is_number, counted, greatest, greatest_of, in_order}
use Rattle.reg_tables_sql.proofs.Words.{in_order_of, then_equal, equals_first, matches_number, all_in_order, one_count, IsCount, IsLastId}
use Rattle.std.proofs.lemmas.List.{length-map}
use Rattle.sqlite.specs.Listing.{understood}
use Rattle.sqlite.specs.State.{Shown}
use Rattle.sqlite_tied.specs.Compute.{everything}
use Rattle.reg_tables_schema.specs.Rows.{capped}
use Rattle.reg_tables_schema.proofs.Counts.{counts}
use Rattle.reg_tables_sql.specs.declared.versions.TheConstants.{ALL_TEXT, COUNT_OF_TEXT, COUNT_TEXT, LAST_ID_TEXT, OF_CRATE_TEXT}
use Rattle.reg_tables_sql.specs.declared.versions.Version.{Version}
use Rattle.reg_tables_sql.specs.Counts.{IsCountOf}
use Rattle.reg_tables_sql.specs.Versions.{AreVersions, AreVersionsOf, columns_of_version}

abbrev by_id : List (Term × Key)
by_id = (col 1 0, ascending Binary) ∷ []

abbrev project : List Term
project = col 1 0 ∷ col 1 2 ∷ col 1 3 ∷ col 1 4 ∷ col 1 5 ∷ col 1 6 ∷ col 1 7 ∷ col 1 8 ∷ []

abbrev names : List (List ℕ)
names = codes "id" ∷ codes "crate" ∷ codes "vers" ∷ codes "release" ∷ codes "digest" ∷ codes "stem" ∷ codes "description" ∷ codes "yanked" ∷ []

pub of_crate_is : IsSelection ours OF_CRATE_TEXT.now (in_order (inner 11 end) (equals_first 2) project by_id) (names)
unfolding understood everything
of_crate_is = record { command = refl; unlisted = refl; plain = (refl, refl) }

pub of_crate : (old new : State) (id : ℕ) (list : List Version) → IsInside old → Shown OF_CRATE_TEXT.now (Int (pos id) ∷ []) old new (map columns_of_version list)
    → AreVersionsOf id old.now.trees list
of_crate old new id list at h =
    let params : Row = Int (pos id) ∷ [] in
    in_order_of (overlay old.now.trees []) params 11 (equals_first 2) project by_id _ (is_number 2 id) (by_column 0) (matches_number old.now.trees 11 2 id)
    (λ a b. then_equal (by_column 0 a b)) (selected of_crate_is params old new _ at h)

pub listed_is : IsSelection ours ALL_TEXT.now (in_order (inner 11 end) [] project by_id) (names)
unfolding understood everything
listed_is = record { command = refl; unlisted = refl; plain = (refl, refl) }

pub listed : (old new : State) (list : List Version) → IsInside old → Shown ALL_TEXT.now [] old new (map columns_of_version list) → AreVersions old.now.trees list
listed old new list at h = all_in_order (overlay old.now.trees []) [] 11 project _ 0 (selected listed_is [] old new _ at h)

pub last_is : IsSelection ours LAST_ID_TEXT.now (greatest 11) (codes "id" ∷ [])
unfolding understood everything
last_is = record { command = refl; unlisted = refl; plain = (refl, refl) }

pub last : (old new : State) (id : Option ℕ) → IsInside old → Shown LAST_ID_TEXT.now [] old new (shown_of number_columns id) → IsLastId 11 old.now.trees id
last old new id at h = greatest_of (overlay old.now.trees []) 11 _ (selected last_is [] old new _ at h)

pub count_is : IsSelection ours COUNT_OF_TEXT.now (counted (inner 11 end) (equals_first 2)) (codes "count(*)" ∷ [])
unfolding understood everything
count_is = record { command = refl; unlisted = refl; plain = (refl, refl) }

pub all_is : IsSelection ours COUNT_TEXT.now (counted (inner 11 end) []) (codes "count(*)" ∷ [])
unfolding understood everything
all_is = record { command = refl; unlisted = refl; plain = (refl, refl) }

pub count_all : (old new : State) (n : ℕ) → IsInside old → Shown COUNT_TEXT.now [] old new (number_columns n ∷ []) → IsCount 11 old.now.trees n
count_all old new n at h = one_count (overlay old.now.trees []) 11 n (selected all_is [] old new _ at h)

one_number : {a b : Row} → ◌≡◌ {A = List Row} (a ∷ []) (b ∷ []) → a ≡ b
one_number e = cc

only_value : {a b : Value} → ◌≡◌ {A = Row} (a ∷ []) (b ∷ []) → a ≡ b
only_value e = cc

pub count : (old new : State) (id n : ℕ) → IsInside old → Shown COUNT_OF_TEXT.now (Int (pos id) ∷ []) old new (number_columns n ∷ []) → IsCountOf 11 2 id old.now.trees n
count old new id n at h =
    let params : Row = Int (pos id) ∷ [] in
    let db = overlay old.now.trees [] in
    let met = matches_number db 11 2 id in
    let counted = counts db params (inner 11 end) (equals_first 2) _ (selected count_is params old new _ at h) in
    only_value (one_number counted)
    ∙ ap capped (ap length met ∙ length-map (filter (is_number 2 id) (old.now.trees 11)) (λ (r : Row). params ∷ r ∷ []))
