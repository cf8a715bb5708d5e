-- What the queries on the marks of versions answer.
use Rattle.reg_tables_sql.proofs.Words.{◌≡◌, ℕ, pos, List, [], ◌∷◌, codes, map, Option, refl, ap, ◌∙◌, filter, Int, Text, Binary, ascending}
use Rattle.reg_tables_sql.proofs.Words.{Row, Term, col, inner, end, matches, Trees, overlay, State, ours, IsInside, by_column, shown_of}
use Rattle.reg_tables_sql.proofs.Words.{is_number, is_version, plain, same_filter, IsSelection, selected, matched, of_table, shown_exactly}
use Rattle.reg_tables_sql.proofs.Words.{in_order, in_order_of, then_equal, equals_first, matches_number}
use Rattle.sqlite_sql.specs.declared.ops.UnaryOp.TheVariants.{Length}
use Rattle.sqlite.specs.Ops.{unary}
use Rattle.sqlite.specs.Term.{op1}
use Rattle.sqlite.specs.Listing.{understood}
use Rattle.sqlite.specs.State.{Shown}
use Rattle.sqlite_tied.specs.Compute.{everything}
use Rattle.reg_tables_sql.specs.declared.versions.TheConstants.{MARKS_OF_TEXT, MARK_BY_ID_TEXT, MARK_BY_TEXT_TEXT}
use Rattle.reg_tables_sql.specs.declared.versions.VersionMark.{VersionMark}
use Rattle.reg_tables_sql.specs.VersionMarks.{AreMarksOf, IsMarkOf, IsMarkWithId, columns_of_mark}
use Rattle.reg_tables_sql.proofs.VersionTexts.{is_wanted, wanted, yank_filter}

abbrev project : List Term
project = col 1 0 ∷ col 1 3 ∷ op1 Length (col 1 6) ∷ col 1 8 ∷ []

abbrev names : List (List ℕ)
names = codes "id" ∷ codes "vers" ∷ codes "length(stem)" ∷ codes "yanked" ∷ []

pub marks_are : IsSelection ours MARKS_OF_TEXT.now (in_order (inner 11 end) (equals_first 2) project ((col 1 0, ascending Binary) ∷ [])) names
unfolding understood everything
marks_are = record { command = refl; unlisted = refl; plain = (refl, refl) }

pub marks : (old new : State) (id : ℕ) (list : List VersionMark) → IsInside old → Shown MARKS_OF_TEXT.now (Int (pos id) ∷ []) old new (map columns_of_mark list) → AreMarksOf id old.now.trees list
unfolding unary
marks old new id list at h =
    let params : Row = Int (pos id) ∷ [] in
    in_order_of (overlay old.now.trees []) params 11 (equals_first 2) project ((col 1 0, ascending Binary) ∷ []) _ (is_number 2 id) (by_column 0) (matches_number old.now.trees 11 2 id)
    (λ a b. then_equal (by_column 0 a b)) (selected marks_are params old new _ at h)

pub by_id_is : IsSelection ours MARK_BY_ID_TEXT.now (plain (inner 11 end) (equals_first 0) project) names
unfolding understood everything
by_id_is = record { command = refl; unlisted = refl; plain = (refl, refl) }

pub by_id : (old new : State) (id : ℕ) (found : Option VersionMark) → IsInside old → Shown MARK_BY_ID_TEXT.now (Int (pos id) ∷ []) old new (shown_of columns_of_mark found) → IsMarkWithId id old.now.trees found
unfolding unary
by_id old new id found at h =
    let params : Row = Int (pos id) ∷ [] in
    let db = overlay old.now.trees [] in
    shown_exactly columns_of_mark _ found (of_table db params 11 (equals_first 0) project _ (is_number 0 id) (matches_number db 11 0 id) (selected by_id_is params old new _ at h))

pub by_text_is : IsSelection ours MARK_BY_TEXT_TEXT.now (plain (inner 11 end) yank_filter project) names
unfolding understood everything
by_text_is = record { command = refl; unlisted = refl; plain = (refl, refl) }

abbrev by_text_params : ℕ → List ℕ → List ℕ → Row
by_text_params of_crate release vers = Int (pos of_crate) ∷ Text release ∷ Text vers ∷ []

by_text_matches : (db : Trees) (of_crate : ℕ) (release vers : List ℕ)
    → matches db yank_filter (inner 11 end) (by_text_params of_crate release vers ∷ []) ≡ map (λ r. by_text_params of_crate release vers ∷ r ∷ []) (filter (is_version of_crate release vers) (db 11))
by_text_matches db of_crate release vers =
    let env = λ (r : Row). by_text_params of_crate release vers ∷ r ∷ [] in
    matched (wanted of_crate release vers) env (db 11) ∙ ap (map env) (same_filter _ _ (is_wanted of_crate release vers) (db 11))

pub by_text : (old new : State) (of_crate : ℕ) (release vers : List ℕ) (found : Option VersionMark) → IsInside old
    → Shown MARK_BY_TEXT_TEXT.now (by_text_params of_crate release vers) old new (shown_of columns_of_mark found) → IsMarkOf of_crate release vers old.now.trees found
unfolding unary
by_text old new of_crate release vers found at h =
    let params = by_text_params of_crate release vers in
    let db = overlay old.now.trees [] in
    shown_exactly columns_of_mark _ found (of_table db params 11 yank_filter project _ (is_version of_crate release vers) (by_text_matches db of_crate release vers) (selected by_text_is params old new _ at h))
