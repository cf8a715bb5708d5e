-- What the queries on archives answer.
use Rattle.reg_tables_sql.proofs.Words.{◌≡◌, ℕ, pos, List, [], ◌∷◌, codes, map, Option, refl, sym, ap, subst, ◌∙◌, filter, Int, Text}
use Rattle.reg_tables_sql.proofs.Words.{Binary, Row, Term, col, inner, end, overlay, State, ours, IsInside, IsSelection, selected, Bool}
use Rattle.reg_tables_sql.proofs.Words.{true, cond, ◌&&◌, Global, flat_map, IsPermutation, eval_all, op2, Trees, Query, IsSureAnswer}
use Rattle.reg_tables_sql.proofs.Words.{Compare, Eq, number_columns, shown_of, is_number, is_version, shows, plain, answers, joined}
use Rattle.reg_tables_sql.proofs.Words.{same_filter, and_true, of_table, shown_exactly, equals_first, matches_number}
use Rattle.sqlite.specs.Listing.{understood}
use Rattle.sqlite.specs.State.{Shown}
use Rattle.sqlite_tied.specs.Compute.{everything}
use Rattle.std.specs.Prelude.{Vec}
use Rattle.reg_tables_sql.specs.declared.archives.TheConstants.{BY_ID_TEXT, FIRST_ID_TEXT, OF_VERSION_TEXT}
use Rattle.reg_tables_sql.specs.Archives.{IsArchiveOf, IsArchiveWithId, archives_of, columns_of_archive, columns_of_bytes, is_archive_of}
use Rattle.reg_tables_sql.specs.Counts.{IsFirstId}
use Rattle.reg_tables_sql.specs.declared.archives.Archive.{Archive}
use Rattle.reg_tables_sql.proofs.FirstIds.{first, first_of}
use Rattle.reg_tables_sql.proofs.VersionTexts.{wanted, is_wanted}

abbrev bytes_project : List Term
bytes_project = col 2 2 ∷ []

abbrev of_version_filter : List Term
of_version_filter =
    op2 (Compare Eq Binary) (col 2 0) (col 1 0) ∷ op2 (Compare Eq Binary) (col 1 2) (col 0 0) ∷ op2 (Compare Eq Binary) (col 1 4) (col 0 1) ∷ op2 (Compare Eq Binary) (col 1 3) (col 0 2) ∷ []

abbrev of_version_query : Query
of_version_query = plain (inner 11 (inner 13 end)) of_version_filter bytes_project

pub of_version_is : IsSelection ours OF_VERSION_TEXT.now (of_version_query) (codes "bytes" ∷ [])
unfolding understood everything
of_version_is = record { command = refl; unlisted = refl; plain = (refl, refl) }

same_join : {A B : Type 0} (f g : A → List B) → ((x : A) → f x ≡ g x) → (xs : List A) → flat_map f xs ≡ flat_map g xs
same_join f g h [] = refl
same_join f g h (x ∷ xs) = rw (h x, same_join f g h xs)

-- a join on a test of both rows, where another test is on the first row alone
pub joined_where : {A D B C : Type 0} (p : A → D → Bool) (b : A → Bool) (f : A → D → B) (g : B → C) (xs : List A) (ys : List D)
    → map g (flat_map (λ x. flat_map (λ y. cond (p x y && b x) (f x y ∷ []) []) ys) xs) ≡ flat_map (λ x. map (λ y. g (f x y)) (filter (p x) ys)) (filter b xs)
joined_where p b f g xs ys =
    ap (map g) (same_join _ (λ x. flat_map (λ y. cond (p x y && (b x && true)) (f x y ∷ []) []) ys) (λ x. same_join _ _ (λ y. ap (λ c. cond (p x y && c) (f x y ∷ []) []) (sym (and_true (b x)))) ys) xs)
    ∙ joined p b f g xs ys

abbrev of_version_params : ℕ → List ℕ → List ℕ → Row
of_version_params of_crate release vers = Int (pos of_crate) ∷ Text release ∷ Text vers ∷ []

of_version_gives : (db : Trees) (of_crate : ℕ) (release vers : List ℕ) (rows : List Row) → IsSureAnswer of_version_query (overlay db []) (of_version_params of_crate release vers) rows
    → IsPermutation (archives_of of_crate release vers db) rows
of_version_gives db of_crate release vers rows h =
    let params = of_version_params of_crate release vers in
    let all = joined_where is_archive_of (wanted of_crate release vers) (λ (v a : Row). params ∷ v ∷ a ∷ []) (eval_all bytes_project) (db 11) (db 13) in
    let test = same_filter (wanted of_crate release vers) (is_version of_crate release vers) (is_wanted of_crate release vers) (db 11) in
    subst (λ xs. IsPermutation xs rows) (all ∙ ap (flat_map (λ v. map (shows (2 ∷ [])) (filter (is_archive_of v) (db 13)))) test)
    (answers (overlay db []) params (inner 11 (inner 13 end)) of_version_filter bytes_project rows h)

pub of_version : (old new : State) (of_crate : ℕ) (release vers : List ℕ) (found : Option (Vec ℕ Global)) → IsInside old
    → Shown OF_VERSION_TEXT.now (of_version_params of_crate release vers) old new (shown_of columns_of_bytes found) → IsArchiveOf of_crate release vers old.now.trees found
of_version old new of_crate release vers found at h =
    shown_exactly columns_of_bytes _ found (of_version_gives old.now.trees of_crate release vers _ (selected of_version_is (of_version_params of_crate release vers) old new _ at h))

pub by_id_is : IsSelection ours BY_ID_TEXT.now (plain (inner 13 end) (equals_first 0) (col 1 0 ∷ col 1 2 ∷ [])) (codes "version" ∷ codes "bytes" ∷ [])
unfolding understood everything
by_id_is = record { command = refl; unlisted = refl; plain = (refl, refl) }

pub by_id : (old new : State) (version : ℕ) (found : Option Archive) → IsInside old
    → Shown BY_ID_TEXT.now (Int (pos version) ∷ []) old new (shown_of columns_of_archive found) → IsArchiveWithId version old.now.trees found
by_id old new version found at h =
    let db = overlay old.now.trees [] in
    shown_exactly columns_of_archive _ found
    (of_table db (Int (pos version) ∷ []) 13 (equals_first 0) (col 1 0 ∷ col 1 2 ∷ []) _ (is_number 0 version) (matches_number db 13 0 version)
    (selected by_id_is (Int (pos version) ∷ []) old new _ at h))

pub first_is : IsSelection ours FIRST_ID_TEXT.now (first 13) (codes "version" ∷ [])
unfolding understood everything
first_is = record { command = refl; unlisted = refl; plain = (refl, refl) }

pub first_id : (old new : State) (id : Option ℕ) → IsInside old → Shown FIRST_ID_TEXT.now [] old new (shown_of number_columns id) → IsFirstId 13 old.now.trees id
first_id old new id at h = first_of (overlay old.now.trees []) 13 _ (selected first_is [] old new _ at h)
