-- The archive of a version, as a selection shows it.
use Rattle.reg_tables_represent.proofs.Words.{told_of, filter, find, flat_map, eq_by_cmp_equiv, nat_cmp_total, IsDistinct-from_sorted, Int}
use Rattle.reg_tables_represent.proofs.Words.{Blob, IsPermutation-filter, IsPermutation-flat_map, IsPermutation-flat_map_each, flat_map-map}
use Rattle.reg_tables_represent.proofs.Words.{Publication, mark_cmp, equals_int, maps_twice, same_filter, one_of, StoredVersion}
use Rattle.reg_tables_represent.proofs.Words.{row_of_version, row_of_archive, StandCrates, IdAssignment, spelling_at, is_version, shows, IsIn}
use Rattle.reg_tables_represent.proofs.Words.{distinct_from_map, in_filter, one_passes}
use Rattle.reg_tables_represent.proofs.Yanks.{no_version}
use Rattle.reg_tables_represent.proofs.Common.{◌≡◌, ◌==◌, [], ◌∷◌, ◌∙◌, ap, Bool, bytes_eq, collides, cond, eq-eqb, eq_by_cmp, eqb-true, false, filter_map, inl, inr, IsPermutation, IsPermutation-map, IsPermutation-trans, List, map, nat_cmp, None, on, Option, option_map, pos, refl, release_key_of, Row, shown_of, Some, subst, sym, Trees, true, ℕ}
use Rattle.std.specs.Prelude.{◌&&◌, Vec}
use Rattle.std.specs.FinSet as finset
use Rattle.std.specs.List.{IsDistinct}
use Rattle.std.specs.declared.alloc.Global.{Global}
use Rattle.reg_model.specs.Registry.{Text as Words}
use Rattle.reg_tables_sql.specs.Archives.{archives_of, is_archive_of, columns_of_bytes}
use Rattle.reg_tables_represent.proofs.AccountEntries.{same_text, heads}
use Rattle.reg_tables_represent.proofs.CrateLemmas.{same_crate, same_bytes, bytes_same, there_at}
use Rattle.reg_tables_represent.proofs.Selected.{short_same, shown_short}
use Rattle.reg_tables_represent.proofs.Standing.{same_number}
use Rattle.reg_tables_represent.proofs.VersionEntries.{same_passes, bytes_are}

-- a test after another is both
passes_both : {X : Type 0} (p q : X → Bool) (xs : List X) → filter q (filter p xs) ≡ filter (λ x. p x && q x) xs
passes_both p q [] = refl
passes_both p q (x ∷ xs) = split (p x) (passes_both p q xs)
  where
    split : (b : Bool) → filter q (filter p xs) ≡ filter (λ y. p y && q y) xs → filter q (cond b (x ∷ filter p xs) (filter p xs)) ≡ cond (b && q x) (x ∷ filter (λ y. p y && q y) xs) (filter (λ y. p y && q y) xs)
    split true h = ap (λ ys. cond (q x) (x ∷ ys) ys) h
    split false h = h

first_is : {X Y : Type 0} (f : X → Y) (x : X) (xs : List X) (o : Option Y) → map f (x ∷ xs) ≡ one_of o → Some (f x) ≡ o
first_is f x xs None h = absurd cc
first_is f x xs (Some y) h = cc

-- where one passes or none, it is the one that is found
finds_one : {X Y : Type 0} (f : X → Y) (p : X → Bool) (xs : List X) (o : Option Y) → map f (filter p xs) ≡ one_of o → option_map f (find p xs) ≡ o
finds_one f p [] None h = refl
finds_one f p [] (Some y) h = absurd cc
finds_one f p (x ∷ xs) o h = split (p x) h (finds_one f p xs o)
  where
    split : (b : Bool) → map f (cond b (x ∷ filter p xs) (filter p xs)) ≡ one_of o → (map f (filter p xs) ≡ one_of o → option_map f (find p xs) ≡ o) → option_map f (cond b (Some x) (find p xs)) ≡ o
    split true e rest = first_is f x (filter p xs) o e
    split false e rest = rest e

-- a list for each element that is there, of one
each_once : {X Y : Type 0} (f : X → List Y) (g : X → Y) (xs : List X) → ((x : X) → IsIn x xs → f x ≡ g x ∷ []) → flat_map f xs ≡ map g xs
each_once f g [] h = refl
each_once f g (x ∷ xs) h = rw (h x (inl refl)) (ap (λ ys. g x ∷ ys) (each_once f g xs (λ y i. h y (inr i))))

abbrev bytes_row : Words → Row
bytes_row bytes = Blob bytes ∷ []

bytes_rows : (xs : List Words) (o : Option (Vec ℕ Global)) → map bytes_row xs ≡ shown_of columns_of_bytes o → xs ≡ one_of (option_map (λ b. b.items) o)
bytes_rows [] None h = refl
bytes_rows (x ∷ xs) None h = absurd cc
bytes_rows [] (Some b) h = absurd cc
bytes_rows (x ∷ []) (Some b) h = ap (λ y. y ∷ []) (bytes_are (heads (one h)))
  where
    one : {r s : Row} → ◌≡◌ {A = List Row} (r ∷ []) (s ∷ []) → r ≡ s
    one e = cc
bytes_rows (x ∷ y ∷ xs) (Some b) h = absurd cc

-- of one text, the release is one
text_alone : (t u : Words) → (bytes_eq (release_key_of t) (release_key_of u) && bytes_eq t u) ≡ bytes_eq t u
text_alone t u = split (bytes_eq t u) refl
  where
    split : (b : Bool) → bytes_eq t u ≡ b → (bytes_eq (release_key_of t) (release_key_of u) && b) ≡ b
    split true e = ap (λ b. b && true) (bytes_same (release_key_of t) (release_key_of u) (ap release_key_of (same_bytes t u e)))
    split false e = no (bytes_eq (release_key_of t) (release_key_of u))
      where
        no : (b : Bool) → (b && false) ≡ false
        no true = refl
        no false = refl

shown_none : (found : Option (Vec ℕ Global)) → [] ≡ shown_of columns_of_bytes found → option_map (λ b. b.items) found ≡ None
shown_none None e = refl
shown_none (Some b) e = absurd cc

module _ (ids : IdAssignment) (ps : List Publication) (yanked : finset.FinSet mark_cmp) (db : Trees) (h : StandCrates ids ps yanked db) where
  abbrev row : StoredVersion → Row
  row = row_of_version yanked

  -- the archives of the version that has this row
  abbrev of_row : Row → List Row
  of_row r = map (shows (2 ∷ [])) (filter (is_archive_of r) (map row_of_archive ids.versions))

  ids_apart : IsDistinct (on (λ w. w.id) (eq_by_cmp nat_cmp)) ids.versions
  ids_apart = distinct_from_map (eq_by_cmp nat_cmp) (λ w. w.id) ids.versions (IsDistinct-from_sorted nat_cmp (map (λ w. w.id) ids.versions) h.rising)

  same_id : (v : StoredVersion) (x y : StoredVersion) → (x.id == v.id) ≡ true → (y.id == v.id) ≡ true → eq_by_cmp nat_cmp x.id y.id ≡ true
  same_id v x y p q = subst (λ n. eq_by_cmp nat_cmp x.id n ≡ true) (eqb-true x.id v.id p ∙ sym (eqb-true y.id v.id q)) ((eq_by_cmp_equiv nat_cmp_total).refl x.id)

  one_archive : (v : StoredVersion) → IsIn v ids.versions → of_row (row v) ≡ bytes_row v.publication.archive ∷ []
  one_archive v i =
      let test = is_archive_of (row v) in
      let mine = same_filter (λ w. test (row_of_archive w)) (λ w. w.id == v.id) (λ w. equals_int (Int (pos w.id)) (pos v.id) ∙ same_number w.id v.id) ids.versions in
      let one = one_passes (on (λ w. w.id) (eq_by_cmp nat_cmp)) (λ w. w.id == v.id) ids.versions v ids_apart (λ x y j k p q. same_id v x y p q) i (eq-eqb v.id v.id refl) in
      ap (map (shows (2 ∷ []))) (filter_map row_of_archive test ids.versions ∙ ap (map row_of_archive) (mine ∙ one))

  module _ (id : ℕ) (name text : Words) (there : IsIn (id, name) ids.crates) where
    abbrev its : List StoredVersion
    its = filter (λ v. bytes_eq v.publication.version text) (filter (λ v. collides v.publication.name name) ids.versions)

    abbrev test : Row → Bool
    test = is_version id (release_key_of text) text

    of_text : (v : StoredVersion) → IsIn v ids.versions → test (row v) ≡ (collides v.publication.name name && bytes_eq v.publication.version text)
    of_text v i =
        let p = v.publication in
        let number = same_number v.of_crate id ∙ same_crate ids ps yanked db h id name there v i in
        let texts : (bytes_eq (release_key_of p.version) (release_key_of text) && bytes_eq p.version text) ≡ bytes_eq p.version text = text_alone p.version text in
        (λ k. number k && (same_text (release_key_of p.version) (release_key_of text) k && same_text p.version text k)) ∙ ap (λ b. collides p.name name && b) texts

    rows_of_it : IsPermutation (map row its) (filter test (db 11))
    rows_of_it =
        let named = same_passes (λ v. test (row v)) (λ v. collides v.publication.name name && bytes_eq v.publication.version text) ids.versions of_text in
        subst (λ ys. IsPermutation ys (filter test (db 11))) (filter_map row test ids.versions ∙ ap (map row) (named ∙ sym (passes_both (λ v. collides v.publication.name name) (λ v. bytes_eq v.publication.version text) ids.versions)))
        (IsPermutation-filter test (map row ids.versions) (db 11) h.version_rows)

    archives_are : IsPermutation (map (λ v. bytes_row v.publication.archive) its) (archives_of id (release_key_of text) text db)
    archives_are =
        let stored : (v : StoredVersion) → IsIn v its → IsIn v ids.versions = λ v i. in_filter (λ v. collides v.publication.name name) ids.versions v (in_filter (λ v. bytes_eq v.publication.version text) _ v i) in
        let once = flat_map-map of_row row its ∙ each_once (λ v. of_row (row v)) (λ v. bytes_row v.publication.archive) its (λ v i. one_archive v (stored v i)) in
        let first = IsPermutation-flat_map of_row (map row its) (filter test (db 11)) rows_of_it in
        let each = IsPermutation-flat_map_each of_row (λ r. map (shows (2 ∷ [])) (filter (is_archive_of r) (db 13)))
        (λ r. IsPermutation-map (shows (2 ∷ [])) _ _ (IsPermutation-filter (is_archive_of r) (map row_of_archive ids.versions) (db 13) h.archive_rows)) (filter test (db 11)) in
        subst (λ ys. IsPermutation ys (archives_of id (release_key_of text) text db)) once (IsPermutation-trans _ (flat_map of_row (filter test (db 11))) _ first each)

    found_archive : (found : Option (Vec ℕ Global)) → archives_of id (release_key_of text) text db ≡ shown_of columns_of_bytes found
        → option_map (λ b. b.items) found ≡ option_map (λ p. p.archive) (find (λ p. bytes_eq p.version text) (filter (λ p. collides p.name name) ps))
    found_archive found e =
        let archives = map (λ v. v.publication.archive) its in
        let shown : map (λ v. bytes_row v.publication.archive) its ≡ shown_of columns_of_bytes found = short_same _ _ (subst (IsPermutation _) e archives_are) (shown_short columns_of_bytes found) in
        let stored : archives ≡ one_of (option_map (λ b. b.items) found) = bytes_rows archives found (maps_twice (λ v. v.publication.archive) bytes_row its ∙ shown) in
        let published : filter (λ p. bytes_eq p.version text) (filter (λ p. collides p.name name) ps) ≡ map (λ v. v.publication) its =
        ap (λ qs. filter (λ p. bytes_eq p.version text) (filter (λ p. collides p.name name) qs)) (sym h.published)
        ∙ ap (filter (λ p. bytes_eq p.version text)) (filter_map (λ v. v.publication) (λ p. collides p.name name) ids.versions)
        ∙ filter_map (λ v. v.publication) (λ p. bytes_eq p.version text) (filter (λ v. collides v.publication.name name) ids.versions) in
        sym (finds_one (λ p. p.archive) (λ p. bytes_eq p.version text) (filter (λ p. collides p.name name) ps) (option_map (λ b. b.items) found)
        (ap (map (λ p. p.archive)) published ∙ maps_twice (λ v. v.publication) (λ p. p.archive) its ∙ stored))

  -- no row of a version is of a crate that is not there
  no_archive : (id : ℕ) (text : Words) → spelling_at ids id ≡ None → archives_of id (release_key_of text) text db ≡ []
  no_archive id text none = ap (flat_map (λ r. map (shows (2 ∷ [])) (filter (is_archive_of r) (db 13)))) (no_version ids ps yanked db h id text none)

  -- the archive of this version of the crate with this id; none where there is no crate
  pub finds_archive : (id : ℕ) (text : Words) (found : Option (Vec ℕ Global)) → archives_of id (release_key_of text) text db ≡ shown_of columns_of_bytes found
      → option_map (λ b. b.items) found ≡ told_of (spelling_at ids id) None (λ name. option_map (λ p. p.archive) (find (λ p. bytes_eq p.version text) (filter (λ p. collides p.name name) ps)))
  finds_archive id text found e = split (spelling_at ids id) refl
    where
      split : (o : Option Words) → spelling_at ids id ≡ o → option_map (λ b. b.items) found ≡ told_of o None (λ name. option_map (λ p. p.archive) (find (λ p. bytes_eq p.version text) (filter (λ p. collides p.name name) ps)))
      split None none = shown_none found (sym (no_archive id text none) ∙ e)
      split (Some name) at = found_archive id name text (there_at ids id name at) found e
