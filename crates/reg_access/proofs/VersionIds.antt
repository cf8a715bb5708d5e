-- The id that is found of a version is that of its publication.
use Rattle.reg_access.proofs.Words.{◌≡◌, ◌==◌, ◌⊎◌, inl, inr, ℕ, pos, List, [], ◌∷◌, map, Bool, true, false, ◌&&◌, cond, Option, Some, None}
use Rattle.reg_access.proofs.Words.{is_some, refl, sym, ap, ap₂, subst, ◌∙◌, filter, find, IsPermutation, option_map, on, bytes_eq, eq-eqb}
use Rattle.reg_access.proofs.Words.{eqb-true, IsPermutation-map, Binary, Row, column, Trees, Value, Int, Text, equal, canon, name_of}
use Rattle.reg_access.proofs.Words.{release_key_of, Action, crate_of, Read, Index, Download, ListOwners, Publish, Yank, Unyank, AddOwners}
use Rattle.reg_access.proofs.Words.{RemoveOwners, collides, versions, lists, Registry, true_not_false, IsIn, one_passes, number_columns}
use Rattle.reg_access.proofs.Words.{shown_of, shows, equals_int, maps_twice, IdAssignment, StandCrates, StandsBy, StoredCrate, StoredVersion}
use Rattle.reg_access.proofs.Words.{row_of_version, same_crate, same_number, IsIdOf, version_named, crates_seen_by, is_there, is_version}
use Rattle.reg_access.proofs.Words.{named_rows, value_at, versions_with_text}
use Rattle.std.specs.Cmp.{eq_by_cmp_equiv, nat_cmp_total}
use Rattle.std.specs.List.{IsDistinct}
use Rattle.std.specs.Ordering.{eq_by_cmp, nat_cmp}
use Rattle.std.proofs.lemmas.Map.Keys.{IsDistinct-from_sorted}
use Rattle.sqlite_trees.proofs.ListLemmas.{IsPermutation-filter}
use Rattle.reg_model.specs.Crates.{version}
use Rattle.reg_model.specs.Registry.{Text as Bytes}
use Rattle.reg_model.proofs.Lists.{none_found}
use Rattle.reg_model.proofs.Members.{distinct_from_map}
use Rattle.reg_tables_schema.proofs.Permutes.{filter_map}
use Rattle.reg_tables_represent.specs.Changes.{told_of}
use Rattle.reg_tables_represent.specs.Entries.{one_of}
use Rattle.reg_tables_represent.proofs.Selected.{short_same, shown_short}
use Rattle.reg_tables_represent.proofs.VersionEntries.{same_passes}
use Rattle.reg_access.specs.Admitted.{publication_at}
use Rattle.reg_access.proofs.CrateLaw.{IsFound, IsMissing, found_or_missing, id_shown, no_rows}
use Rattle.reg_access.proofs.Somes.{same_some}
use Rattle.reg_access.proofs.VersionLaw.{and_twice, is_of_text, no_version_of_null, tells_version}

first_is : {X Y : Type 0} (f : X → Y) (x : X) (xs : List X) (o : Option Y) → map f (x ∷ xs) ≡ one_of o → Some (f x) ≡ o
first_is f x xs None h = absurd cc
first_is f x xs (Some y) h = cc

-- where one passes or none, it is the one that is found
pub finds_one : {X Y : Type 0} (f : X → Y) (p : X → Bool) (xs : List X) (o : Option Y) → map f (filter p xs) ≡ one_of o → option_map f (find p xs) ≡ o
finds_one f p [] None h = refl
finds_one f p [] (Some y) h = absurd cc
finds_one f p (x ∷ xs) o h = split (p x) h (finds_one f p xs o)
  where
    split : (b : Bool) → map f (cond b (x ∷ filter p xs) (filter p xs)) ≡ one_of o → (map f (filter p xs) ≡ one_of o → option_map f (find p xs) ≡ o) → option_map f (cond b (Some x) (find p xs)) ≡ o
    split true e rest = first_is f x (filter p xs) o e
    split false e rest = rest e

-- one that is found is there
found_in : {X : Type 0} (p : X → Bool) (xs : List X) (x : X) → find p xs ≡ Some x → IsIn x xs
found_in p [] x e = absurd cc
found_in p (y ∷ ys) x e = split (p y) e (found_in p ys x)
  where
    split : (b : Bool) → cond b (Some y) (find p ys) ≡ Some x → (find p ys ≡ Some x → IsIn x ys) → IsIn x (y ∷ ys)
    split true f rest = inl (same_some f)
    split false f rest = inr (rest f)

-- what is found of what passes one test, among parts, is found by both
find_both : {X Y : Type 0} (f : X → Y) (p q : Y → Bool) (xs : List X) → option_map f (find (λ x. p (f x) && q (f x)) xs) ≡ find q (filter p (map f xs))
find_both f p q [] = refl
find_both f p q (x ∷ xs) = split (p (f x)) (q (f x)) refl (find_both f p q xs)
  where
    split : (b c : Bool) → q (f x) ≡ c → option_map f (find (λ y. p (f y) && q (f y)) xs) ≡ find q (filter p (map f xs))
        → option_map f (cond (b && c) (Some x) (find (λ y. p (f y) && q (f y)) xs)) ≡ find q (cond b (f x ∷ filter p (map f xs)) (filter p (map f xs)))
    split true true e rest = rw e refl
    split true false e rest = rw e rest
    split false c e rest = rest

one_number : (xs : List ℕ) (n : ℕ) → map number_columns xs ≡ number_columns n ∷ [] → xs ≡ n ∷ []
one_number [] n e = absurd cc
one_number (x ∷ []) n e = cc
one_number (x ∷ y ∷ xs) n e = absurd cc

none_shown : (ids : IdAssignment) (found : Option ℕ) → false ≡ is_there (shown_of number_columns found) → IsIdOf ids None found
none_shown ids None e = refl
none_shown ids (Some id) e = absurd cc

module _ (ids : IdAssignment) (s : Registry) (db : Trees) (stands : StandsBy ids s db) where
  abbrev h : StandCrates ids s.publications s.yanked db
  h = stands.crates

  ids_apart : IsDistinct (on (λ v. v.id) (eq_by_cmp nat_cmp)) ids.versions
  ids_apart = distinct_from_map (eq_by_cmp nat_cmp) (λ v. v.id) ids.versions (IsDistinct-from_sorted nat_cmp (map (λ v. v.id) ids.versions) h.rising)

  same_id : (v x y : StoredVersion) → (x.id == v.id) ≡ true → (y.id == v.id) ≡ true → eq_by_cmp nat_cmp x.id y.id ≡ true
  same_id v x y p q = subst (λ n. eq_by_cmp nat_cmp x.id n ≡ true) (eqb-true x.id v.id p ∙ sym (eqb-true y.id v.id q)) ((eq_by_cmp_equiv nat_cmp_total).refl x.id)

  at_id : (v : StoredVersion) → IsIn v ids.versions → publication_at ids v.id ≡ Some v.publication
  at_id v i =
      let alone = one_passes (on (λ w. w.id) (eq_by_cmp nat_cmp)) (λ w. w.id == v.id) ids.versions v ids_apart (λ x y j k p q. same_id v x y p q) i (eq-eqb v.id v.id refl) in
      finds_one (λ w. w.publication) (λ w. w.id == v.id) ids.versions (Some v.publication) (ap (map (λ w. w.publication)) alone)

  module _ (n text : Bytes) where
    abbrev is_named : StoredVersion → Bool
    is_named v = collides v.publication.name n && bytes_eq v.publication.version text

    it_is : option_map (λ v. v.publication) (find is_named ids.versions) ≡ version s n text
    it_is =
        find_both (λ v. v.publication) (λ p. collides p.name n) (λ p. bytes_eq p.version text) ids.versions
        ∙ ap (λ ps. find (λ p. bytes_eq p.version text) (filter (λ p. collides p.name n) ps)) h.published

    -- the one version whose id a text shows
    module _ (x : StoredCrate) (it : IsFound ids s db stands n x) (id : ℕ) (shown : versions_with_text (Int (pos x.0)) text db ≡ number_columns id ∷ []) where
      abbrev row : StoredVersion → Row
      row = row_of_version s.yanked

      abbrev test : Row → Bool
      test = is_version (Int (pos x.0)) text

      named_so : (v : StoredVersion) → IsIn v ids.versions → test (row v) ≡ is_named v
      named_so v i =
          and_twice (equal Binary (column (row v) 2) (Int (pos x.0))) (equal Binary (column (row v) 4) (Text (release_key_of text))) (equal Binary (column (row v) 3) (Text text))
          ∙ ap₂ ◌&&◌ (equals_int (Int (pos v.of_crate)) (pos x.0) ∙ same_number v.of_crate x.0 ∙ same_crate ids s.publications s.yanked db h x.0 x.1 it.stored v i ∙ ap (λ c. bytes_eq (canon v.publication.name) c) it.named_so)
          (is_of_text ids s db stands n (Int (pos x.0)) text v)

      passed : IsPermutation (map (λ v. number_columns v.id) (filter is_named ids.versions)) (versions_with_text (Int (pos x.0)) text db)
      passed =
          let same = filter_map row test ids.versions ∙ ap (map row) (same_passes (λ v. test (row v)) is_named ids.versions named_so) in
          let rows = subst (λ rs. IsPermutation rs (filter test (db 11))) same (IsPermutation-filter test (map row ids.versions) (db 11) h.version_rows) in
          subst (λ rs. IsPermutation rs (versions_with_text (Int (pos x.0)) text db)) (maps_twice row (shows (0 ∷ [])) (filter is_named ids.versions)) (IsPermutation-map (shows (0 ∷ [])) _ _ rows)

      its_id : option_map (λ v. v.id) (find is_named ids.versions) ≡ Some id
      its_id =
          let alone : map (λ v. number_columns v.id) (filter is_named ids.versions) ≡ shown_of number_columns (Some id) = short_same _ _ (subst (IsPermutation _) shown passed) (shown_short number_columns (Some id)) in
          finds_one (λ v. v.id) is_named ids.versions (Some id)
          (one_number (map (λ v. v.id) (filter is_named ids.versions)) id (maps_twice (λ v. v.id) number_columns (filter is_named ids.versions) ∙ alone))

      id_found : IsIdOf ids (version s n text) (Some id)
      id_found = by (find is_named ids.versions) refl
        where
          by : (o : Option StoredVersion) → find is_named ids.versions ≡ o → IsIdOf ids (version s n text) (Some id)
          by None none = absurd (true_not_false true refl (sym (ap is_some its_id) ∙ ap (λ o. is_some (option_map (λ v. v.id) o)) none))
          by (Some v) is =
              let number : v.id ≡ id = same_some (sym (ap (option_map (λ v. v.id)) is) ∙ its_id) in
              let itself : Some v.publication ≡ version s n text = sym (ap (option_map (λ v. v.publication)) is) ∙ it_is in
              (ap (publication_at ids) (sym number) ∙ at_id v (found_in is_named ids.versions v is) ∙ itself, ap is_some (sym itself))

    id_shown_is : (account : Value) (found : Option ℕ) → versions_with_text (value_at (crates_seen_by (canon n) account db) 0) text db ≡ shown_of number_columns found → IsIdOf ids (version s n text) found
    id_shown_is account None e = none_found (λ p. bytes_eq p.version text) (versions s n) (sym (tells_version ids s db stands n account text) ∙ ap is_there e)
    id_shown_is account (Some id) e = either (found_or_missing ids s db stands n)
      where
        either : IsMissing ids s db stands n ⊎ ((x : StoredCrate) × IsFound ids s db stands n x) → IsIdOf ids (version s n text) (Some id)
        either (inl none) = absurd (true_not_false _ (ap is_there e) (ap (λ rs. is_there (versions_with_text (value_at rs 0) text db)) (no_rows ids s db stands n account none) ∙ no_version_of_null text db))
        either (inr (x, it)) = id_found x it id (sym (ap (λ v. versions_with_text v text db) (id_shown ids s db stands n account x it)) ∙ e)

  -- and so of a text that may be no name
  id_told : (o : Option Bytes) (account : Value) (text : Bytes) (found : Option ℕ) → versions_with_text (value_at (lists (λ n. crates_seen_by (canon n) account db) o) 0) text db ≡ shown_of number_columns found → IsIdOf ids (told_of o None (λ n. version s n text)) found
  id_told None account text found e = none_shown ids found (sym (no_version_of_null text db) ∙ ap is_there e)
  id_told (Some n) account text found e = id_shown_is n text account found e

  pub id_named : (a : Action) (account : Value) (rows : List Row) (found : Option ℕ) → lists (λ n. crates_seen_by (canon n) account db) (crate_of a) ≡ rows → named_rows a rows db ≡ shown_of number_columns found → IsIdOf ids (version_named s a) found
  id_named Read account rows found of_crate e = none_shown ids found (ap is_there e)
  id_named (Index path) account rows found of_crate e = none_shown ids found (ap is_there e)
  id_named (Download n v) account rows found of_crate e = id_told (name_of n) account v found (ap (λ rs. versions_with_text (value_at rs 0) v db) of_crate ∙ e)
  id_named (ListOwners n) account rows found of_crate e = none_shown ids found (ap is_there e)
  id_named (Publish n v) account rows found of_crate e = none_shown ids found (ap is_there e)
  id_named (Yank n v) account rows found of_crate e = id_told (name_of n) account v found (ap (λ rs. versions_with_text (value_at rs 0) v db) of_crate ∙ e)
  id_named (Unyank n v) account rows found of_crate e = id_told (name_of n) account v found (ap (λ rs. versions_with_text (value_at rs 0) v db) of_crate ∙ e)
  id_named (AddOwners n logins) account rows found of_crate e = none_shown ids found (ap is_there e)
  id_named (RemoveOwners n logins) account rows found of_crate e = none_shown ids found (ap is_there e)
