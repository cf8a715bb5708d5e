-- What the stored crates and versions say of one another.
use Rattle.std.proofs.lemmas.Map.Keys.{IsDistinct-from_sorted}
use Rattle.reg_tables_represent.proofs.Common.{[], ◌++◌, ◌<◌, ◌==◌, ◌||◌, ◌∙◌, ◌∷◌, ◌≡◌, any_same, ap, arith, Bool, bytes_eq, canon, collides, cond, eq_by_cmp, false, has_rowid, inl, inr, is_eq, List, list_any_map, map, nat_cmp, nat_eq, nat_list_eq_equiv, None, not_true, on, one_row, option_map, pos, refl, Row, slice_get, Some, subst, sym, Trees, true, true_not_false, ℕ}
use Rattle.sqlite_keyed.proofs.ListLemmas.{slice_get-filter}
use Rattle.std.proofs.lemmas.Bool.Decides.{nat_tests}
use Rattle.std.specs.List.{list_any, IsDistinct, find}
use Rattle.std.specs.List.Sorted.{IsPermutation, IsStrictlySortedBy}
use Rattle.std.specs.Cmp.{nat_eq_equiv}
use Rattle.std.specs.FinSet as finset
use Rattle.std.proofs.lemmas.Bool.{and_parts, eq-eqb, eqb-true, ne_eqb}
use Rattle.std.proofs.lemmas.List.Sorted.{IsPermutation-cons, IsPermutation-map, IsPermutation-sym, IsPermutation-to_front, IsPermutation-trans, list_any-IsPermutation}
use Rattle.std.proofs.lemmas.Slice.Eq.{bytes_eq-Decides}
use Rattle.reg_model.specs.Registry.{Text, Publication, Owner, owner_cmp, mark_cmp}
use Rattle.reg_model.proofs.Keys.{owner_total, owner_apart, same_key, ties_itself}
use Rattle.reg_tables_represent.specs.Stands.{StoredCrate, StoredVersion, row_of_crate, StandCrates, IsCrate, is_of, IdAssignment, spelling_at}
use Rattle.reg_model.proofs.Members.{IsIn, any_in, all_in, in_filter, in_map, in_permuted, map_in, one_of, one_passes, in_any, distinct_from_map}
use Rattle.reg_tables_represent.proofs.Standing.{same_number}

-- SQL's numbers in an order, as their equality
pub same_nat : (n m : ℕ) → is_eq (nat_cmp n m) ≡ (n == m)
same_nat n m = grind (arith, nat_tests)

same_test : ◌≡◌ {A = ℕ → ℕ → Bool} (eq_by_cmp nat_cmp) nat_eq
same_test i a b = same_nat a b i

-- what rises is apart
pub apart_by : {X : Type 0} (key : X → ℕ) (xs : List X) → IsStrictlySortedBy nat_cmp (map key xs) → IsDistinct (on key nat_eq) xs
apart_by key xs up = distinct_from_map nat_eq key xs (subst (λ e. IsDistinct e (map key xs)) same_test (IsDistinct-from_sorted nat_cmp (map key xs) up))

-- the spelling at an id, and the crate that has it
found_in : (id : ℕ) (name : Text) (crates : List StoredCrate) → option_map (λ c. c.1) (find (λ c. c.0 == id) crates) ≡ Some name → IsIn (id, name) crates
found_in id name [] h = absurd cc
found_in id name (c ∷ crates) h = split (c.0 == id) refl h (found_in id name crates)
  where
    split : (b : Bool) → (c.0 == id) ≡ b → option_map (λ c. c.1) (cond b (Some c) (find (λ c. c.0 == id) crates)) ≡ Some name → (option_map (λ c. c.1) (find (λ c. c.0 == id) crates) ≡ Some name → IsIn (id, name) crates) → IsIn (id, name) (c ∷ crates)
    split true e h rest = inl (let n = eqb-true c.0 id e in let t : c.1 ≡ name = cc in λ i. (n i, t i))
    split false e h rest = inr (rest h)

none_found : (id : ℕ) (crates : List StoredCrate) → option_map (λ c. c.1) (find (λ c. c.0 == id) crates) ≡ None → list_any (λ c. c.0 == id) crates ≡ false
none_found id [] h = refl
none_found id (c ∷ crates) h = split (c.0 == id) h (none_found id crates)
  where
    split : (b : Bool) → option_map (λ c. c.1) (cond b (Some c) (find (λ c. c.0 == id) crates)) ≡ None → (option_map (λ c. c.1) (find (λ c. c.0 == id) crates) ≡ None → list_any (λ c. c.0 == id) crates ≡ false) → (b || list_any (λ c. c.0 == id) crates) ≡ false
    split true h rest = absurd cc
    split false h rest = rest h

pub there_at : (ids : IdAssignment) (id : ℕ) (name : Text) → spelling_at ids id ≡ Some name → IsIn (id, name) ids.crates
there_at ids id name h = found_in id name ids.crates h

pub not_at : (ids : IdAssignment) (id : ℕ) → spelling_at ids id ≡ None → list_any (λ c. c.0 == id) ids.crates ≡ false
not_at ids id h = none_found id ids.crates h

-- equal texts and numbers, from their tests
pub same_bytes : (a b : Text) → bytes_eq a b ≡ true → a ≡ b
same_bytes a b h = (bytes_eq-Decides a b).0 h

pub text_itself : (a : Text) → bytes_eq a a ≡ true
text_itself a = (bytes_eq-Decides a a).1 refl

pub bytes_same : (a b : Text) → a ≡ b → bytes_eq a b ≡ true
bytes_same a b e = (bytes_eq-Decides a b).1 e

pub below_other : (n m : ℕ) → n < m → (n == m) ≡ false
below_other n m h = ne_eqb n m (λ e. omega (arith, e, h))

pub above_other : (n m : ℕ) → m < n → (n == m) ≡ false
above_other n m h = ne_eqb n m (λ e. omega (arith, e, h))

-- one more row, where one more element is the last
pub pushed : {X : Type 0} (row : X → Row) (xs : List X) (x : X) (rows after : List Row) → IsPermutation (map row xs) rows → IsPermutation (row x ∷ rows) after → IsPermutation (map row (xs ++ x ∷ [])) after
pushed row xs x rows after h put =
    IsPermutation-trans _ (map row (x ∷ xs)) _ (IsPermutation-map row (xs ++ x ∷ []) (x ∷ xs) (IsPermutation-to_front xs x))
    (IsPermutation-trans _ (row x ∷ rows) _ (IsPermutation-cons (row x) (map row xs) rows h) put)

-- owners of one crate differ by the account, and owners of two crates by the crate
pub same_owner : (c : Text) (a b : ℕ) → eq_by_cmp owner_cmp (c, a) (c, b) ≡ (b == a)
same_owner c a b = split (b == a) refl
  where
    split : (t : Bool) → (b == a) ≡ t → eq_by_cmp owner_cmp (c, a) (c, b) ≡ t
    split true e = subst (λ (n : ℕ). eq_by_cmp owner_cmp (c, a) (c, n) ≡ true) (sym (eqb-true b a e)) (ties_itself owner_total (c, a))
    split false e = not_true _ (λ tied.
        let q : Owner = (c, a) in
        let k : Owner = (c, b) in
        true_not_false (b == a) (eq-eqb b a (ap (λ x. x.1) (sym (same_key owner_apart q k tied)))) e)

pub other_owner : (c d : Text) (a b : ℕ) → bytes_eq c d ≡ false → eq_by_cmp owner_cmp (c, a) (d, b) ≡ false
other_owner c d a b h = not_true _ (λ tied.
    let q : Owner = (c, a) in
    let k : Owner = (d, b) in
    true_not_false (bytes_eq c d) (bytes_same c d (ap (λ x. x.0) (same_key owner_apart q k tied))) h)

module _ (crates : List StoredCrate) (db : Trees) (rows : IsPermutation (map row_of_crate crates) (db 7)) where
  -- the stored crate that a row shows
  pub crate_in : (id : ℕ) (name : Text) → IsCrate db id name → IsIn (id, name) crates
  crate_in id name is =
      let row = row_of_crate (id, name) in
      let there : IsIn row (db 7) = in_filter (has_rowid (pos id)) (db 7) row (subst (IsIn row) (sym is) (inl refl)) in
      let stored = map_in row_of_crate crates row (in_permuted (db 7) (map row_of_crate crates) row (IsPermutation-sym _ _ rows) there) in
      subst (λ (c : StoredCrate). IsIn c crates) (one_crate stored.0 id name stored.2) stored.1
    where
      one_crate : (c : StoredCrate) (id : ℕ) (name : Text) → row_of_crate c ≡ row_of_crate (id, name) → c ≡ (id, name)
      one_crate c id name e = let n : c.0 ≡ id = cc in let t : c.1 ≡ name = cc in λ i. (n i, t i)

  pub is_crate : (id : ℕ) (name : Text) → IsStrictlySortedBy nat_cmp (map (λ c. c.0) crates) → IsIn (id, name) crates → IsCrate db id name
  is_crate id name up there =
      let ids = apart_by (λ c. c.0) crates up in
      let has : (c : StoredCrate) → has_rowid (pos id) (row_of_crate c) ≡ (c.0 == id) = λ c. same_number c.0 id in
      let c : StoredCrate = (id, name) in
      let passes = has c ∙ eq-eqb id id refl in
      one_row row_of_crate (has_rowid (pos id)) c crates (db 7) rows
      (one_passes (on (λ c. c.0) nat_eq) (λ d. has_rowid (pos id) (row_of_crate d)) crates c ids (λ d e i j p q. eq-eqb d.0 e.0 (eqb-true d.0 id (sym (has d) ∙ p) ∙ sym (eqb-true e.0 id (sym (has e) ∙ q)))) there passes)

module _ (ids : IdAssignment) (publications : List Publication) (yanked : finset.FinSet mark_cmp) (db : Trees) (stands : StandCrates ids publications yanked db) where
  -- a stored version is published, and a publication is stored
  pub is_published : (v : StoredVersion) → IsIn v ids.versions → IsIn v.publication publications
  is_published v i = subst (IsIn v.publication) stands.published (in_map (λ v. v.publication) ids.versions v i)

  pub is_stored : (p : Publication) → IsIn p publications → (v : StoredVersion) × IsIn v ids.versions × (v.publication ≡ p)
  is_stored p i = map_in (λ v. v.publication) ids.versions p (subst (IsIn p) (sym stands.published) i)

  -- each stored crate has a version, and each version a crate
  pub version_of : (c : StoredCrate) → IsIn c ids.crates → (v : StoredVersion) × IsIn v ids.versions × (c.0 ≡ v.of_crate) × (c.1 ≡ v.publication.name)
  version_of c i =
      let found = any_in (is_of c) ids.versions (all_in (λ c. list_any (is_of c) ids.versions) ids.crates c stands.used i) in
      let parts = and_parts (c.0 == found.0.of_crate) (bytes_eq c.1 found.0.publication.name) found.2 in
      (found.0, found.1, eqb-true _ _ parts.0, same_bytes _ _ parts.1)

  pub crate_of : (v : StoredVersion) → IsIn v ids.versions → (c : StoredCrate) × IsIn c ids.crates × (c.0 ≡ v.of_crate) × (c.1 ≡ v.publication.name)
  crate_of v i =
      let found = any_in (λ c. is_of c v) ids.crates (all_in (λ v. list_any (λ c. is_of c v) ids.crates) ids.versions v stands.of_crates i) in
      let parts = and_parts (found.0.0 == v.of_crate) (bytes_eq found.0.1 v.publication.name) found.2 in
      (found.0, found.1, eqb-true _ _ parts.0, same_bytes _ _ parts.1)

  -- crates of one id are one, and so are those of one canonical text
  pub one_by_id : (c d : StoredCrate) → IsIn c ids.crates → IsIn d ids.crates → c.0 ≡ d.0 → c ≡ d
  one_by_id c d i j e = one_of (on (λ c. c.0) nat_eq) (λ a b. nat_eq_equiv.symm a.0 b.0) ids.crates c d (apart_by (λ c. c.0) ids.crates stands.up) i j (eq-eqb c.0 d.0 e)

  pub one_by_canon : (c d : StoredCrate) → IsIn c ids.crates → IsIn d ids.crates → canon c.1 ≡ canon d.1 → c ≡ d
  one_by_canon c d i j e = one_of (on (λ c. canon c.1) bytes_eq) (λ a b. nat_list_eq_equiv.symm (canon a.1) (canon b.1)) ids.crates c d stands.canons i j (bytes_same _ _ e)

  -- a version is of a crate by its id exactly where it is by its name
  pub same_crate : (id : ℕ) (name : Text) → IsIn (id, name) ids.crates → (v : StoredVersion) → IsIn v ids.versions → (v.of_crate == id) ≡ collides v.publication.name name
  same_crate id name there v i = split (collides v.publication.name name) refl
    where
      c : (c : StoredCrate) × IsIn c ids.crates × (c.0 ≡ v.of_crate) × (c.1 ≡ v.publication.name)
      c = crate_of v i

      split : (b : Bool) → collides v.publication.name name ≡ b → (v.of_crate == id) ≡ b
      split true e = eq-eqb _ _ (sym c.2 ∙ ap (λ d. d.0) (one_by_canon c.0 (id, name) c.1 there (ap canon c.3 ∙ same_bytes _ _ e)))
      split false e = not_true _ (λ t. true_not_false _ (bytes_same _ _ (ap canon (sym c.3 ∙ ap (λ d. d.1) (one_by_id c.0 (id, name) c.1 there (c.2 ∙ eqb-true _ _ t))))) e)

  -- a crate that is there is spelled at its id
  pub spelled_at : (id : ℕ) (name : Text) → IsIn (id, name) ids.crates → spelling_at ids id ≡ Some name
  spelled_at id name there =
      let c : StoredCrate = (id, name) in
      let one = one_passes (on (λ c. c.0) nat_eq) (λ c. c.0 == id) ids.crates c (apart_by (λ c. c.0) ids.crates stands.up) (λ d e i j p q. eq-eqb d.0 e.0 (eqb-true d.0 id p ∙ sym (eqb-true e.0 id q))) there (eq-eqb id id refl) in
      ap (option_map (λ c. c.1)) (sym (slice_get-filter (λ c. c.0 == id) ids.crates) ∙ ap (λ cs. slice_get cs 0) one)

  -- no version is of a crate that is not there
  pub none_of : (id : ℕ) → spelling_at ids id ≡ None → (v : StoredVersion) → IsIn v ids.versions → (v.of_crate == id) ≡ false
  none_of id none v i =
      let c = crate_of v i in
      not_true _ (λ e. true_not_false _ (in_any (λ c. c.0 == id) ids.crates c.0 c.1 (eq-eqb c.0.0 id (c.2 ∙ eqb-true v.of_crate id e))) (not_at ids id none))

  -- whether its row is there
  crate_row : (id : ℕ) → list_any (has_rowid (pos id)) (db 7) ≡ list_any (λ c. c.0 == id) ids.crates
  crate_row id =
      sym (list_any-IsPermutation (has_rowid (pos id)) (map row_of_crate ids.crates) (db 7) stands.crate_rows) ∙ list_any_map (has_rowid (pos id)) row_of_crate ids.crates ∙ any_same (λ c. has_rowid (pos id) (row_of_crate c)) (λ c. c.0 == id) (λ c. same_number c.0 id) ids.crates

  pub crate_there : (id : ℕ) (name : Text) → IsIn (id, name) ids.crates → list_any (has_rowid (pos id)) (db 7) ≡ true
  crate_there id name there = crate_row id ∙ in_any (λ c. c.0 == id) ids.crates (id, name) there (eq-eqb id id refl)

  pub no_row : (id : ℕ) → spelling_at ids id ≡ None → list_any (has_rowid (pos id)) (db 7) ≡ false
  no_row id none = crate_row id ∙ not_at ids id none
