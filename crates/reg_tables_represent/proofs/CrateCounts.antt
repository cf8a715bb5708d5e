-- How many accounts, tokens and crates the rows stand for.
use Rattle.reg_tables_represent.proofs.Words.{◌≡◌, ◌+◌, ◌==◌, ℕ, suc, pos, max, List, [], ◌∷◌, map, length, Bool, true, false, nat_le, Option}
use Rattle.reg_tables_represent.proofs.Words.{refl, sym, ap, ◌∙◌, arith, ◌<◌, ◌≤◌, list_any, enumerate_from, IsPermutation}
use Rattle.reg_tables_represent.proofs.Words.{nat_list_cmp_total, and_parts, length-map, length_permutation, Publication, text_cmp, mark_cmp}
use Rattle.reg_tables_represent.proofs.Words.{text_apart, IsLastId, next_crate, IsNext, StoredCrate, StoredVersion, is_of, next_of}
use Rattle.reg_tables_represent.proofs.Words.{row_of_crate, StandCrates, IdAssignment}
use Rattle.std.proofs.Common.{min}
use Rattle.std.specs.FinSet as finset
use Rattle.std.specs.List.{IsDistinct}
use Rattle.std.specs.List.Sorted.{IsStrictlySortedBy}
use Rattle.reg_tables_represent.proofs.Common.{all_in, any_in, any_same, bytes_eq, canon, each_in, eq_by_cmp, in_any, Int, is_eq-slice_cmp, list_any_map, nat_cmp, nat_list_eq_equiv, none_in, on, Row, Trees}
use Rattle.std.proofs.lemmas.Bool.{leb-true}
use Rattle.reg_model.specs.Registry.{Text as Words}
use Rattle.reg_tables_schema.specs.Rows.{capped}
use Rattle.reg_tables_represent.proofs.AccountEntries.{number_is}
use Rattle.reg_tables_represent.proofs.CrateLemmas.{same_bytes, bytes_same, crate_of}
use Rattle.reg_tables_represent.proofs.Rising.{next_as}
use Rattle.reg_tables_represent.proofs.VersionEntries.{less_is}

pub count_is : {X : Type 0} (row : X → Row) (xs : List X) (rows : List Row) (n m : ℕ) → (n ≡ m) × (n < 9223372036854775807) → IsPermutation (map row xs) rows → Int (pos m) ≡ capped (length rows) → n ≡ length xs
count_is row xs rows n m is h e =
    let many : m ≡ min (length xs) 9223372036854775807 = number_is e ∙ ap (λ k. min k 9223372036854775807) (length_permutation (map row xs) rows h ∙ length-map xs row) in
    omega (arith, is.0, is.1, many)

-- ids that rise are fewer than the next one, or as many
rise_below : (n : ℕ) (ns : List ℕ) → IsStrictlySortedBy nat_cmp (n ∷ ns) → (n + 1) + length ns ≤ next_of (n ∷ ns)
unfolding IsStrictlySortedBy
rise_below n [] up = least n
  where
    least : (n : ℕ) → (n + 1) + 0 ≤ max (1 + n) 1
    least n = omega arith
rise_below n (m ∷ ns) up = more n m (length ns) (next_of (m ∷ ns)) (less_is n m up.0.0) (rise_below m ns up.1)
  where
    more : (n m l k : ℕ) → n < m → (m + 1) + l ≤ k → (n + 1) + suc l ≤ max (1 + n) k
    more n m l k less h = omega (arith, less, h)

pub no_more_than_next : (ns : List ℕ) → IsStrictlySortedBy nat_cmp ns → length ns ≤ next_of ns
no_more_than_next [] up = omega arith
no_more_than_next (n ∷ ns) up = few n (length ns) (next_of (n ∷ ns)) (rise_below n ns up)
  where
    few : (n l k : ℕ) → (n + 1) + l ≤ k → suc l ≤ k
    few n l k h = omega (arith, h)

pub entries_long : {X : Type 0} (n : ℕ) (xs : List X) → length (enumerate_from n xs) ≡ length xs
entries_long n [] = refl
entries_long n (x ∷ xs) = ap suc (entries_long (n + 1) xs)

text_tie : (t u : Words) → eq_by_cmp text_cmp t u ≡ bytes_eq t u
text_tie t u = is_eq-slice_cmp t u

one_more : (n m : ℕ) → n ≡ m → n + 1 ≡ suc m
one_more n m h = omega (arith, h)

-- a set of texts that are distinct has as many
size_of_distinct : {X : Type 0} (f : X → Words) (xs : List X) → IsDistinct (on f bytes_eq) xs → finset.len (finset.from_list {R = text_cmp} (map f xs)) ≡ length xs
unfolding IsDistinct
size_of_distinct f [] d = finset.len-empty text_cmp
size_of_distinct f (x ∷ xs) d =
    let new = finset.contains-from_list nat_list_cmp_total (map f xs) (f x) ∙ list_any_map (eq_by_cmp text_cmp (f x)) f xs
    ∙ none_in (λ y. eq_by_cmp text_cmp (f x) (f y)) xs (λ y i. text_tie (f x) (f y) ∙ each_in (λ y. bytes_eq (f x) (f y) ≡ false) xs y d.0 i) in
    finset.len-insert nat_list_cmp_total (finset.from_list {R = text_cmp} (map f xs)) (f x) ∙ rw new (one_more _ _ (size_of_distinct f xs d.1))

-- two tests that pass together
together : (a b : Bool) → (a ≡ true → b ≡ true) → (b ≡ true → a ≡ true) → a ≡ b
together true true f g = refl
together true false f g = sym (f refl)
together false true f g = g refl
together false false f g = refl

pub not_le : (a b : ℕ) → b < a → nat_le a b ≡ false
not_le a b h = split (nat_le a b) refl
  where
    split : (r : Bool) → nat_le a b ≡ r → nat_le a b ≡ false
    split true e = absurd (omega (arith, h, leb-true a b e))
    split false e = e

module _ (ids : IdAssignment) (ps : List Publication) (yanked : finset.FinSet mark_cmp) (db : Trees) (h : StandCrates ids ps yanked db) where
  -- a crate has a canonical text where a version has it
  pub crate_has : (t : Words) → list_any (λ c. bytes_eq (canon c.1) t) ids.crates ≡ list_any (λ p. bytes_eq (canon p.name) t) ps
  crate_has t = together (list_any (λ c. bytes_eq (canon c.1) t) ids.crates) (list_any (λ v. bytes_eq (canon v.publication.name) t) ids.versions) there back ∙ sym (list_any_map (λ p. bytes_eq (canon p.name) t) (λ v. v.publication) ids.versions) ∙ ap (list_any (λ p. bytes_eq (canon p.name) t)) h.published
    where
      there : list_any (λ c. bytes_eq (canon c.1) t) ids.crates ≡ true → list_any (λ v. bytes_eq (canon v.publication.name) t) ids.versions ≡ true
      there e =
          let c = any_in (λ (c : StoredCrate). bytes_eq (canon c.1) t) ids.crates e in
          let v = any_in (is_of c.0) ids.versions (all_in (λ c. list_any (is_of c) ids.versions) ids.crates c.0 h.used c.1) in
          let parts = and_parts (c.0.0 == v.0.of_crate) (bytes_eq c.0.1 v.0.publication.name) v.2 in
          in_any (λ v. bytes_eq (canon v.publication.name) t) ids.versions v.0 v.1
          (bytes_same (canon v.0.publication.name) t (ap canon (sym (same_bytes c.0.1 v.0.publication.name parts.1)) ∙ same_bytes (canon c.0.1) t c.2))

      back : list_any (λ v. bytes_eq (canon v.publication.name) t) ids.versions ≡ true → list_any (λ c. bytes_eq (canon c.1) t) ids.crates ≡ true
      back e =
          let v = any_in (λ (v : StoredVersion). bytes_eq (canon v.publication.name) t) ids.versions e in
          let c = crate_of ids ps yanked db h v.0 v.1 in
          in_any (λ (c : StoredCrate). bytes_eq (canon c.1) t) ids.crates c.0 c.1 (bytes_same (canon c.0.1) t (ap canon c.3 ∙ same_bytes (canon v.0.publication.name) t v.2))

  tied : {X : Type 0} (f : X → Words) (xs : List X) (t : Words) → finset.contains (finset.from_list {R = text_cmp} (map f xs)) t ≡ list_any (λ x. bytes_eq (f x) t) xs
  tied f xs t = finset.contains-from_list nat_list_cmp_total (map f xs) t ∙ list_any_map (eq_by_cmp text_cmp t) f xs ∙ any_same (λ x. eq_by_cmp text_cmp t (f x)) (λ x. bytes_eq (f x) t) (λ x. text_tie t (f x) ∙ nat_list_eq_equiv.symm t (f x)) xs

  same_texts : finset.from_list {R = text_cmp} (map (λ c. canon c.1) ids.crates) ≡ finset.from_list {R = text_cmp} (map (λ p. canon p.name) ps)
  same_texts = finset.same_set nat_list_cmp_total text_apart _ _ (λ t. tied (λ (c : StoredCrate). canon c.1) ids.crates t ∙ crate_has t ∙ sym (tied (λ p. canon p.name) ps t))

  pub crates_are : length ids.crates ≡ finset.len (finset.from_list {R = text_cmp} (map (λ p. canon p.name) ps))
  crates_are = sym (size_of_distinct (λ (c : StoredCrate). canon c.1) ids.crates h.canons) ∙ ap finset.len same_texts

  -- crates are counted only where the next id comes near the number
  pub not_reached : (last : Option ℕ) (next number : ℕ) → IsLastId 7 db last → IsNext last next → next < number → nat_le number (length ids.crates) ≡ false
  not_reached last next number greatest is low =
      let at : next ≡ next_crate ids = next_as row_of_crate (λ c. c.0) (λ c. refl) ids.crates (db 7) last next h.crate_rows greatest is in
      let few = no_more_than_next (map (λ (c : StoredCrate). c.0) ids.crates) h.up in
      not_le number (length ids.crates) (omega (arith, at, few, length-map ids.crates (λ (c : StoredCrate). c.0), low))
