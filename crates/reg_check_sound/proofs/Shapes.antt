-- Rows that are told by what is shown of them, and lists with their places as ids.
use Rattle.reg_check_sound.proofs.Words.{Ordering, IsPermutation-map, IsPermutation-sym, all-permutation}
use Rattle.reg_check_sound.proofs.Common.{◌≡◌, ◌==◌, ◌+◌, [], ◌∷◌, ◌∙◌, AllByRecursion, and_parts, ap, are_counted, enumerate_from, eqb-true, IsInOrder, IsPermutation, length, List, map, maps_twice, Null, refl, Row, subst, suc, sym, true, zero, ℕ}
use Rattle.std.proofs.lemmas.List.{map-id}

-- the columns of a row with a key, behind the key and NULL in its own column
abbrev pub with_null : Row → Row
with_null [] = []
with_null (key ∷ rest) = key ∷ Null ∷ rest

pub each_is : (f g : Row → Row) (rows : List Row) → AllByRecursion (λ r. f r ≡ g r) rows → map f rows ≡ map g rows
each_is f g [] h = refl
each_is f g (r ∷ rows) h = λ i. h.0 i ∷ each_is f g rows h.1 i

module _ {Y : Type 0} (show back f : Row → Row) (columns : Y → Row) (order : Row → Row → Ordering) (rows : List Row) (list : List Y) where
  -- where what is shown of a row tells what is wanted of it
  pub rows_from : AllByRecursion (λ r. back (show r) ≡ f r) rows → IsInOrder order rows show (map columns list) → IsPermutation (map (λ y. back (columns y)) list) (map f rows)
  rows_from told h =
      let all = all-permutation (λ r. back (show r) ≡ f r) rows h.ordered h.same told in
      let same : map (λ y. back (columns y)) list ≡ map f h.ordered = sym (maps_twice columns back list) ∙ ap (map back) h.shown ∙ maps_twice show back h.ordered ∙ each_is (λ r. back (show r)) f h.ordered all in
      subst (λ xs. IsPermutation xs (map f rows)) (sym same) (IsPermutation-map f h.ordered rows (IsPermutation-sym rows h.ordered h.same))

pub whole_rows : {Y : Type 0} (show back : Row → Row) (columns : Y → Row) (order : Row → Row → Ordering) (rows : List Row) (list : List Y) → AllByRecursion (λ r. back (show r) ≡ r) rows → IsInOrder order rows show (map columns list)
    → IsPermutation (map (λ y. back (columns y)) list) rows
whole_rows show back columns order rows list told h = subst (IsPermutation (map (λ y. back (columns y)) list)) (map-id rows) (rows_from show back (λ r. r) columns order rows list told h)

-- what is counted from n on has its places as ids
pub counted_are : {X Y : Type 0} (id : X → ℕ) (f : X → Y) (n : ℕ) (xs : List X) → are_counted n (map id xs) ≡ true → map (λ x. (id x, f x)) xs ≡ enumerate_from n (map f xs)
counted_are id f n [] h = refl
counted_are id f n (x ∷ xs) h =
    let p = and_parts (id x == n) (are_counted (n + 1) (map id xs)) h in
    λ i. (eqb-true (id x) n p.0 i, f x) ∷ counted_are id f (n + 1) xs p.1 i

-- so many numbers, from this one on
abbrev pub upto : ℕ → ℕ → List ℕ
upto k zero = []
upto k (suc n) = k ∷ upto (k + 1) n

pub counted_ids : (n : ℕ) (ids : List ℕ) → are_counted n ids ≡ true → ids ≡ upto n (length ids)
counted_ids n [] h = refl
counted_ids n (x ∷ ids) h =
    let p = and_parts (x == n) (are_counted (n + 1) ids) h in
    λ i. eqb-true x n p.0 i ∷ counted_ids (n + 1) ids p.1 i
