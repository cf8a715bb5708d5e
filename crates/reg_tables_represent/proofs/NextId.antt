-- The id after the greatest, where ids are the places of a list.
use Rattle.reg_tables_represent.proofs.Words.{◌≡◌, ◌==◌, ℕ, ◌+◌, ◌≤◌, ◌<◌, pos, List, [], ◌∷◌, map, take, length, Bool, true, false, ◌||◌}
use Rattle.reg_tables_represent.proofs.Words.{nat_lt, Option, Some, None, Ordering, Less, Equal, Greater, refl, sym, ap, subst, ◌∙◌, arith}
use Rattle.reg_tables_represent.proofs.Words.{IsPermutation, IsSorted, is_eq, IsTotalOrder, int_cmp_is, eq-eqb, ltb-false, on_total}
use Rattle.reg_tables_represent.proofs.Words.{tied_itself, IsPermutation-trans, list_any-IsPermutation, length_permutation, All-permutation}
use Rattle.reg_tables_represent.proofs.Words.{All-from_recursion, recursion_from_All, length-map, value_cmp_total, value_cmp-Int}
use Rattle.reg_tables_represent.proofs.Words.{ascending_from_sorted, IsGreatest, row_of_id, IsNext}
use Rattle.std.proofs.Common.{is_gt, true≢false}
use Rattle.reg_tables_represent.proofs.Common.{AllByRecursion, column, enumerate_from, has_rowid, Int, list_any, Row, rowid, shows, value_cmp}
use Rattle.std.specs.Ordering.{ordering_reverse}
use Rattle.std.proofs.lemmas.Cmp.{back_total, upto}
use Rattle.std.proofs.lemmas.List.FromFn.{length-enumerate_from}
use Rattle.reg_tables_represent.proofs.Standing.{same_number}
use Rattle.reg_tables_represent.proofs.Numbered.{more}
use Rattle.reg_model.proofs.Lists.{or_left, or_right}

-- as their ids fall
abbrev pub falls : Row → Row → Ordering
falls a b = value_cmp (column b 0) (column a 0)

pub falls_total : IsTotalOrder falls
falls_total = back_total (on_total (λ (r : Row). column r 0) value_cmp_total)

-- the id of a row is below a number
abbrev IsBelow : ℕ → Row → Type 0
IsBelow top row = (n : ℕ) × (rowid row ≡ Int (pos n)) × (n < top)

pub none_shown : (ordered : List Row) → [] ≡ map (shows (0 ∷ [])) (take 1 ordered) → ordered ≡ []
none_shown [] h = refl
none_shown (r ∷ rest) h = absurd cc

pub one_shown : (l : ℕ) (ordered : List Row) → (Int (pos l) ∷ []) ∷ [] ≡ map (shows (0 ∷ [])) (take 1 ordered) → (r : Row) × (rest : List Row) × (ordered ≡ r ∷ rest) × (column r 0 ≡ Int (pos l))
one_shown l [] h = absurd cc
one_shown l (r ∷ rest) h = (r, rest, refl, cc)

nothing : (r : Row) (rest : List Row) → length (r ∷ rest) ≡ 0 → ⊥
nothing r rest h = absurd (omega (arith, h))

same_id : (top : ℕ) (row : Row) → IsBelow top row → (l : ℕ) → rowid row ≡ Int (pos l) → l < top
same_id top row below l is = subst (λ k. k < top) (same below.0 (sym below.1 ∙ is)) below.2
  where
    same : (n : ℕ) → Int (pos n) ≡ Int (pos l) → n ≡ l
    same n e = cc

pub tied : (o : Ordering) → is_eq o ≡ true → o ≡ Equal
tied Less h = absurd cc
tied Equal h = refl
tied Greater h = absurd cc

not_above : (top l : ℕ) → is_gt (value_cmp (Int (pos top)) (Int (pos l))) ≡ false → top ≤ l
not_above top l h = split (nat_lt l top) refl
  where
    split : (b : Bool) → nat_lt l top ≡ b → top ≤ l
    split true e =
        let greater = value_cmp-Int (pos top) (pos l) ∙ sym (int_cmp_is (pos top) (pos l) Greater (record { lt = rw e tt })) in
        absurd (true≢false (sym (ap is_gt greater) ∙ h))
    split false e = omega (arith, ltb-false l top e)

-- what is no more than the first of what falls, and has an id, has no greater one
pub no_more : (top l : ℕ) (r x : Row) → column r 0 ≡ Int (pos l) → is_gt (falls r x) ≡ false → has_rowid (pos top) x ≡ true → top ≤ l
no_more top l r x is up has =
    let equal = tied (value_cmp (column x 0) (Int (pos top))) has in
    let back : is_gt (value_cmp (Int (pos top)) (column x 0)) ≡ false = ap is_gt (value_cmp_total.antisymm (Int (pos top)) (column x 0) ∙ ap ordering_reverse equal) in
    not_above top l (upto value_cmp_total (Int (pos top)) (column x 0) (Int (pos l)) back (subst (λ v. is_gt (value_cmp (column x 0) v) ≡ false) is up))

itself : (top l : ℕ) (r : Row) → column r 0 ≡ Int (pos l) → has_rowid (pos top) r ≡ true → top ≤ l
itself top l r is has = no_more top l r r is (ap is_gt (tied_itself falls_total r)) has

one_of_two : (a b : Bool) (P : Type 0) → (a ≡ true → P) → (b ≡ true → P) → (a || b) ≡ true → P
one_of_two true b P first next h = first refl
one_of_two false b P first next h = next h

in_rest : (top l : ℕ) (r : Row) (xs : List Row) → column r 0 ≡ Int (pos l) → AllByRecursion (λ x. is_gt (falls r x) ≡ false) xs → list_any (has_rowid (pos top)) xs ≡ true → top ≤ l
in_rest top l r [] is up h = absurd cc
in_rest top l r (x ∷ xs) is up h = one_of_two (has_rowid (pos top) x) _ (top ≤ l) (no_more top l r x is up.0) (in_rest top l r xs is up.1) h

at_least : (top l : ℕ) (r : Row) (rest : List Row) → column r 0 ≡ Int (pos l) → AllByRecursion (λ x. is_gt (falls r x) ≡ false) rest → list_any (has_rowid (pos top)) (r ∷ rest) ≡ true → top ≤ l
at_least top l r rest is up there = one_of_two (has_rowid (pos top) r) _ (top ≤ l) (itself top l r is) (in_rest top l r rest is up) there

module _ {X : Type 0} (row : ℕ × X → Row) (keyed : (e : ℕ × X) → rowid (row e) ≡ Int (pos e.0)) where
  all_below : (n : ℕ) (xs : List X) → AllByRecursion (IsBelow (n + length xs)) (map row (enumerate_from n xs))
  all_below n [] = tt
  all_below n (x ∷ xs) = ((n, keyed (n, x), omega arith), subst (λ k. AllByRecursion (IsBelow k) (map row (enumerate_from (n + 1) xs))) (more n (length xs)) (all_below (n + 1) xs))

  has_id : (m : ℕ) (e : ℕ × X) → has_rowid (pos m) (row e) ≡ (e.0 == m)
  has_id m e = ap (λ v. is_eq (value_cmp v (Int (pos m)))) (keyed e) ∙ same_number e.0 m

  last_is_there : (n m : ℕ) (x : X) (xs : List X) → n + length xs ≡ m → list_any (has_rowid (pos m)) (map row (enumerate_from n (x ∷ xs))) ≡ true
  last_is_there n m x [] at = or_left _ _ (has_id m (n, x) ∙ eq-eqb n m (omega (arith, at)))
  last_is_there n m x (y ∷ ys) at = or_right (has_rowid (pos m) (row (n, x))) _ (last_is_there (n + 1) m y ys (omega (arith, at)))

  pub next_id : (xs : List X) (rows : List Row) (last : Option ℕ) (id : ℕ) → IsPermutation (map row (enumerate_from 1 xs)) rows → IsGreatest rows (row_of_id last) → IsNext last id → id ≡ 1 + length xs
  next_id xs rows None id same greatest next =
      let none : greatest.ordered ≡ [] = none_shown greatest.ordered greatest.shown in
      let whole = IsPermutation-trans _ rows greatest.ordered same greatest.same in
      let many : length xs ≡ length greatest.ordered = sym (length-enumerate_from 1 xs) ∙ sym (length-map (enumerate_from 1 xs) row) ∙ sym (length_permutation _ _ whole) in
      next ∙ ap (λ k. 1 + k) (sym (many ∙ ap length none))
  next_id [] rows (Some l) id same greatest next =
      let whole = IsPermutation-trans _ rows greatest.ordered same greatest.same in
      let many : length greatest.ordered ≡ 0 = length_permutation _ _ whole in
      let first = one_shown l greatest.ordered greatest.shown in
      absurd (nothing first.0 first.1 (sym (ap length first.2) ∙ many))
  next_id (x ∷ xs) rows (Some l) id same greatest next =
      let all = map row (enumerate_from 1 (x ∷ xs)) in
      let top = 1 + length xs in
      let whole = IsPermutation-trans all rows greatest.ordered same greatest.same in
      let first = one_shown l greatest.ordered greatest.shown in
      let placed : IsPermutation all (first.0 ∷ first.1) = subst (IsPermutation all) first.2 whole in
      let below = recursion_from_All (IsBelow (1 + length (x ∷ xs))) (first.0 ∷ first.1) (All-permutation (IsBelow (1 + length (x ∷ xs))) all (first.0 ∷ first.1) placed (All-from_recursion (IsBelow (1 + length (x ∷ xs))) all (all_below 1 (x ∷ xs)))) in
      let there : list_any (has_rowid (pos top)) (first.0 ∷ first.1) ≡ true = sym (list_any-IsPermutation (has_rowid (pos top)) all (first.0 ∷ first.1) placed) ∙ last_is_there 1 top x xs refl in
      let up = ascending_from_sorted falls falls_total (first.0 ∷ first.1) (subst (IsSorted falls) first.2 greatest.sorted) in
      let low : l < 1 + length (x ∷ xs) = same_id _ first.0 below.0 l first.3 in
      let high : top ≤ l = at_least top l first.0 first.1 first.3 up.0 there in
      omega (arith, next, low, high)
