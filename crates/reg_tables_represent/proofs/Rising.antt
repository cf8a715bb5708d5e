-- Ids that rise: a next id is above each that is there.
use Rattle.reg_tables_represent.proofs.Words.{next_of, ◌≡◌, ℕ, ◌<◌, ◌≤◌, pos, List, [], ◌∷◌, ◌++◌, map, Option, Some, None, Less, inl, inr}
use Rattle.reg_tables_represent.proofs.Words.{true, false, refl, sym, ap, subst, ◌∙◌, arith, max, ◌+◌, IsPermutation, IsSorted, nat_cmp_is}
use Rattle.reg_tables_represent.proofs.Words.{nat_cmp, is_gt, is_eq, ascending_from_sorted, IsGreatest, row_of_id, IsNext, IsIn, each_in}
use Rattle.reg_tables_represent.proofs.Words.{in_map, in_permuted, in_each, map_in}
use Rattle.reg_tables_represent.proofs.Common.{AllByRecursion, column, eq-eqb, has_rowid, Int, IsPermutation-sym, IsPermutation-trans, Row, rowid, value_cmp}
use Rattle.std.specs.List.Sorted.{IsStrictlySortedBy}
use Rattle.reg_model.proofs.Lists.{each_push}
use Rattle.reg_tables_represent.specs.Additions.{IsNextOf}
use Rattle.reg_tables_represent.proofs.NextId.{falls, falls_total, no_more, none_shown, one_shown}
use Rattle.reg_tables_represent.proofs.Standing.{same_number}

has_own : (n : ℕ) (row : Row) → rowid row ≡ Int (pos n) → has_rowid (pos n) row ≡ true
has_own n row is = ap (λ v. is_eq (value_cmp v (Int (pos n)))) is ∙ same_number n n ∙ eq-eqb n n refl

bounded : (last n : ℕ) (r x : Row) (rest : List Row) → column r 0 ≡ Int (pos last) → AllByRecursion (λ y. is_gt (falls r y) ≡ false) rest → rowid x ≡ Int (pos n) → IsIn x (r ∷ rest) → n ≤ last
bounded last n r x rest is up at (inl e) = omega (arith, same (sym (ap (λ y. rowid y) e ∙ at) ∙ is))
  where
    same : Int (pos n) ≡ Int (pos last) → n ≡ last
    same e = cc
bounded last n r x rest is up at (inr i) = no_more n last r x is (each_in (λ y. is_gt (falls r y) ≡ false) rest x up i) (has_own n x at)

least_above : (ns : List ℕ) (id : ℕ) → AllByRecursion (λ n. n < id) ns → 1 ≤ id → next_of ns ≤ id
least_above [] id below low = low
least_above (n ∷ ns) id below low = no_less (1 + n) (next_of ns) id (omega (arith, below.0)) (least_above ns id below.1 low)
  where
    no_less : (a b c : ℕ) → a ≤ c → b ≤ c → max a b ≤ c
    no_less a b c h k = omega (arith, h, k)

pub reaches : (ns : List ℕ) (n : ℕ) → IsIn n ns → 1 + n ≤ next_of ns
reaches [] n i = absurd i
reaches (m ∷ ns) n (inl e) = rw (sym e) (first (1 + m) (next_of ns))
  where
    first : (a b : ℕ) → a ≤ max a b
    first a b = omega arith
reaches (m ∷ ns) n (inr i) = later (1 + n) (1 + m) (next_of ns) (reaches ns n i)
  where
    later : (a b c : ℕ) → a ≤ c → a ≤ max b c
    later a b c h = omega (arith, h)

module _ {X : Type 0} (row : X → Row) (id_of : X → ℕ) (keyed : (x : X) → rowid (row x) ≡ Int (pos (id_of x))) where
  below_next : (xs : List X) (rows : List Row) (last : Option ℕ) (id : ℕ) → IsPermutation (map row xs) rows → IsGreatest rows (row_of_id last) → IsNext last id → (x : X) → IsIn x xs → id_of x < id
  below_next xs rows None id same greatest next x i =
      let whole = IsPermutation-trans (map row xs) rows greatest.ordered same greatest.same in
      let there = in_permuted (map row xs) greatest.ordered (row x) whole (in_map row xs x i) in
      absurd (subst (IsIn (row x)) (none_shown greatest.ordered greatest.shown) there)
  below_next xs rows (Some last) id same greatest next x i =
      let first = one_shown last greatest.ordered greatest.shown in
      let whole = IsPermutation-trans (map row xs) rows greatest.ordered same greatest.same in
      let there = subst (IsIn (row x)) first.2 (in_permuted (map row xs) greatest.ordered (row x) whole (in_map row xs x i)) in
      let up = ascending_from_sorted falls falls_total (first.0 ∷ first.1) (subst (IsSorted falls) first.2 greatest.sorted) in
      let low : id_of x ≤ last = bounded last (id_of x) first.0 (row x) first.1 first.3 up.0 (keyed x) there in
      omega (arith, next, low)

  pub above : (xs : List X) (rows : List Row) (id : ℕ) → IsPermutation (map row xs) rows → IsNextOf rows id → (x : X) → IsIn x xs → id_of x < id
  above xs rows id same n = below_next xs rows n.last id same n.greatest n.next

  at_none : (xs : List X) (rows : List Row) → IsPermutation (map row xs) rows → rows ≡ [] → next_of (map id_of xs) ≡ 1
  at_none [] rows same none = refl
  at_none (x ∷ xs) rows same none = absurd (subst (IsIn (row x)) none (in_permuted (map row (x ∷ xs)) rows (row x) same (inl refl)))

  at_first : (xs : List X) (rows : List Row) (last : ℕ) (r : Row) → IsPermutation (map row xs) rows → IsIn r rows → column r 0 ≡ Int (pos last) → 1 + last ≤ next_of (map id_of xs)
  at_first xs rows last r same i is =
      let x = map_in row xs r (in_permuted rows (map row xs) r (IsPermutation-sym (map row xs) rows same) i) in
      let n : id_of x.0 ≡ last = same_number_of (sym (keyed x.0) ∙ ap (λ y. rowid y) x.2 ∙ is) in
      subst (λ k. 1 + k ≤ next_of (map id_of xs)) n (reaches (map id_of xs) (id_of x.0) (in_map id_of xs x.0 x.1))
    where
      same_number_of : {a b : ℕ} → Int (pos a) ≡ Int (pos b) → a ≡ b
      same_number_of e = cc

  pub next_as : (xs : List X) (rows : List Row) (last : Option ℕ) (id : ℕ) → IsPermutation (map row xs) rows → IsGreatest rows (row_of_id last) → IsNext last id → id ≡ next_of (map id_of xs)
  next_as xs rows None id same greatest next =
      let whole = IsPermutation-trans (map row xs) rows greatest.ordered same greatest.same in
      next ∙ sym (at_none xs greatest.ordered whole (none_shown greatest.ordered greatest.shown))
  next_as xs rows (Some last) id same greatest next =
      let first = one_shown last greatest.ordered greatest.shown in
      let whole = IsPermutation-trans (map row xs) rows greatest.ordered same greatest.same in
      let there : IsIn first.0 greatest.ordered = subst (IsIn first.0) (sym first.2) (inl refl) in
      let high = at_first xs greatest.ordered last first.0 whole there first.3 in
      let ids = map id_of xs in
      let below = in_each (λ n. n < id) ids (λ n i. let x = map_in id_of xs n i in subst (λ k. k < id) x.2 (below_next xs rows (Some last) id same greatest next x.0 x.1)) in
      let low = least_above ids id below (omega (arith, next)) in
      omega (arith, next, high, low)

  -- it is one more than the greatest
  pub next_is : (xs : List X) (rows : List Row) (id : ℕ) → IsPermutation (map row xs) rows → IsNextOf rows id → id ≡ next_of (map id_of xs)
  next_is xs rows id same n = next_as xs rows n.last id same n.greatest n.next

pub rises_on : (ids : List ℕ) (id : ℕ) → AllByRecursion (λ n. n < id) ids → IsStrictlySortedBy nat_cmp ids → IsStrictlySortedBy nat_cmp (ids ++ id ∷ [])
unfolding IsStrictlySortedBy
rises_on [] id below up = (tt, tt)
rises_on (n ∷ ids) id below up = (each_push (λ m. nat_cmp n m ≡ Less) ids id up.0 (sym (nat_cmp_is n id Less below.0)), rises_on ids id below.1 up.1)
