-- What a selection shows of the rows, told of the entries that the rows stand for.
use Rattle.reg_tables_represent.proofs.Words.{IsPermutation-map, IsPermutation-sym, IsPermutation-trans, length_permutation, IsTotalOrder}
use Rattle.reg_tables_represent.proofs.Words.{int_cmp_is, on_total, value_cmp_total, value_cmp-Int, sorted_unique, one_of}
use Rattle.reg_tables_represent.proofs.Common.{◌≡◌, ◌+◌, ◌<◌, ◌≤◌, [], ◌∷◌, ◌∙◌, AllByRecursion, ap, arith, Bool, by_column, column, enumerate_from, filter, filter_map, Int, IsAscending, IsInOrder, IsPermutation, IsPermutation-filter, length, Less, List, map, maps_twice, None, Option, option_map, pos, refl, Row, rowid, same_filter, shown_of, Some, subst, sym, value_cmp, ℕ}
use Rattle.std.specs.declared.cmp.Ordering.{Ordering}
use Rattle.std.proofs.lemmas.Bool.{lt-ltb}
use Rattle.sqlite.proofs.Callers.{one_permutation}

-- a list in another order is the same list where it has one element or none
pub short_same : {X : Type 0} (xs ys : List X) → IsPermutation xs ys → length ys ≤ 1 → xs ≡ ys
short_same [] [] h short = refl
short_same (x ∷ xs) [] h short = absurd (omega (arith, length_permutation _ _ h))
short_same xs (y ∷ []) h short = one_permutation y xs (IsPermutation-sym xs (y ∷ []) h)
short_same xs (y ∷ z ∷ ys) h short = absurd (omega (arith, short))

pub shown_short : {X : Type 0} (columns : X → Row) (o : Option X) → length (shown_of columns o) ≤ 1
shown_short columns None = omega arith
shown_short columns (Some x) = omega arith

pub same_one : {X : Type 0} {a b : X} → ◌≡◌ {A = List X} (a ∷ []) (b ∷ []) → a ≡ b
same_one e = cc

read_one : {X Y : Type 0} (shown : X → Row) (columns : Y → Row) (entry : Y → X) → ((x : X) (y : Y) → shown x ≡ columns y → x ≡ entry y) → (xs : List X) (o : Option Y) → map shown xs ≡ shown_of columns o → xs ≡ one_of (option_map entry o)
read_one shown columns entry same [] None h = refl
read_one shown columns entry same (x ∷ xs) None h = absurd cc
read_one shown columns entry same [] (Some y) h = absurd cc
read_one shown columns entry same (x ∷ []) (Some y) h = ap (λ z. z ∷ []) (same x y (same_one h))
read_one shown columns entry same (x ∷ z ∷ xs) (Some y) h = absurd cc

pub same_head : {A : Type 0} {a b : A} {xs ys : List A} → ◌≡◌ {A = List A} (a ∷ xs) (b ∷ ys) → a ≡ b
same_head e = cc

pub same_tail : {A : Type 0} {a b : A} {xs ys : List A} → ◌≡◌ {A = List A} (a ∷ xs) (b ∷ ys) → xs ≡ ys
same_tail e = cc

pub each : {X Y : Type 0} (shown : X → Row) (columns : Y → Row) (entry : Y → X) → ((x : X) (y : Y) → shown x ≡ columns y → x ≡ entry y) → (xs : List X) (list : List Y) → map columns list ≡ map shown xs → map entry list ≡ xs
each shown columns entry same [] [] h = refl
each shown columns entry same (x ∷ xs) [] h = absurd cc
each shown columns entry same [] (y ∷ list) h = absurd cc
each shown columns entry same (x ∷ xs) (y ∷ list) h = rw (sym (same x y (sym (same_head h)))) (ap (λ l. x ∷ l) (each shown columns entry same xs list (same_tail h)))

-- the same, where what is shown tells a part of the entry
pub each_part : {X Y Z : Type 0} (shown : X → Row) (columns : Y → Row) (part : X → Z) (told : Y → Z) → ((x : X) (y : Y) → shown x ≡ columns y → part x ≡ told y) → (xs : List X) (list : List Y) → map columns list ≡ map shown xs → map told list ≡ map part xs
each_part shown columns part told same [] [] h = refl
each_part shown columns part told same (x ∷ xs) [] h = absurd cc
each_part shown columns part told same [] (y ∷ list) h = absurd cc
each_part shown columns part told same (x ∷ xs) (y ∷ list) h = rw (sym (same x y (sym (same_head h)))) (ap (λ l. part x ∷ l) (each_part shown columns part told same xs list (same_tail h)))

module _ {X : Type 0} (row : X → Row) (show : Row → Row) where
  -- what is shown of the entries, in an order in which no two are alike
  pub shown_in_turn : (order : Row → Row → Ordering) → IsTotalOrder order → (xs : List X) (rows out : List Row) → IsPermutation (map row xs) rows → IsAscending (λ a b. order a b ≡ Less) (map row xs) → IsInOrder order rows show out
      → out ≡ map (λ x. show (row x)) xs
  shown_in_turn order total xs rows out h rising found =
      let all = sorted_unique order total (map row xs) found.ordered rising (IsPermutation-trans (map row xs) rows found.ordered h found.same) found.sorted in
      found.shown ∙ ap (map show) all ∙ maps_twice row show xs

module _ {X Y : Type 0} (row : X → Row) (show : Row → Row) (columns : Y → Row) (entry : Y → X) (same : (x : X) (y : Y) → show (row x) ≡ columns y → x ≡ entry y) where
  -- the entry that passes a test, where there is one or none
  pub selected_one : (test : Row → Bool) (p : X → Bool) → ((x : X) → test (row x) ≡ p x) → (xs : List X) (rows : List Row) (o : Option Y) → IsPermutation (map row xs) rows → map show (filter test rows) ≡ shown_of columns o
      → filter p xs ≡ one_of (option_map entry o)
  selected_one test p alike xs rows o h found =
      let passed = IsPermutation-map show _ _ (subst (λ ys. IsPermutation ys (filter test rows)) (filter_map row test xs) (IsPermutation-filter test (map row xs) rows h)) in
      let shown : map (λ x. show (row x)) (filter (λ x. test (row x)) xs) ≡ shown_of columns o =
      sym (maps_twice row show (filter (λ x. test (row x)) xs)) ∙ short_same _ _ (subst (IsPermutation _) found passed) (shown_short columns o) in
      sym (same_filter (λ x. test (row x)) p alike xs) ∙ read_one (λ x. show (row x)) columns entry same (filter (λ x. test (row x)) xs) o shown

  -- all entries, in an order in which no two are alike
  pub selected_in_order : (order : Row → Row → Ordering) → IsTotalOrder order → (xs : List X) (rows : List Row) (list : List Y) → IsPermutation (map row xs) rows → IsAscending (λ a b. order a b ≡ Less) (map row xs)
      → IsInOrder order rows show (map columns list) → map entry list ≡ xs
  selected_in_order order total xs rows list h rising found =
      each (λ x. show (row x)) columns entry same xs list (shown_in_turn row show order total xs rows (map columns list) h rising found)

pub column_total : (place : ℕ) → IsTotalOrder (by_column place)
column_total place = on_total (λ (r : Row). column r place) value_cmp_total

pub number_below : (n m : ℕ) → n < m → value_cmp (Int (pos n)) (Int (pos m)) ≡ Less
number_below n m h = value_cmp-Int (pos n) (pos m) ∙ sym (int_cmp_is (pos n) (pos m) Less (record { lt = rw (lt-ltb n m h) tt }))

module _ {X : Type 0} (row : ℕ × X → Row) (keyed : (e : ℕ × X) → rowid (row e) ≡ Int (pos e.0)) where
  above : (low n : ℕ) (xs : List X) (r : Row) → rowid r ≡ Int (pos low) → low < n → AllByRecursion (λ b. by_column 0 r b ≡ Less) (map row (enumerate_from n xs))
  above low n [] r is h = tt
  above low n (x ∷ xs) r is h = (rw (is, keyed (n, x)) (number_below low n h), above low (n + 1) xs r is (omega (arith, h)))

  -- ids that are places rise
  pub places_rise : (n : ℕ) (xs : List X) → IsAscending (λ a b. by_column 0 a b ≡ Less) (map row (enumerate_from n xs))
  places_rise n [] = tt
  places_rise n (x ∷ xs) = (above n (n + 1) xs (row (n, x)) (keyed (n, x)) (omega arith), places_rise (n + 1) xs)
