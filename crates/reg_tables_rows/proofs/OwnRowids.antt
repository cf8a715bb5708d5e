-- Rows whose rowids, read in order, rise: each row has its own.
use Rattle.reg_tables_rows.proofs.Words.{◌≡◌, ◌<◌, ◌+◌, ℕ, ℤ, pos, List, [], ◌∷◌, map, false, SFits, w64, arith, drop, get_or, length, sym}
use Rattle.reg_tables_rows.proofs.Words.{subst, ap, ◌∙◌, ◌↔◌, int_cmp, IsPermutation-sym, Int, Row, Trees, rowid, all-permutation}
use Rattle.reg_tables_rows.proofs.Words.{value_cmp-Int, shows, AreRowids, rowid_columns, HaveOwnRowids}
use Rattle.std.proofs.Common.{true, Less, of_z, to_z}
use Rattle.std.specs.Cmp.{int_cmp_is}
use Rattle.std.specs.Int.Signed.{le_z, ◌<ℤ◌}
use Rattle.std.specs.List.{AllByRecursion, IsDistinct}
use Rattle.std.specs.List.Sorted.{IsPermutation, IsStrictlySortedBy}
use Rattle.std.specs.Ordering.{is_eq}
use Rattle.std.proofs.lemmas.Cmp.{int_cmp_total, int_ranked}
use Rattle.std.proofs.lemmas.Int.{ints, to_z-of_z}
use Rattle.std.proofs.lemmas.List.{drop_more}
use Rattle.std.proofs.lemmas.Map.Keys.{IsDistinct-IsPermutation, IsDistinct-cons}
use Rattle.sqlite.specs.Order.{value_cmp}
use Rattle.sqlite_rules.specs.Edit.{id_in}
use Rattle.reg_tables_represent.specs.Numbers.{IsNumbered}
use Rattle.reg_tables_represent.proofs.AccountEntries.{heads}
use Rattle.reg_tables_represent.proofs.Rowids.{tied, tied_back}

above_all : (a b : ℤ) → int_cmp a b ≡ Less → (ys : List ℤ) → AllByRecursion (λ y. int_cmp b y ≡ Less) ys → AllByRecursion (λ y. int_cmp a y ≡ Less) ys
above_all a b up [] h = tt
above_all a b up (y ∷ ys) h = (int_cmp_total.trans a b y up h.0, above_all a b up ys h.1)

pub rises_next : (a b : ℤ) (ys : List ℤ) → int_cmp a b ≡ Less → IsStrictlySortedBy int_cmp (a ∷ b ∷ ys) ↔ IsStrictlySortedBy int_cmp (b ∷ ys)
unfolding IsStrictlySortedBy
rises_next a b ys up = (λ h. h.1, λ h. ((up, above_all a b up ys h.0), h))

rises_first : (a b : ℤ) (ys : List ℤ) → IsStrictlySortedBy int_cmp (a ∷ b ∷ ys) → int_cmp a b ≡ Less
unfolding IsStrictlySortedBy
rises_first a b ys h = h.0.0

pub rises_alone : (a : ℤ) → IsStrictlySortedBy int_cmp (a ∷ [])
unfolding IsStrictlySortedBy
rises_alone a = (tt, tt)

pub rises_nowhere : (ids : List ℤ) → length ids < 1 → IsStrictlySortedBy int_cmp ids
unfolding IsStrictlySortedBy
rises_nowhere [] h = tt
rises_nowhere (n ∷ ids) h = absurd (omega (arith, h))

-- the comparison of two numbers, as a program makes it
module _ (a b : ℤ) (f : SFits w64 a) (g : SFits w64 b) where
  less_of : le_z (to_z w64 (of_z w64 b)) (to_z w64 (of_z w64 a)) ≡ false → int_cmp a b ≡ Less
  less_of h =
      let less : a <ℤ b = grind (arith, ints, to_z-of_z, h) in
      sym (int_cmp_is a b Less less)

  not_less : le_z (to_z w64 (of_z w64 b)) (to_z w64 (of_z w64 a)) ≡ true → int_cmp a b ≡ Less → ⊥
  not_less h e =
      let less : a <ℤ b = int_ranked a b Less (sym e) in
      absurd (grind (arith, ints, to_z-of_z, h, less))

-- one number more of those that are left
module _ (ids : List ℤ) (i : ℕ) (a b : ℤ) (within : i < length ids) (is : b ≡ get_or ids i (pos 0)) (f : SFits w64 a) (g : SFits w64 b) where
  split : drop i ids ≡ b ∷ drop (i + 1) ids
  split = drop_more ids i (pos 0) within ∙ ap (λ n. n ∷ drop (i + 1) ids) (sym is)

  pub rises_on_from : (whole : List ℤ) → le_z (to_z w64 (of_z w64 b)) (to_z w64 (of_z w64 a)) ≡ false → IsStrictlySortedBy int_cmp whole ↔ IsStrictlySortedBy int_cmp (a ∷ drop i ids)
      → IsStrictlySortedBy int_cmp whole ↔ IsStrictlySortedBy int_cmp (b ∷ drop (i + 1) ids)
  rises_on_from whole less h =
      let next = rises_next a b (drop (i + 1) ids) (less_of a b f g less) in (
        λ w. next.0 (subst (λ l. IsStrictlySortedBy int_cmp (a ∷ l)) split (h.0 w)),
        λ r. h.1 (subst (λ l. IsStrictlySortedBy int_cmp (a ∷ l)) (sym split) (next.1 r)),
      )

  pub rises_not : (whole : List ℤ) → le_z (to_z w64 (of_z w64 b)) (to_z w64 (of_z w64 a)) ≡ true → IsStrictlySortedBy int_cmp whole ↔ IsStrictlySortedBy int_cmp (a ∷ drop i ids) → IsStrictlySortedBy int_cmp whole → ⊥
  rises_not whole more h w = not_less a b f g more (rises_first a b (drop (i + 1) ids) (subst (λ l. IsStrictlySortedBy int_cmp (a ∷ l)) split (h.0 w)))

row_heads : {a b : Row} {xs ys : List Row} → ◌≡◌ {A = List Row} (a ∷ xs) (b ∷ ys) → a ≡ b
row_heads e = cc

row_tails : {a b : Row} {xs ys : List Row} → ◌≡◌ {A = List Row} (a ∷ xs) (b ∷ ys) → xs ≡ ys
row_tails e = cc

not_tied : (a b : Row) (n m : ℤ) → rowid a ≡ Int n → rowid b ≡ Int m → int_cmp n m ≡ Less → tied a b ≡ false
not_tied a b n m is other less = (λ i. is_eq (value_cmp (is i) (other i))) ∙ ap is_eq (value_cmp-Int n m) ∙ ap is_eq less

number_is : (r : Row) (n : ℤ) → rowid r ≡ Int n → IsNumbered r
number_is r n is = is ∙ ap Int (sym (ap id_in is))

apart_from : (r : Row) (n : ℤ) → rowid r ≡ Int n → (ids : List ℤ) (rows : List Row) → map rowid_columns ids ≡ map (shows (0 ∷ [])) rows → AllByRecursion (λ m. int_cmp n m ≡ Less) ids → AllByRecursion (λ a. tied r a ≡ false) rows
apart_from r n is [] [] same up = tt
apart_from r n is [] (a ∷ rows) same up = absurd cc
apart_from r n is (m ∷ ids) [] same up = absurd cc
apart_from r n is (m ∷ ids) (a ∷ rows) same up = (not_tied r a n m is (sym (heads (row_heads same))) up.0, apart_from r n is ids rows (row_tails same) up.1)

own_shown : (ids : List ℤ) (rows : List Row) → map rowid_columns ids ≡ map (shows (0 ∷ [])) rows → IsStrictlySortedBy int_cmp ids → HaveOwnRowids rows
unfolding IsStrictlySortedBy IsDistinct
own_shown [] [] same up = (tt, tt)
own_shown [] (a ∷ rows) same up = absurd cc
own_shown (m ∷ ids) [] same up = absurd cc
own_shown (n ∷ ids) (r ∷ rows) same up =
    let is : rowid r ≡ Int n = sym (heads (row_heads same)) in
    let rest = own_shown ids rows (row_tails same) up.1 in (
      IsDistinct-cons tied r rows (apart_from r n is ids rows (row_tails same) up.0) rest.0,
      (number_is r n is, rest.1),
    )

-- rows in another order
pub own_ordered : (rows ordered : List Row) (ids : List ℤ) → IsPermutation rows ordered → map rowid_columns ids ≡ map (shows (0 ∷ [])) ordered → IsStrictlySortedBy int_cmp ids → HaveOwnRowids rows
own_ordered rows ordered ids same shown up =
    let own = own_shown ids ordered shown up in
    let back = IsPermutation-sym rows ordered same in (
      IsDistinct-IsPermutation tied tied_back ordered rows back own.0,
      all-permutation IsNumbered ordered rows back own.1,
    )

pub own_rising : (tree : ℕ) (db : Trees) (ids : List ℤ) → AreRowids tree db ids → IsStrictlySortedBy int_cmp ids → HaveOwnRowids (db tree)
own_rising tree db ids h up = own_ordered (db tree) h.ordered ids h.same h.shown up
