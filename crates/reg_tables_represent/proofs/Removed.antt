-- What DELETE leaves of rows whose rowids are numbers, each its own: the rows that do not pass its test.
use Rattle.reg_tables_represent.proofs.Words.{filter, list_any, AllByRecursion, IsEquivalence, or_parts, IsDistinct-cons, IsDistinct-head}
use Rattle.reg_tables_represent.proofs.Words.{IsDistinct-tail, is_at_one_of, IsNumbered, HaveOwnRowids}
use Rattle.reg_tables_represent.proofs.Common.{◌≡◌, [], ◌∷◌, ◌||◌, ◌∙◌, ap, Bool, cond, false, is_eq, List, not, refl, Row, rowid, same_filter, sym, true, value_cmp}
use Rattle.std.specs.List.{IsDistinct}
use Rattle.std.proofs.lemmas.Bool.{or_from}
use Rattle.sqlite_trees.proofs.ListLemmas.{all-filter, all_weaker, filter_same}
use Rattle.reg_tables_represent.specs.Numbers.{AreNumbered}
use Rattle.reg_model.proofs.Alike.{both_all}
use Rattle.reg_tables_represent.proofs.Rowids.{tied, values_tie}

module _ {X : Type 0} (e : X → X → Bool) (test : X → Bool) where
  pub apart_kept : (xs : List X) → IsDistinct e xs → IsDistinct e (filter test xs)
  unfolding IsDistinct
  apart_kept [] d = tt
  apart_kept (x ∷ xs) d = split (test x) (apart_kept xs (IsDistinct-tail e x xs d))
    where
      split : (b : Bool) → IsDistinct e (filter test xs) → IsDistinct e (cond b (x ∷ filter test xs) (filter test xs))
      split true h = IsDistinct-cons e x (filter test xs) (all-filter (λ y. e x y ≡ false) test xs (IsDistinct-head e x xs d)) h
      split false h = h

  none_tied : (y : X) (ys : List X) → AllByRecursion (λ z. e y z ≡ false) ys → list_any (e y) ys ≡ false
  none_tied y [] all = refl
  none_tied y (z ∷ ys) all = or_from _ _ all.0 (none_tied y ys all.1)

  first_told : IsEquivalence e → (y : X) (kept : List X) → AllByRecursion (λ z. e y z ≡ false) kept → (b : Bool) → list_any (e y) (cond b (y ∷ kept) kept) ≡ b
  first_told same y kept all true = ap (λ b. b || list_any (e y) kept) (same.refl y)
  first_told same y kept all false = none_tied y kept all

  later_told : IsEquivalence e → (y z : X) (kept : List X) (b : Bool) → e y z ≡ false → list_any (e z) kept ≡ test z → list_any (e z) (cond b (y ∷ kept) kept) ≡ test z
  later_told same y z kept true apart h = ap (λ b. b || list_any (e z) kept) (same.symm z y ∙ apart) ∙ h
  later_told same y z kept false apart h = h

  -- an element of a list is tied to one of those that pass exactly where it passes
  told : IsEquivalence e → (xs : List X) → IsDistinct e xs → AllByRecursion (λ x. list_any (e x) (filter test xs) ≡ test x) xs
  told same [] d = tt
  told same (y ∷ ys) d =
      let kept = filter test ys in
      let apart = IsDistinct-head e y ys d in (
        first_told same y kept (all-filter (λ z. e y z ≡ false) test ys apart) (test y),
        both_all (λ z. e y z ≡ false) (λ z. list_any (e z) kept ≡ test z) (λ z. list_any (e z) (cond (test y) (y ∷ kept) kept) ≡ test z) (λ z p q. later_told same y z kept (test y) p q) ys apart (told same ys (IsDistinct-tail e y ys d)),
      )

rows_tie : IsEquivalence tied
rows_tie = record { refl = λ a. values_tie.refl (rowid a); symm = λ a b. values_tie.symm (rowid a) (rowid b); congr = λ a b c. values_tie.congr (rowid a) (rowid b) (rowid c) }

at_one : (row : Row) (rows : List Row) → AreNumbered rows → is_at_one_of rows row ≡ list_any (tied row) rows
at_one row [] numbered = refl
at_one row (r ∷ rows) numbered = ap (λ v. is_eq (value_cmp (rowid row) v) || is_at_one_of rows row) (sym numbered.0) ∙ ap (λ b. tied row r || b) (at_one row rows numbered.1)

-- rows that are left keep their rowids
pub own_kept : (test : Row → Bool) (rows : List Row) → HaveOwnRowids rows → HaveOwnRowids (filter test rows)
own_kept test rows own = (apart_kept tied test rows own.0, all-filter IsNumbered test rows own.1)

pub removes_passing : (test : Row → Bool) (rows : List Row) → HaveOwnRowids rows → filter (λ row. not (is_at_one_of (filter test rows) row)) rows ≡ filter (λ row. not (test row)) rows
removes_passing test rows own =
    let passing = filter test rows in
    same_filter (λ row. not (is_at_one_of passing row)) (λ row. not (list_any (tied row) passing)) (λ row. ap not (at_one row passing (own_kept test rows own).1)) rows
    ∙ filter_same (λ row. not (list_any (tied row) passing)) (λ row. not (test row)) rows (all_weaker (λ row. list_any (tied row) passing ≡ test row) (λ row. not (list_any (tied row) passing) ≡ not (test row)) (λ row h. ap not h) rows (told tied test rows_tie rows own.0))

-- where none passes, all are left
pub keeps_all : (test : Row → Bool) (rows : List Row) → list_any test rows ≡ false → filter (λ row. not (test row)) rows ≡ rows
keeps_all test [] h = refl
keeps_all test (r ∷ rows) h =
    let parts = or_parts (test r) (list_any test rows) h in
    rw parts.0 (ap (λ rs. r ∷ rs) (keeps_all test rows parts.1))
