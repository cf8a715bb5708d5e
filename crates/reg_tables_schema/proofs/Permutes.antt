-- Rows that are added and replaced, as lists in any order.
use Rattle.reg_tables_schema.proofs.Words.{◌≡◌, ℤ, List, [], ◌∷◌, map, Bool, true, false, not, cond, Less, Equal, Greater, refl, sym, ap}
use Rattle.reg_tables_schema.proofs.Words.{subst, ◌∙◌, filter, IsPermutation, is_eq, IsPermutation-refl, IsPermutation-cons}
use Rattle.reg_tables_schema.proofs.Words.{IsPermutation-trans, IsPermutation-middle, Int, Row, one_permutation, rowid, has_rowid, put_row}
use Rattle.reg_tables_schema.proofs.Words.{without_rowid}
use Rattle.std.proofs.Common.{Ordering}
use Rattle.std.specs.Ordering.{match_ordering}
use Rattle.std.proofs.lemmas.Bool.{or_parts}
use Rattle.sqlite.specs.Order.{value_cmp}
use Rattle.sqlite_rules.specs.Edit.{is_taken}
use Rattle.sqlite_trees.proofs.ListLemmas.{IsPermutation-filter}

abbrev placed : Ordering → Row → Row → List Row → List Row
placed o new r rows = match_ordering o (r ∷ put_row new rows) (new ∷ rows) (new ∷ r ∷ rows)

pub two : {X : Type 0} (x y : X) (rest : List X) → IsPermutation (x ∷ y ∷ rest) (y ∷ x ∷ rest)
two x y rest = IsPermutation-middle (x ∷ []) y rest

put_one : (o : Ordering) (new r : Row) (rows : List Row) → is_eq o ≡ false → IsPermutation (new ∷ rows) (put_row new rows) → IsPermutation (new ∷ r ∷ rows) (placed o new r rows)
put_one Less new r rows free h = IsPermutation-trans (new ∷ r ∷ rows) (r ∷ new ∷ rows) (r ∷ put_row new rows) (two new r rows) (IsPermutation-cons r (new ∷ rows) (put_row new rows) h)
put_one Equal new r rows free h = absurd cc
put_one Greater new r rows free h = IsPermutation-refl (new ∷ r ∷ rows)

-- a row that is put at a free rowid is one more
pub put_permutes : (new : Row) (rows : List Row) → is_taken rows new ≡ false → IsPermutation (new ∷ rows) (put_row new rows)
put_permutes new [] free = IsPermutation-refl (new ∷ [])
put_permutes new (r ∷ rows) free =
    let parts = or_parts _ _ free in
    put_one (value_cmp (rowid r) (rowid new)) new r rows parts.0 (put_permutes new rows parts.1)

kept_free : (b : Bool) (id : ℤ) (columns r : Row) (rest : List Row) → is_eq (value_cmp (rowid r) (Int id)) ≡ b → is_taken rest (Int id ∷ columns) ≡ false → is_taken (cond (not b) (r ∷ rest) rest) (Int id ∷ columns) ≡ false
kept_free true id columns r rest is h = h
kept_free false id columns r rest is h = rw is h

-- where nothing has the rowid, it is free
pub free_without : (id : ℤ) (columns : Row) (rows : List Row) → is_taken (without_rowid id rows) (Int id ∷ columns) ≡ false
free_without id columns [] = refl
free_without id columns (r ∷ rows) = kept_free (has_rowid id r) id columns r (without_rowid id rows) refl (free_without id columns rows)

pub filter_map : {A B : Type 0} (f : A → B) (p : B → Bool) (xs : List A) → filter p (map f xs) ≡ map f (filter (λ x. p (f x)) xs)
filter_map f p [] = refl
filter_map f p (x ∷ xs) = one (p (f x)) (filter_map f p xs)
  where
    one : (b : Bool) → filter p (map f xs) ≡ map f (filter (λ y. p (f y)) xs) → cond b (f x ∷ filter p (map f xs)) (filter p (map f xs)) ≡ map f (cond b (x ∷ filter (λ y. p (f y)) xs) (filter (λ y. p (f y)) xs))
    one true h = ap (λ ys. f x ∷ ys) h
    one false h = h

-- a row stands in the place of those that had its rowid
pub put_replaces : {X : Type 0} (row : X → Row) (id : ℤ) (columns : Row) (new : X) → row new ≡ Int id ∷ columns → (xs : List X) (rows : List Row) → IsPermutation (map row xs) rows
    → IsPermutation (map row (new ∷ filter (λ x. not (has_rowid id (row x))) xs)) (put_row (Int id ∷ columns) (without_rowid id rows))
put_replaces row id columns new is xs rows h =
    let others = subst (λ ys. IsPermutation ys (without_rowid id rows)) (filter_map row (λ r. not (has_rowid id r)) xs) (IsPermutation-filter (λ r. not (has_rowid id r)) (map row xs) rows h) in
    let more = IsPermutation-cons (row new) (map row (filter (λ x. not (has_rowid id (row x))) xs)) (without_rowid id rows) others in
    let put = put_permutes (Int id ∷ columns) (without_rowid id rows) (free_without id columns rows) in
    IsPermutation-trans _ (row new ∷ without_rowid id rows) _ more (subst (λ r. IsPermutation (r ∷ without_rowid id rows) (put_row (Int id ∷ columns) (without_rowid id rows))) (sym is) put)

-- where one element passes the test, so does its row alone
pub one_row : {X : Type 0} (row : X → Row) (test : Row → Bool) (x : X) (xs : List X) (rows : List Row) → IsPermutation (map row xs) rows → filter (λ y. test (row y)) xs ≡ x ∷ [] → filter test rows ≡ row x ∷ []
one_row row test x xs rows h one =
    let same = IsPermutation-filter test (map row xs) rows h in
    one_permutation (row x) (filter test rows) (subst (λ ys. IsPermutation ys (filter test rows)) (filter_map row test xs ∙ ap (map row) one) same)
