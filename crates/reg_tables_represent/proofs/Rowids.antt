-- Rows whose rowid is SQL's own: what is said of them is said of their columns, behind the rowid.
use Rattle.reg_tables_represent.proofs.Words.{◌≡◌, ℤ, List, [], ◌∷◌, map, Bool, false, refl, sym, ap, subst, ◌∙◌, IsEquivalence, or_parts}
use Rattle.reg_tables_represent.proofs.Words.{IsDistinct-IsPermutation, IsDistinct-cons, IsPermutation-filter, value_cmp_total, IsNumbered}
use Rattle.reg_tables_represent.proofs.Words.{HaveOwnRowids}
use Rattle.reg_tables_represent.proofs.Common.{AllByRecursion, any_same, column, drop, filter, filter_map, Int, is_eq, is_taken, IsPermutation, IsPermutation-cons, IsPermutation-map, IsPermutation-trans, list_any, list_any-IsPermutation, list_any_map, put_permutes, put_row, Row, rowid, same_filter, value_cmp}
use Rattle.std.proofs.lemmas.Cmp.{eq_by_cmp_equiv}
use Rattle.sqlite_trees.proofs.ListLemmas.{all-permutation}

pub first_column : (r : Row) → column r 1 ≡ column (drop 1 r) 0
first_column [] = refl
first_column (v ∷ r) = refl

pub second_column : (r : Row) → column r 2 ≡ column (drop 1 r) 1
second_column [] = refl
second_column (v ∷ r) = refl

-- rows with one rowid
abbrev pub tied : Row → Row → Bool
tied a b = is_eq (value_cmp (rowid a) (rowid b))

pub values_tie : IsEquivalence (λ a b. is_eq (value_cmp a b))
values_tie = eq_by_cmp_equiv value_cmp_total

pub tied_back : (a b : Row) → tied a b ≡ tied b a
tied_back a b = values_tie.symm (rowid a) (rowid b)

free_of : (new : Row) (rows : List Row) → is_taken rows new ≡ false → AllByRecursion (λ r. tied new r ≡ false) rows
free_of new [] free = tt
free_of new (r ∷ rows) free =
    let parts = or_parts _ _ free in
    (tied_back new r ∙ parts.0, free_of new rows parts.1)

-- a row at a free rowid leaves each row its own
pub own_put : (id : ℤ) (columns : Row) (rows : List Row) → is_taken rows (Int id ∷ columns) ≡ false → HaveOwnRowids rows → HaveOwnRowids (put_row (Int id ∷ columns) rows)
own_put id columns rows free own =
    let new : Row = Int id ∷ columns in
    let put = put_permutes new rows free in (
      IsDistinct-IsPermutation tied tied_back (new ∷ rows) (put_row new rows) put (IsDistinct-cons tied new rows (free_of new rows free) own.0),
      all-permutation IsNumbered (new ∷ rows) (put_row new rows) put (refl, own.1),
    )

module _ {X : Type 0} (columns : X → Row) (xs : List X) (rows : List Row) (stand : IsPermutation (map columns xs) (map (drop 1) rows)) where
  -- whether a row passes a test of its columns
  pub any_columns : (test behind : Row → Bool) → ((r : Row) → test r ≡ behind (drop 1 r)) → list_any test rows ≡ list_any (λ x. behind (columns x)) xs
  any_columns test behind same =
      any_same test (λ r. behind (drop 1 r)) same rows ∙ sym (list_any_map behind (drop 1) rows) ∙ sym (list_any-IsPermutation behind (map columns xs) (map (drop 1) rows) stand) ∙ list_any_map behind columns xs

  pub put_columns : (x : X) (id : ℤ) → is_taken rows (Int id ∷ columns x) ≡ false → IsPermutation (map columns (x ∷ xs)) (map (drop 1) (put_row (Int id ∷ columns x) rows))
  put_columns x id free =
      let row : Row = Int id ∷ columns x in
      IsPermutation-trans _ (map (drop 1) (row ∷ rows)) _ (IsPermutation-cons (columns x) (map columns xs) (map (drop 1) rows) stand)
      (IsPermutation-map (drop 1) (row ∷ rows) (put_row row rows) (put_permutes row rows free))

  pub keep_columns : (test behind : Row → Bool) → ((r : Row) → test r ≡ behind (drop 1 r)) → IsPermutation (map columns (filter (λ x. behind (columns x)) xs)) (map (drop 1) (filter test rows))
  keep_columns test behind same =
      let kept = IsPermutation-filter behind (map columns xs) (map (drop 1) rows) stand in
      let rest : filter behind (map (drop 1) rows) ≡ map (drop 1) (filter test rows) = filter_map (drop 1) behind rows ∙ ap (map (λ (r : Row). drop 1 r)) (sym (same_filter test (λ r. behind (drop 1 r)) same rows)) in
      subst (λ ys. IsPermutation ys (map (drop 1) (filter test rows))) (filter_map columns behind xs) (subst (IsPermutation (filter behind (map columns xs))) rest kept)
