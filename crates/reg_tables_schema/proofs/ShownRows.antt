-- From the rows that a statement answered to the rows of the table.
use Rattle.reg_tables_schema.proofs.Words.{◌≡◌, List, [], ◌∷◌, map, length, Bool, true, false, cond, not, ◌||◌, Option, Some, None, refl}
use Rattle.reg_tables_schema.proofs.Words.{sym, ap, subst, ◌∙◌, arith, filter, list_any, IsPermutation, length-map, length_permutation, Row}
use Rattle.reg_tables_schema.proofs.Words.{one_permutation}
use Rattle.std.proofs.Common.{◌==◌}
use Rattle.std.proofs.lemmas.Bool.Decides.{nat_tests}
use Rattle.std.proofs.lemmas.List.Sorted.{IsPermutation-sym}
use Rattle.reg_tables_schema.specs.Shown.{shown_of}

empty : {X : Type 0} (xs : List X) → length xs ≡ 0 → xs ≡ []
empty [] h = refl
empty (x ∷ xs) h = absurd (omega arith)

-- where a statement answers one row or none, in some order is in this order
pub shown_exactly : {X : Type 0} (columns : X → Row) (xs : List Row) (o : Option X) → IsPermutation xs (shown_of columns o) → xs ≡ shown_of columns o
shown_exactly columns xs None h = empty xs (sym (length_permutation xs [] h))
shown_exactly columns xs (Some x) h = one_permutation (columns x) xs (IsPermutation-sym xs (columns x ∷ []) h)

one_more : {A : Type 0} (b : Bool) (x : A) (ys : List A) (c : Bool) → not (length ys == 0) ≡ c → not (length (cond b (x ∷ ys) ys) == 0) ≡ (b || c)
one_more true x ys c h = grind (arith, nat_tests)
one_more false x ys c h = h

any_passes : {A : Type 0} (p : A → Bool) (xs : List A) → not (length (filter p xs) == 0) ≡ list_any p xs
any_passes p [] = refl
any_passes p (x ∷ xs) = one_more (p x) x (filter p xs) (list_any p xs) (any_passes p xs)

-- a row is shown where a row passes
pub any_shown : {A B : Type 0} (p : A → Bool) (show : A → B) (xs : List A) (rows : List B) → IsPermutation (map show (filter p xs)) rows → not (length rows == 0) ≡ list_any p xs
any_shown p show xs rows h =
    let same = length_permutation (map show (filter p xs)) rows h ∙ length-map (filter p xs) show in
    ap (λ n. not (n == 0)) same ∙ any_passes p xs
