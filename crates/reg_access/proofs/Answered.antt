-- Whether an answer has a row.
use Rattle.reg_access.proofs.Words.{◌≡◌, List, [], ◌∷◌, map, length, Bool, true, false, not, ◌||◌, ◌==◌, cond, refl, sym, ◌∙◌, arith}
use Rattle.reg_access.proofs.Words.{filter, list_any, IsPermutation, list_any-IsPermutation, Row, is_there}
use Rattle.std.proofs.lemmas.Bool.Decides.{nat_tests}

any_there : (rows : List Row) → is_there rows ≡ list_any (λ r. true) rows
any_there [] = refl
any_there (r ∷ rows) = refl

-- what is shown of the rows that pass, is there where a row passes
pub there_filtered : (show : Row → Row) (p : Row → Bool) (rows : List Row) → is_there (map show (filter p rows)) ≡ list_any p rows
there_filtered show p [] = refl
there_filtered show p (r ∷ rows) = one (p r) (there_filtered show p rows)
  where
    one : (b : Bool) → is_there (map show (filter p rows)) ≡ list_any p rows → is_there (map show (cond b (r ∷ filter p rows) (filter p rows))) ≡ (b || list_any p rows)
    one true h = refl
    one false h = h

there_counted : (rows : List Row) → is_there rows ≡ not (length rows == 0)
there_counted [] = refl
there_counted (r ∷ rows) = grind (arith, nat_tests)

pub none_there : (rows : List Row) → is_there rows ≡ false → rows ≡ []
none_there [] h = refl
none_there (r ∷ rows) h = absurd cc

-- in any order
pub there_found : (xs rows : List Row) → IsPermutation xs rows → is_there xs ≡ not (length rows == 0)
there_found xs rows h = any_there xs ∙ list_any-IsPermutation (λ r. true) xs rows h ∙ sym (any_there rows) ∙ there_counted rows
