-- Rows of which none clashes with another, and whose rowids are their own, have unique keys.
use Rattle.reg_check_sound.proofs.Words.{AllByRecursion, agree, clashes, differ, plain, not_true, true_not_false, AreUnique, AreUniqueBy}
use Rattle.reg_check_sound.proofs.Words.{same_at, same_value}
use Rattle.reg_check_sound.proofs.Common.{◌≡◌, [], ◌∷◌, ◌∙◌, ◌&&◌, and_from, and_parts, ap, Bool, column, each_in, false, in_any, inl, inr, is_null, IsIn, List, not, refl, Row, rowid, true, ℕ}
use Rattle.std.specs.List.{IsDistinct}
use Rattle.reg_check_sound.proofs.SqlEqual.{agree_one, agree_two, differ_is, equal_is}

-- no two rows have one rowid
abbrev pub HaveRowids : List Row → Type 0
HaveRowids rows = IsDistinct (λ a b. same_value (rowid a) (rowid b)) rows

distinct_weaker : {X : Type 0} (e g : X → X → Bool) (xs : List X) → ((x y : X) → IsIn x xs → IsIn y xs → e x y ≡ false → g x y ≡ false) → IsDistinct e xs → IsDistinct g xs
unfolding IsDistinct
distinct_weaker {X} e g [] so h = tt
distinct_weaker {X} e g (x ∷ xs) so h = (each xs (λ y i. so x y (inl refl) (inr i)) h.0, distinct_weaker e g xs (λ y z i j. so y z (inr i) (inr j)) h.1)
  where
    each : (ys : List X) → ((y : X) → IsIn y ys → e x y ≡ false → g x y ≡ false) → AllByRecursion (λ y. e x y ≡ false) ys → AllByRecursion (λ y. g x y ≡ false) ys
    each [] f k = tt
    each (y ∷ ys) f k = (f y (inl refl) k.0, each ys (λ z i. f z (inr i)) k.1)

module _ (rows : List Row) (apart : HaveRowids rows) (there : AllByRecursion (λ r. is_null (rowid r) ≡ false) rows) where
  -- two rows of one key would clash
  agree_not : (places : List ℕ) → AllByRecursion (λ row. clashes plain places rows row ≡ false) rows → (a b : Row) → IsIn a rows → IsIn b rows → same_value (rowid a) (rowid b) ≡ false → agree plain places a places b ≡ true → ⊥
  agree_not places free a b i j other same =
      let na = each_in (λ r. is_null (rowid r) ≡ false) rows a there i in
      let nb = each_in (λ r. is_null (rowid r) ≡ false) rows b there j in
      let differs = differ_is (rowid a) (rowid b) na nb ∙ ap not other in
      let clash = in_any (λ o. agree plain places o places b && differ (rowid o) (rowid b)) rows a i (and_from (agree plain places a places b) _ same differs) in
      true_not_false (clashes plain places rows b) clash (each_in (λ row. clashes plain places rows row ≡ false) rows b free j)

  pub unique_at : (p : ℕ) → AllByRecursion (λ r. is_null (column r p) ≡ false) rows → AllByRecursion (λ row. clashes plain (p ∷ []) rows row ≡ false) rows → AreUnique p rows
  unique_at p filled free = distinct_weaker (λ a b. same_value (rowid a) (rowid b)) (same_at p) rows (λ a b i j other. not_true (same_at p a b) (λ same.
      let na = each_in (λ r. is_null (column r p) ≡ false) rows a filled i in
      let nb = each_in (λ r. is_null (column r p) ≡ false) rows b filled j in
      agree_not (p ∷ []) free a b i j other (agree_one p p a b ∙ and_from _ true (equal_is (column a p) (column b p) na nb ∙ same) refl))) apart

  pub unique_by : (p q : ℕ) → AllByRecursion (λ r. is_null (column r p) ≡ false) rows → AllByRecursion (λ r. is_null (column r q) ≡ false) rows → AllByRecursion (λ row. clashes plain (p ∷ q ∷ []) rows row ≡ false) rows → AreUniqueBy p q rows
  unique_by p q filled more free = distinct_weaker (λ a b. same_value (rowid a) (rowid b)) (λ a b. same_at p a b && same_at q a b) rows (λ a b i j other. not_true (same_at p a b && same_at q a b) (λ same.
      let s = and_parts (same_at p a b) (same_at q a b) same in
      let first = equal_is (column a p) (column b p) (each_in (λ r. is_null (column r p) ≡ false) rows a filled i) (each_in (λ r. is_null (column r p) ≡ false) rows b filled j) in
      let second = equal_is (column a q) (column b q) (each_in (λ r. is_null (column r q) ≡ false) rows a more i) (each_in (λ r. is_null (column r q) ≡ false) rows b more j) in
      agree_not (p ∷ q ∷ []) free a b i j other (agree_two p q a b ∙ and_from _ _ (first ∙ s.0) (and_from _ true (second ∙ s.1) refl)))) apart
