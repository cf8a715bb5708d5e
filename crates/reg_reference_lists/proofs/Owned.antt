-- Whether an account is among those that own a crate.
use Rattle.reg_reference_lists.proofs.Words.{◌≡◌, ℕ, zero, suc, ◌+◌, ◌-◌, ◌==◌, List, [], ◌∷◌, Bool, true, false, refl, ◌∙◌, ap, arith, ◌&&◌}
use Rattle.reg_reference_lists.proofs.Words.{◌||◌, slice_get, enumerate_from, filter, list_any, nat_tests}
use Rattle.std.specs.Prelude.{is_some, nat_le}
use Rattle.reg_model.specs.Registry.{with_id}
use Rattle.reg_model.proofs.Lists.{any_filter, any_same}

and_true : (b : Bool) → (b && true) ≡ b
and_true true = refl
and_true false = refl

and_false : (b : Bool) → (b && false) ≡ false
and_false true = refl
and_false false = refl

spread : (a b c : Bool) → ((a && b) || (c && b)) ≡ ((a || c) && b)
spread true true c = refl
spread true false true = refl
spread true false false = refl
spread false b c = refl

module _ {X : Type 0} where
  -- the ids of a list are its places, from k on
  has_place : (k id : ℕ) (xs : List X) → list_any (λ o. o.0 == id) (enumerate_from k xs) ≡ (nat_le k id && is_some (slice_get xs (id - k)))
  has_place k id [] = elim (nat_le k id) as (λ b. false ≡ (b && false)) [ true ↦ refl | false ↦ refl ]
  has_place k id (x ∷ xs) = ap (λ b. (k == id) || b) (has_place (k + 1) id xs) ∙ by (k == id) (nat_le k id) refl refl
    where
      by : (e l : Bool) → (k == id) ≡ e → nat_le k id ≡ l → ((k == id) || (nat_le (k + 1) id && is_some (slice_get xs (id - (k + 1))))) ≡ (nat_le k id && is_some (slice_get (x ∷ xs) (id - k)))
      by true l e f =
          let m : nat_le k id ≡ true = grind (arith, nat_tests) in
          let z : id - k ≡ zero = grind (arith, nat_tests) in
          rw (e, m, z) refl
      by false true e f =
          let m : nat_le (k + 1) id ≡ true = grind (arith, nat_tests) in
          let z : id - k ≡ suc (id - (k + 1)) = grind (arith, nat_tests) in
          rw (e, f, m, z) refl
      by false false e f =
          let m : nat_le (k + 1) id ≡ false = grind (arith, nat_tests) in
          rw (e, f, m) refl

  has_id : (id : ℕ) (xs : List X) → list_any (λ o. o.0 == id) (enumerate_from 1 xs) ≡ is_some (with_id xs id)
  has_id id xs = has_place 1 id xs ∙ by (id == 0) refl
    where
      by : (b : Bool) → (id == 0) ≡ b → (nat_le 1 id && is_some (slice_get xs (id - 1))) ≡ is_some (with_id xs id)
      by true e = let m : nat_le 1 id ≡ false = grind (arith, nat_tests) in rw (e, m) refl
      by false e = let m : nat_le 1 id ≡ true = grind (arith, nat_tests) in rw (e, m) refl

  pub among_owned : (p : ℕ → Bool) (id : ℕ) (xs : List X) → list_any (λ o. o.0 == id) (filter (λ o. p o.0) (enumerate_from 1 xs)) ≡ (is_some (with_id xs id) && p id)
  among_owned p id xs =
      any_filter (λ o. p o.0) (λ o. o.0 == id) (enumerate_from 1 xs)
      ∙ any_same _ _ (λ o. at o.0) (enumerate_from 1 xs)
      ∙ both (enumerate_from 1 xs) ∙ ap (λ b. b && p id) (has_id id xs)
    where
      at : (k : ℕ) → (p k && (k == id)) ≡ ((k == id) && p id)
      at k = by (k == id) refl
        where
          by : (b : Bool) → (k == id) ≡ b → (p k && (k == id)) ≡ ((k == id) && p id)
          by true e = let same : k ≡ id = grind (arith, nat_tests) in rw (e, same) (and_true (p id))
          by false e = rw e (and_false (p k))

      both : (os : List (ℕ × X)) → list_any (λ o. (o.0 == id) && p id) os ≡ (list_any (λ o. o.0 == id) os && p id)
      both [] = refl
      both (o ∷ os) = ap (λ b. ((o.0 == id) && p id) || b) (both os) ∙ spread (o.0 == id) (p id) (list_any (λ o. o.0 == id) os)
