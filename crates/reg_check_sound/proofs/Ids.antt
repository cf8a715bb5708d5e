-- Ids that are places in a list.
use Rattle.reg_check_sound.proofs.Words.{◌≡◌, ◌==◌, ◌+◌, arith, ℕ, zero, suc, List, [], ◌∷◌, Bool, true, false, None, refl, sym, ap, eqb-true}
use Rattle.reg_check_sound.proofs.Words.{◌∙◌, if◌then◌else◌, is_some, enumerate_from, list_any, eq-eqb, eqb-false, ne_eqb, with_id, or_left}
use Rattle.reg_check_sound.proofs.Words.{or_right, or_split}
use Rattle.std.proofs.Common.{◌-◌, slice_get}

-- an id among places is that of one that is there
any_place : {X : Type 0} (n : ℕ) (xs : List X) (id : ℕ) → list_any (λ e. e.0 == id) (enumerate_from n xs) ≡ true → (i : ℕ) × (n + i ≡ id) × (is_some (slice_get xs i) ≡ true)
any_place n [] id h = absurd cc
any_place n (x ∷ xs) id h = or_split (n == id) (list_any (λ e. e.0 == id) (enumerate_from (n + 1) xs)) h (λ e. (0, at_once (eqb-true n id e), refl)) (λ e. let r = any_place (n + 1) xs id e in (suc r.0, later r.0 r.1, r.2))
  where
    at_once : n ≡ id → n + 0 ≡ id
    at_once e = omega (arith, e)

    later : (i : ℕ) → (n + 1) + i ≡ id → n + suc i ≡ id
    later i e = omega (arith, e)

pub there_at : {X : Type 0} (xs : List X) (id : ℕ) → list_any (λ e. e.0 == id) (enumerate_from 1 xs) ≡ true → is_some (with_id xs id) ≡ true
there_at xs id h =
    let at = any_place 1 xs id h in
    let other : (id == 0) ≡ false = ne_eqb id 0 (λ z. absurd (omega (arith, at.1, z))) in
    let place : id - 1 ≡ at.0 = omega (arith, at.1) in
    rw (other, place) at.2

-- and what is there is among places
place_any : {X : Type 0} (n : ℕ) (xs : List X) (i : ℕ) → is_some (slice_get xs i) ≡ true → list_any (λ e. e.0 == (n + i)) (enumerate_from n xs) ≡ true
place_any n [] i h = absurd cc
place_any n (x ∷ xs) zero h = or_left _ _ (eq-eqb n (n + 0) (omega arith))
place_any n (x ∷ xs) (suc i) h =
    let same : (n + 1) + i ≡ n + suc i = omega arith in
    or_right (n == (n + suc i)) _ (ap (λ k. list_any (λ e. e.0 == k) (enumerate_from (n + 1) xs)) (sym same) ∙ place_any (n + 1) xs i h)

pub at_there : {X : Type 0} (xs : List X) (id : ℕ) → is_some (with_id xs id) ≡ true → list_any (λ e. e.0 == id) (enumerate_from 1 xs) ≡ true
at_there {X} xs id h = split (id == 0) refl h
  where
    split : (b : Bool) → (id == 0) ≡ b → is_some (if b then None else slice_get xs (id - 1)) ≡ true → list_any (λ e. e.0 == id) (enumerate_from 1 xs) ≡ true
    split true e some = absurd cc
    split false e some =
        let same : 1 + (id - 1) ≡ id = omega (arith, eqb-false id 0 e) in
        ap (λ k. list_any (λ e. e.0 == k) (enumerate_from 1 xs)) (sym same) ∙ place_any 1 xs (id - 1) some
