-- Lists whose elements have their places as ids.
use Rattle.std.specs.Prelude.{◌⊎◌}
use Rattle.std.proofs.Common.{◌≡◌, ◌≢◌, ◌==◌, ℕ, zero, suc, ◌+◌, ◌-◌, ◌≤◌, ◌<◌, List, [], ◌∷◌, ◌++◌, length, Bool, true, false, not, cond, Option, Some, None, slice_get, refl, ap, ◌∙◌, arith, inl, inr, sym}
use Rattle.std.specs.List.{filter, enumerate_from, position_from, find}
use Rattle.reg_tables_represent.proofs.Common.{IsPermutation, IsPermutation-cons, IsPermutation-trans}
use Rattle.std.proofs.lemmas.Bool.{ne_eqb, eq-eqb, eqb-false, eqb-true}
use Rattle.sqlite_trees.proofs.ListLemmas.{IsPermutation-same}
use Rattle.reg_model.specs.Registry.{change_place, change_at, with_id}
use Rattle.reg_tables_schema.proofs.Permutes.{two}
use Rattle.reg_tables_represent.proofs.Selected.{same_head}

pub more : (n m : ℕ) → (n + 1) + m ≡ n + suc m
more n m = omega arith

pub enumerate_snoc : {X : Type 0} (n : ℕ) (xs : List X) (x : X) → enumerate_from n (xs ++ x ∷ []) ≡ enumerate_from n xs ++ (n + length xs, x) ∷ []
enumerate_snoc n [] x = ap (λ k. (k, x) ∷ []) (none_more n)
  where
    none_more : (n : ℕ) → n ≡ n + 0
    none_more n = omega arith
enumerate_snoc n (y ∷ xs) x = ap (λ es. (n, y) ∷ es) (enumerate_snoc (n + 1) xs x ∙ ap (λ k. enumerate_from (n + 1) xs ++ (k, x) ∷ []) (more n (length xs)))

is_other : (n m : ℕ) → n ≢ m → (n == m) ≡ false
is_other n m h = ne_eqb n m h

keep : {X : Type 0} (b : Bool) (x : X) (xs : List X) → b ≡ false → cond (not b) (x ∷ xs) xs ≡ x ∷ xs
keep true x xs h = absurd cc
keep false x xs h = refl

leave : {X : Type 0} (b : Bool) (x : X) (xs : List X) → b ≡ true → cond (not b) (x ∷ xs) xs ≡ xs
leave true x xs h = refl
leave false x xs h = absurd cc

take_it : {X : Type 0} (b : Bool) (x : X) (xs : List X) → b ≡ true → cond b (x ∷ xs) xs ≡ x ∷ xs
take_it true x xs h = refl
take_it false x xs h = absurd cc

pass_by : {X : Type 0} (b : Bool) (x : X) (xs : List X) → b ≡ false → cond b (x ∷ xs) xs ≡ xs
pass_by true x xs h = absurd cc
pass_by false x xs h = refl

-- ids from n on are others than one below
later : {X : Type 0} (id n : ℕ) (xs : List X) → id < n → filter (λ e. not (e.0 == id)) (enumerate_from n xs) ≡ enumerate_from n xs
later id n [] h = refl
later id n (x ∷ xs) h = keep (n == id) (n, x) _ (is_other n id (omega (arith, h))) ∙ ap (λ es. (n, x) ∷ es) (later id (n + 1) xs (omega (arith, h)))

none_later : {X : Type 0} (id n : ℕ) (xs : List X) → id < n → filter (λ e. e.0 == id) (enumerate_from n xs) ≡ []
none_later id n [] h = refl
none_later id n (x ∷ xs) h = pass_by (n == id) (n, x) _ (is_other n id (omega (arith, h))) ∙ none_later id (n + 1) xs (omega (arith, h))

pub same_some : {X : Type 0} {a b : X} → ◌≡◌ {A = Option X} (Some a) (Some b) → a ≡ b
same_some e = cc

-- the one with an id is that at its place
one_from : {X : Type 0} (n i id : ℕ) (xs : List X) (x : X) → n + i ≡ id → slice_get xs i ≡ Some x → filter (λ e. e.0 == id) (enumerate_from n xs) ≡ (id, x) ∷ []
one_from n i id [] x at h = absurd cc
one_from n zero id (y ∷ xs) x at h =
    take_it (n == id) (n, y) _ (eq-eqb n id (omega (arith, at))) ∙ ap (λ es. (n, y) ∷ es) (none_later id (n + 1) xs (omega (arith, at))) ∙ rw (same_some h) (ap (λ k. (k, x) ∷ []) (omega (arith, at)))
one_from n (suc i) id (y ∷ xs) x at h = pass_by (n == id) (n, y) _ (is_other n id (omega (arith, at))) ∙ one_from (n + 1) i id xs x (omega (arith, at)) h

-- the element at a place, changed, is one beside the others
changed_from : {X : Type 0} (f : X → X) (n i id : ℕ) (xs : List X) (x : X) → n + i ≡ id → slice_get xs i ≡ Some x → IsPermutation ((id, f x) ∷ filter (λ e. not (e.0 == id)) (enumerate_from n xs)) (enumerate_from n (change_place f i xs))
changed_from f n i id [] x at h = absurd cc
changed_from f n zero id (y ∷ xs) x at h =
    let rest = leave (n == id) (n, y) _ (eq-eqb n id (omega (arith, at))) ∙ later id (n + 1) xs (omega (arith, at)) in
    IsPermutation-same _ _ (rw (rest, same_some h) (ap (λ k. (k, f x) ∷ enumerate_from (n + 1) xs) (omega (arith, at))))
changed_from f n (suc i) id (y ∷ xs) x at h =
    let others = filter (λ e. not (e.0 == id)) (enumerate_from (n + 1) xs) in
    let deep = changed_from f (n + 1) i id xs x (omega (arith, at)) h in
    rw (keep (n == id) (n, y) others (is_other n id (omega (arith, at))))
    (IsPermutation-trans _ ((n, y) ∷ (id, f x) ∷ others) _ (two (id, f x) (n, y) others) (IsPermutation-cons (n, y) ((id, f x) ∷ others) (enumerate_from (n + 1) (change_place f i xs)) deep))

-- the same by ids that count from one
pub at_place : {X : Type 0} (id : ℕ) (xs : List X) (x : X) → with_id xs id ≡ Some x → (1 ≤ id) × (slice_get xs (id - 1) ≡ Some x)
at_place {X} id xs x = split (id == 0) refl
  where
    split : (b : Bool) → (id == 0) ≡ b → cond b None (slice_get xs (id - 1)) ≡ Some x → (1 ≤ id) × (slice_get xs (id - 1) ≡ Some x)
    split true e h = absurd cc
    split false e h = (omega (arith, eqb-false id 0 e), h)

pub one_at : {X : Type 0} (id : ℕ) (xs : List X) (x : X) → with_id xs id ≡ Some x → filter (λ e. e.0 == id) (enumerate_from 1 xs) ≡ (id, x) ∷ []
one_at id xs x h =
    let at = at_place id xs x h in
    one_from 1 (id - 1) id xs x (omega (arith, at.0)) at.1

pub changed_at : {X : Type 0} (f : X → X) (id : ℕ) (xs : List X) (x : X) → with_id xs id ≡ Some x → IsPermutation ((id, f x) ∷ filter (λ e. not (e.0 == id)) (enumerate_from 1 xs)) (enumerate_from 1 (change_at f id xs))
changed_at f id xs x h =
    let at = at_place id xs x h in
    let all = changed_from f 1 (id - 1) id xs x (omega (arith, at.0)) at.1 in
    rw (is_other id 0 (omega (arith, at.0))) all

place_none : {X : Type 0} (f : X → X) (i : ℕ) (xs : List X) → slice_get xs i ≡ None → change_place f i xs ≡ xs
place_none f i [] h = refl
place_none f zero (x ∷ xs) h = absurd cc
place_none f (suc i) (x ∷ xs) h = ap (λ ys. x ∷ ys) (place_none f i xs h)

-- nothing is changed at an id that is not there, and no entry has it
pub change_none : {X : Type 0} (f : X → X) (id : ℕ) (xs : List X) → with_id xs id ≡ None → change_at f id xs ≡ xs
change_none f id xs = split (id == 0)
  where
    split : (b : Bool) → cond b None (slice_get xs (id - 1)) ≡ None → cond b xs (change_place f (id - 1) xs) ≡ xs
    split true h = refl
    split false h = place_none f (id - 1) xs h

place_out : {X : Type 0} (xs : List X) (i : ℕ) → slice_get xs i ≡ None → length xs ≤ i
place_out [] i h = omega arith
place_out (x ∷ xs) zero h = absurd cc
place_out (x ∷ xs) (suc i) h = let low = place_out xs i h in omega (arith, low)

none_from : {X : Type 0} (n id : ℕ) (xs : List X) → (id < n) ⊎ (n + length xs ≤ id) → filter (λ e. e.0 == id) (enumerate_from n xs) ≡ []
none_from n id [] h = refl
none_from n id (x ∷ xs) h = rw (is_other n id (apart h)) (none_from (n + 1) id xs (later h))
  where
    apart : (id < n) ⊎ (n + length (x ∷ xs) ≤ id) → n ≡ id → ⊥
    apart (inl low) e = absurd (omega (arith, low, e))
    apart (inr high) e = absurd (omega (arith, high, e))

    later : (id < n) ⊎ (n + length (x ∷ xs) ≤ id) → (id < n + 1) ⊎ ((n + 1) + length xs ≤ id)
    later (inl low) = inl (omega (arith, low))
    later (inr high) = inr (omega (arith, high))

pub none_at : {X : Type 0} (id : ℕ) (xs : List X) → with_id xs id ≡ None → filter (λ e. e.0 == id) (enumerate_from 1 xs) ≡ []
none_at id xs = split (id == 0) refl
  where
    split : (b : Bool) → (id == 0) ≡ b → cond b None (slice_get xs (id - 1)) ≡ None → filter (λ e. e.0 == id) (enumerate_from 1 xs) ≡ []
    split true e h = none_from 1 id xs (inl (omega (arith, eqb-true id 0 e)))
    split false e h = none_from 1 id xs (inr (let low = place_out xs (id - 1) h in omega (arith, low, eqb-false id 0 e)))

at_once : (n id : ℕ) → n ≡ id → n + 0 ≡ id
at_once n id h = omega (arith, h)

at_last : (n i id : ℕ) → (n + 1) + i ≡ id → n + suc i ≡ id
at_last n i id h = omega (arith, h)

-- an element that is found alone among those with ids is at its id
in_place : {X : Type 0} (p : ℕ × X → Bool) (n id : ℕ) (t : X) (ts : List X) → filter p (enumerate_from n ts) ≡ (id, t) ∷ [] → (i : ℕ) × (n + i ≡ id) × (slice_get ts i ≡ Some t)
in_place p n id t [] h = absurd cc
in_place p n id t (u ∷ ts) h = split (p (n, u)) (λ e. in_place p (n + 1) id t ts e) h
  where
    split : (b : Bool) → (filter p (enumerate_from (n + 1) ts) ≡ (id, t) ∷ [] → (i : ℕ) × ((n + 1) + i ≡ id) × (slice_get ts i ≡ Some t))
        → cond b ((n, u) ∷ filter p (enumerate_from (n + 1) ts)) (filter p (enumerate_from (n + 1) ts)) ≡ (id, t) ∷ [] → (i : ℕ) × (n + i ≡ id) × (slice_get (u ∷ ts) i ≡ Some t)
    split true deep e = let is : (n, u) ≡ (id, t) = same_head e in (0, at_once n id (ap (λ x. x.0) is), ap (λ x. Some x.1) is)
    split false deep e = let later = deep e in (suc later.0, at_last n later.0 id later.1, later.2)

pub found_at : {X : Type 0} (p : ℕ × X → Bool) (id : ℕ) (t : X) (ts : List X) → filter p (enumerate_from 1 ts) ≡ (id, t) ∷ [] → with_id ts id ≡ Some t
found_at p id t ts h =
    let at = in_place p 1 id t ts h in
    let other : (id == 0) ≡ false = ne_eqb id 0 (λ z. absurd (omega (arith, at.1, z))) in
    rw other (ap (slice_get ts) (omega (arith, at.1)) ∙ at.2)

-- the first that passes, where one passes or none
pub one_placed : {X : Type 0} (p : X → Bool) (n : ℕ) (xs : List X) (e : ℕ × X) → filter (λ e. p e.1) (enumerate_from n xs) ≡ e ∷ [] → Some e.0 ≡ position_from p n xs
one_placed p n [] e h = absurd cc
one_placed p n (x ∷ xs) e h = split (p x) h (one_placed p (n + 1) xs e)
  where
    split : (b : Bool) → cond b ((n, x) ∷ filter (λ e. p e.1) (enumerate_from (n + 1) xs)) (filter (λ e. p e.1) (enumerate_from (n + 1) xs)) ≡ e ∷ [] → (filter (λ e. p e.1) (enumerate_from (n + 1) xs) ≡ e ∷ [] → Some e.0 ≡ position_from p (n + 1) xs) → Some e.0 ≡ cond b (Some n) (position_from p (n + 1) xs)
    split true h rest = ap (λ x. Some x.0) (sym (same_head h))
    split false h rest = rest h

pub none_placed : {X : Type 0} (p : X → Bool) (n : ℕ) (xs : List X) → filter (λ e. p e.1) (enumerate_from n xs) ≡ [] → None ≡ position_from p n xs
none_placed p n [] h = refl
none_placed p n (x ∷ xs) h = split (p x) h (none_placed p (n + 1) xs)
  where
    split : (b : Bool) → cond b ((n, x) ∷ filter (λ e. p e.1) (enumerate_from (n + 1) xs)) (filter (λ e. p e.1) (enumerate_from (n + 1) xs)) ≡ [] → (filter (λ e. p e.1) (enumerate_from (n + 1) xs) ≡ [] → None ≡ position_from p (n + 1) xs) → None ≡ cond b (Some n) (position_from p (n + 1) xs)
    split true h rest = absurd cc
    split false h rest = rest h

-- and the element itself
pub one_found : {X : Type 0} (p : X → Bool) (n : ℕ) (xs : List X) (e : ℕ × X) → filter (λ e. p e.1) (enumerate_from n xs) ≡ e ∷ [] → find p xs ≡ Some e.1
one_found p n [] e h = absurd cc
one_found p n (x ∷ xs) e h = split (p x) h (one_found p (n + 1) xs e)
  where
    split : (b : Bool) → cond b ((n, x) ∷ filter (λ e. p e.1) (enumerate_from (n + 1) xs)) (filter (λ e. p e.1) (enumerate_from (n + 1) xs)) ≡ e ∷ [] → (filter (λ e. p e.1) (enumerate_from (n + 1) xs) ≡ e ∷ [] → find p xs ≡ Some e.1) → cond b (Some x) (find p xs) ≡ Some e.1
    split true h rest = ap (λ x. Some x.1) (same_head h)
    split false h rest = rest h

pub none_numbered : {X : Type 0} (p : X → Bool) (n : ℕ) (xs : List X) → filter (λ e. p e.1) (enumerate_from n xs) ≡ [] → find p xs ≡ None
none_numbered p n [] h = refl
none_numbered p n (x ∷ xs) h = split (p x) h (none_numbered p (n + 1) xs)
  where
    split : (b : Bool) → cond b ((n, x) ∷ filter (λ e. p e.1) (enumerate_from (n + 1) xs)) (filter (λ e. p e.1) (enumerate_from (n + 1) xs)) ≡ [] → (filter (λ e. p e.1) (enumerate_from (n + 1) xs) ≡ [] → find p xs ≡ None) → cond b (Some x) (find p xs) ≡ None
    split true h rest = absurd cc
    split false h rest = rest h
