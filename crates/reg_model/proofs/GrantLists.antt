-- What the report on grants lists.
use Rattle.reg_model.proofs.Words.{◌≡◌, ◌⊎◌, inl, inr, ℕ, zero, suc, ◌+◌, ◌-◌, ◌≤◌, ◌==◌, List, [], ◌∷◌, ◌++◌, map, Bool, true, false, cond}
use Rattle.reg_model.proofs.Words.{Some, None, refl, sym, ap, subst, ◌∙◌, arith, slice_get, enumerate_from, filter, nat_tests, Endpoint}
use Rattle.reg_model.proofs.Words.{IsIn, Text, Token, Registry, with_id, is_granted}
use Rattle.std.specs.List.{flat_map}
use Rattle.reg_names.specs.declared.endpoint.Endpoint.TheVariants as endpoint
use Rattle.reg_model.specs.Grants.{all_endpoints, grants}
use Rattle.reg_model.proofs.IndexPaths.{the_some}
use Rattle.reg_model.proofs.Members.{filtered_passes, in_map, in_more, map_in}
use Rattle.reg_model.proofs.Places.{at_id}

positive : (id : ℕ) → (id == 0) ≡ false → 1 ≤ id
positive id h = grind (arith, nat_tests)

module _ {X : Type 0} where
  in_behind : (xs ys : List X) (x : X) → IsIn x ys → IsIn x (xs ++ ys)
  in_behind [] ys x i = i
  in_behind (z ∷ zs) ys x i = inr (in_behind zs ys x i)

  in_either : (xs ys : List X) (x : X) → IsIn x (xs ++ ys) → IsIn x xs ⊎ IsIn x ys
  in_either [] ys x i = inr i
  in_either (z ∷ zs) ys x (inl e) = inl (inl e)
  in_either (z ∷ zs) ys x (inr i) = later (in_either zs ys x i)
    where
      later : IsIn x zs ⊎ IsIn x ys → IsIn x (z ∷ zs) ⊎ IsIn x ys
      later (inl j) = inl (inr j)
      later (inr j) = inr j

  filter_in : (p : X → Bool) (xs : List X) (x : X) → IsIn x xs → p x ≡ true → IsIn x (filter p xs)
  filter_in p [] x i h = absurd i
  filter_in p (y ∷ ys) x (inl e) h = first (p y) (ap p e ∙ h)
    where
      first : (b : Bool) → b ≡ true → IsIn x (cond b (y ∷ filter p ys) (filter p ys))
      first true t = inl e
      first false t = cc
  filter_in p (y ∷ ys) x (inr i) h = later (p y) (filter_in p ys x i h)
    where
      later : (b : Bool) → IsIn x (filter p ys) → IsIn x (cond b (y ∷ filter p ys) (filter p ys))
      later true j = inr j
      later false j = j

  -- what stands behind an id is what has it
  in_enumerated : (k : ℕ) (xs : List X) (id : ℕ) (x : X) → IsIn (id, x) (enumerate_from k xs) → (k ≤ id) × (slice_get xs (id - k) ≡ Some x)
  in_enumerated k [] id x i = absurd i
  in_enumerated k (y ∷ ys) id x (inl e) = let same : k ≡ id = ap (λ o. o.0) e in (omega arith, ap (slice_get (y ∷ ys)) (first k id same) ∙ ap (λ o. Some o.1) e)
    where
      first : (k id : ℕ) → k ≡ id → id - k ≡ zero
      first k id e = omega arith
  in_enumerated k (y ∷ ys) id x (inr i) = let r = in_enumerated (k + 1) ys id x i in (let m = r.0 in omega arith, ap (slice_get (y ∷ ys)) (later k id r.0) ∙ r.1)
    where
      later : (k id : ℕ) → k + 1 ≤ id → id - k ≡ suc (id - (k + 1))
      later k id h = omega arith

  enumerated_in : (k : ℕ) (xs : List X) (j id : ℕ) (x : X) → k + j ≡ id → slice_get xs j ≡ Some x → IsIn (id, x) (enumerate_from k xs)
  enumerated_in k [] j id x e h = cc
  enumerated_in k (y ∷ ys) zero id x e h = inl (λ i. (at k id e i, the_some h i))
    where
      at : (k id : ℕ) → k + zero ≡ id → k ≡ id
      at k id e = omega arith
  enumerated_in k (y ∷ ys) (suc j) id x e h = inr (enumerated_in (k + 1) ys j id x (moved k j id e) h)
    where
      moved : (k j id : ℕ) → k + suc j ≡ id → (k + 1) + j ≡ id
      moved k j id e = omega arith

  id_at : (xs : List X) (id : ℕ) (x : X) → with_id xs id ≡ Some x → (1 ≤ id) × (slice_get xs (id - 1) ≡ Some x)
  id_at xs id x e = elim (id == 0) as (λ b. (id == 0) ≡ b → cond b None (slice_get xs (id - 1)) ≡ Some x → (1 ≤ id) × (slice_get xs (id - 1) ≡ Some x)) [ true ↦ λ z h. cc | false ↦ λ z h. (positive id z, h) ] refl e

  id_in : (xs : List X) (id : ℕ) (x : X) → with_id xs id ≡ Some x → IsIn (id, x) (enumerate_from 1 xs)
  id_in xs id x e = let r = id_at xs id x e in enumerated_in 1 xs (id - 1) id x (let h = r.0 in omega arith) r.1

  place_in : (xs : List X) (j : ℕ) (x : X) → slice_get xs j ≡ Some x → IsIn x xs
  place_in [] j x h = cc
  place_in (y ∷ ys) zero x h = inl (the_some h)
  place_in (y ∷ ys) (suc j) x h = inr (place_in ys j x h)

  pub with_id_in : (xs : List X) (id : ℕ) (x : X) → with_id xs id ≡ Some x → IsIn x xs
  with_id_in xs id x e = place_in xs (id - 1) x (id_at xs id x e).1

module _ {X Y : Type 0} (f : X → List Y) where
  flat_in : (xs : List X) (x : X) (y : Y) → IsIn x xs → IsIn y (f x) → IsIn y (flat_map f xs)
  flat_in [] x y i j = absurd i
  flat_in (z ∷ zs) x y (inl e) j = in_more (f z) (flat_map f zs) y (subst (λ w. IsIn y (f w)) (sym e) j)
  flat_in (z ∷ zs) x y (inr i) j = in_behind (f z) (flat_map f zs) y (flat_in zs x y i j)

  in_flat : (xs : List X) (y : Y) → IsIn y (flat_map f xs) → (x : X) × IsIn x xs × IsIn y (f x)
  in_flat [] y i = absurd i
  in_flat (x ∷ xs) y i = by (in_either (f x) (flat_map f xs) y i) (in_flat xs y)
    where
      by : IsIn y (f x) ⊎ IsIn y (flat_map f xs) → (IsIn y (flat_map f xs) → (z : X) × IsIn z xs × IsIn y (f z)) → (z : X) × IsIn z (x ∷ xs) × IsIn y (f z)
      by (inl j) rest = (x, inl refl, j)
      by (inr j) rest = let r = rest j in (r.0, inr r.1, r.2)

an_endpoint : (e : Endpoint) → IsIn e all_endpoints
an_endpoint endpoint.PublishNew = inl refl
an_endpoint endpoint.PublishUpdate = inr (inl refl)
an_endpoint endpoint.Yank = inr (inr (inl refl))
an_endpoint endpoint.ChangeOwners = inr (inr (inr (inl refl)))

abbrev listed : Registry → Text → ℕ × Token → List (ℕ × Endpoint)
listed s n t = map (λ e. (t.0, e)) (filter (is_granted s n t.1) all_endpoints)

-- a pair of an id and an endpoint is listed where there is a token of that id, and it may use it
pub grant_listed : (s : Registry) (n : Text) (id : ℕ) (e : Endpoint) (t : Token) → with_id s.tokens id ≡ Some t → is_granted s n t e ≡ true → IsIn (id, e) (grants s n)
unfolding grants
grant_listed s n id e t at h = flat_in (listed s n) (enumerate_from 1 s.tokens) (id, t) (id, e) (id_in s.tokens id t at) (in_map (λ e. (id, e)) (filter (is_granted s n t) all_endpoints) e (filter_in (is_granted s n t) all_endpoints e (an_endpoint e) h))

pub listed_grant : (s : Registry) (n : Text) (id : ℕ) (e : Endpoint) → IsIn (id, e) (grants s n) → (t : Token) × (with_id s.tokens id ≡ Some t) × (is_granted s n t e ≡ true)
unfolding grants
listed_grant s n id e i =
    let r = in_flat (listed s n) (enumerate_from 1 s.tokens) (id, e) i in
    let t = r.0 in
    let m = map_in (λ e. (t.0, e)) (filter (is_granted s n t.1) all_endpoints) (id, e) r.2 in
    let same_id : t.0 ≡ id = ap (λ o. o.0) m.2 in
    let same : m.0 ≡ e = ap (λ o. o.1) m.2 in
    let place = in_enumerated 1 s.tokens t.0 t.1 r.1 in
    (t.1, ap (with_id s.tokens) (sym same_id) ∙ at_id s.tokens t.0 t.1 place.0 place.1, ap (is_granted s n t.1) (sym same) ∙ filtered_passes (is_granted s n t.1) all_endpoints m.0 m.1)
