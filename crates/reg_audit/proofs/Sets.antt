-- Sets and maps that are filled from a list, one element after another.
use Rattle.std.proofs.Common.{◌≡◌, ◌<◌, ◌+◌, ℕ, List, [], ◌∷◌, ◌++◌, arith, take, length, get_or, map, Bool, true, false, refl, sym, ap, subst, eqb-true, ◌∙◌, Option, None, Some, inl, inr}
use Rattle.std.specs.Prelude.{cond, if◌then◌else◌, is_some, ◌||◌, ◌==◌}
use Rattle.std.specs.List.{find, list_any, position_from, position_or_len, slice_get}
use Rattle.std.specs.Ordering.{eq_by_cmp, is_eq, nat_cmp}
use Rattle.std.specs.Cmp.{nat_eq_equiv, unsigned_tied}
use Rattle.std.specs.BTreeSet.{BTreeSet, IsFromIterResult, contains}
use Rattle.std.specs.BTreeMap.{BTreeMap, get}
use Rattle.std.specs.Option.{option_map, option_or, unwrap_or}
use Rattle.std.proofs.lemmas.List.{length-take-le, take_more}
use Rattle.std.proofs.lemmas.Bool.{le-ltb, ltb-false}
use Rattle.std.proofs.lemmas.Iterator.Adapters.{position_from-zero}
use Rattle.std.proofs.lemmas.List.Folds.{find_at}
use Rattle.std.proofs.lemmas.Option.{slice_get_cases, slice_get_past}
use Rattle.std.proofs.Math.Dec.{ltb}

module _ {X : Type 0} (f : X → ℕ) where
  member_any : (xs : List X) (q : ℕ) → list_any (eq_by_cmp nat_cmp q) (map f xs) ≡ list_any (λ x. f x == q) xs
  member_any [] q = refl
  member_any (x ∷ xs) q =
      ap (λ b. b || list_any (eq_by_cmp nat_cmp q) (map f xs)) (unsigned_tied q (f x) ∙ nat_eq_equiv.symm q (f x))
      ∙ ap (λ b. (f x == q) || b) (member_any xs q)

  -- a set that is collected from what a list shows
  pub has_each : (xs : List X) (set : BTreeSet ℕ) → IsFromIterResult nat_cmp (map f xs) set → (id : ℕ) → contains nat_cmp set id ≡ list_any (λ x. f x == id) xs
  has_each xs set made id = made.0 id ∙ member_any xs id

pub none_of : {V : Type 0} (o : Option V) → is_some o ≡ false → o ≡ None
none_of None h = refl
none_of (Some v) h = absurd cc

or_none : {X : Type 0} (o : Option X) → option_or o None ≡ o
or_none None = refl
or_none (Some x) = refl

some_first : {V : Type 0} (o p : Option V) → is_some o ≡ true → o ≡ option_or o p
some_first None p h = absurd cc
some_first (Some v) p h = refl

module _ {V : Type 0} (v : V) (o : Option V) where
  put_case : (b : Bool) → (b ≡ true → is_some o ≡ false) → cond b (Some v) o ≡ option_or o (if b then Some v else None)
  put_case true h = sym (ap (λ o. option_or o (Some v)) (none_of o (h refl)))
  put_case false h = sym (or_none o)

  keep_case : (b : Bool) → (b ≡ true → is_some o ≡ true) → o ≡ option_or o (if b then Some v else None)
  keep_case true h = some_first o (Some v) (h refl)
  keep_case false h = sym (or_none o)

module _ {V : Type 0} (old : BTreeMap ℕ V) (key : ℕ) (v : V) where
  pub put_first : (new : BTreeMap ℕ V) → is_some (get nat_cmp old key) ≡ false → ((q : ℕ) → get nat_cmp new q ≡ cond (is_eq (nat_cmp key q)) (Some v) (get nat_cmp old q))
      → (id : ℕ) → get nat_cmp new id ≡ option_or (get nat_cmp old id) (if key == id then Some v else None)
  put_first new absent up id =
      up id ∙ ap (λ b. cond b (Some v) (get nat_cmp old id)) (unsigned_tied key id)
      ∙ put_case v (get nat_cmp old id) (key == id) (λ e. subst (λ k. is_some (get nat_cmp old k) ≡ false) (eqb-true key id e) absent)

  pub keep_first : is_some (get nat_cmp old key) ≡ true → (id : ℕ) → get nat_cmp old id ≡ option_or (get nat_cmp old id) (if key == id then Some v else None)
  keep_first there id = keep_case v (get nat_cmp old id) (key == id) (λ e. subst (λ k. is_some (get nat_cmp old k) ≡ true) (eqb-true key id e) there)

module _ {X : Type 0} (p : X → Bool) where
  -- the first place, with one element more
  place_more : (xs : List X) (from : ℕ) (x : X) → position_from p from (xs ++ x ∷ []) ≡ option_or (position_from p from xs) (if p x then Some (from + length xs) else None)
  place_more [] from x = let same : from ≡ from + 0 = omega arith in ap (λ n. cond (p x) (Some n) None) same
  place_more (y ∷ ys) from x = more (p y) (place_more ys (from + 1) x)
    where
      more : (b : Bool) → position_from p (from + 1) (ys ++ x ∷ []) ≡ option_or (position_from p (from + 1) ys) (if p x then Some ((from + 1) + length ys) else None)
          → cond b (Some from) (position_from p (from + 1) (ys ++ x ∷ [])) ≡ option_or (cond b (Some from) (position_from p (from + 1) ys)) (if p x then Some (from + length (y ∷ ys)) else None)
      more true h = refl
      more false h =
          let same : (from + 1) + length ys ≡ from + length (y ∷ ys) = omega arith in
          h ∙ ap (λ n. option_or (position_from p (from + 1) ys) (if p x then Some n else None)) same

pub place_step : {X : Type 0} (f : X → ℕ) (xs : List X) (i : ℕ) (x : X) (id : ℕ) (old new : Option ℕ) → i < length xs → x ≡ get_or xs i x → new ≡ option_or old (if f x == id then Some i else None)
    → old ≡ position_from (λ c. f c == id) 0 (take i xs) → new ≡ position_from (λ c. f c == id) 0 (take (i + 1) xs)
place_step {X} f xs i x id old new within is one before =
    let test : X → Bool = λ c. f c == id in
    let i_is : i ≡ 0 + length (take i xs) = omega (arith, length-take-le i xs (omega (arith, within))) in
    one ∙ ap (λ o. option_or o (if test x then Some i else None)) before
    ∙ ap (λ n. option_or (position_from test 0 (take i xs)) (if test x then Some n else None)) i_is
    ∙ sym (place_more test (take i xs) 0 x) ∙ ap (λ y. position_from test 0 (take i xs ++ y ∷ [])) is ∙ ap (position_from test 0) (sym (take_more xs i x within))

module _ {X : Type 0} (p : X → Bool) (xs : List X) where
  -- what stands at the first place is the first that passes
  pub found_at : (k : ℕ) → position_from p 0 xs ≡ Some k → slice_get xs k ≡ find p xs
  found_at k h = go (ltb (position_or_len p xs) (length xs)) (position_from-zero p xs ∙ h)
    where
      go : (b : Bool) → cond b (Some (position_or_len p xs)) None ≡ Some k → slice_get xs k ≡ find p xs
      go true same =
          let at : position_or_len p xs ≡ k = cc in
          ap (slice_get xs) (sym at) ∙ sym (find_at p xs)
      go false same = absurd cc

  pub found_nowhere : position_from p 0 xs ≡ None → find p xs ≡ None
  found_nowhere h = go (ltb (position_or_len p xs) (length xs)) refl (position_from-zero p xs ∙ h)
    where
      go : (b : Bool) → ltb (position_or_len p xs) (length xs) ≡ b → cond b (Some (position_or_len p xs)) None ≡ None → find p xs ≡ None
      go true past same = absurd cc
      go false past same = find_at p xs ∙ slice_get_past xs (position_or_len p xs) (ltb-false (position_or_len p xs) (length xs) past)

-- a reference to what stands at a place
pub at_place : {R X : Type 0} (now : R → X) (xs : List X) (k : ℕ) (r : Option R) → is_some r ≡ ltb k (length xs) → ((d : X) → unwrap_or (option_map now r) d ≡ get_or xs k d) → option_map now r ≡ slice_get xs k
at_place now xs k None there same = sym (slice_get_past xs k (ltb-false k (length xs) (sym there)))
at_place now xs k (Some x) there same = elim (slice_get_cases xs k).1 [
  | inl here ↦ ap Some (same here.0 ∙ here.3) ∙ sym here.2
  | inr past ↦ absurd (no_rest (ltb k (length xs)) (le-ltb k (length xs) past.0) (sym there))
]
  where
    no_rest : (b : Bool) → b ≡ false → b ≡ true → ⊥
    no_rest b e f = absurd cc
