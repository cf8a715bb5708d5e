-- Accounts, tokens and texts, one after another: what is found, where, what passes, what is changed.
use Rattle.std.proofs.Common.{◌≡◌, ℕ, zero, suc, ◌+◌, ◌-◌, ◌<◌, ◌≤◌, ◌==◌, Bool, true, false, cond, Option, Some, None, List, [], ◌∷◌, ◌++◌, length, take, set, get_or, refl, ◌∙◌, ap, sym, subst, append-nil, arith}
use Rattle.std.proofs.Math.Dec.{ltb}
use Rattle.std.specs.Prelude.{map}
use Rattle.std.specs.Option.{option_map}
use Rattle.std.specs.List.{enumerate_from, filter, filter_map, find, position, position_from}
use Rattle.std.proofs.lemmas.Bool.Decides.{nat_tests}
use Rattle.std.proofs.lemmas.Iterator.Adapters.{position_from-zero}
use Rattle.std.proofs.lemmas.List.{length-map, length-take, map-append}
use Rattle.std.proofs.lemmas.List.Elements.{filter-append}
use Rattle.reg_model.specs.Registry.{change_at, change_place}
use Rattle.reg_policy.proofs.PatternTexts.{map_more}

pub find_map : {X Y : Type 0} (p : Y → Bool) (f : X → Y) (xs : List X) → find p (map f xs) ≡ option_map f (find (λ x. p (f x)) xs)
find_map p f [] = refl
find_map p f (x ∷ xs) = elim (p (f x)) as (λ b. cond b (Some (f x)) (find p (map f xs)) ≡ option_map f (cond b (Some x) (find (λ x. p (f x)) xs))) [ true ↦ refl | false ↦ find_map p f xs ]

position_map : {X Y : Type 0} (p : Y → Bool) (f : X → Y) (k : ℕ) (xs : List X) → position_from p k (map f xs) ≡ position_from (λ x. p (f x)) k xs
position_map p f k [] = refl
position_map p f k (x ∷ xs) = ap (cond (p (f x)) (Some k)) (position_map p f (k + 1) xs)

position_next : {X : Type 0} (p : X → Bool) (k : ℕ) (xs : List X) → position_from p (k + 1) xs ≡ option_map (λ i. i + 1) (position_from p k xs)
position_next p k [] = refl
position_next p k (x ∷ xs) = elim (p x) as (λ b. cond b (Some (k + 1)) (position_from p (k + 1 + 1) xs) ≡ option_map (λ i. i + 1) (cond b (Some k) (position_from p (k + 1) xs))) [ true ↦ refl | false ↦ position_next p (k + 1) xs ]

-- places from 1 on are one more than places from 0 on
pub place_map : {X Y : Type 0} (p : Y → Bool) (f : X → Y) (xs : List X) → position_from p 1 (map f xs) ≡ option_map (λ i. i + 1) (position (λ x. p (f x)) xs)
place_map p f xs = position_map p f 1 xs ∙ (position_next (λ x. p (f x)) 0 xs ∙ ap (option_map (λ i. i + 1)) (sym (position_from-zero (λ x. p (f x)) xs)))

-- what is found in a mapped list is what was found in the list, mapped; v reads it
pub found_map : {B X Y : Type 0} (p : Y → Bool) (f : X → Y) (v : B → X) (o : Option B) (xs : List X) → option_map v o ≡ find (λ x. p (f x)) xs → option_map (λ b. f (v b)) o ≡ find p (map f xs)
found_map p f v None xs e = ap (option_map f) e ∙ sym (find_map p f xs)
found_map p f v (Some b) xs e = ap (option_map f) e ∙ sym (find_map p f xs)

-- a change of one element, and none past the end
changed : {X Y : Type 0} (g : X → Y) (f : Y → Y) (i : ℕ) (xs : List X) (y d : X) → i < length xs → g y ≡ f (g (get_or xs i d)) → map g (set xs i y) ≡ change_place f i (map g xs)
changed g f i [] y d h e = absurd (omega arith)
changed g f zero (x ∷ xs) y d h e = ap (λ z. z ∷ map g xs) e
changed g f (suc i) (x ∷ xs) y d h e = ap (λ zs. g x ∷ zs) (changed g f i xs y d (omega arith) e)

unchanged : {X Y : Type 0} (g : X → Y) (f : Y → Y) (i : ℕ) (xs : List X) → length xs ≤ i → map g xs ≡ change_place f i (map g xs)
unchanged g f i [] h = refl
unchanged g f zero (x ∷ xs) h = absurd (omega arith)
unchanged g f (suc i) (x ∷ xs) h = ap (λ zs. g x ∷ zs) (unchanged g f i xs (omega arith))

at_id : {Y : Type 0} (f : Y → Y) (id : ℕ) (ys : List Y) → (id ≡ 0 → ⊥) → change_place f (id - 1) ys ≡ change_at f id ys
at_id f id ys h = let e : (id == 0) ≡ false = grind (arith, nat_tests) in rw e refl

pub changed_at : {X Y : Type 0} (g : X → Y) (f : Y → Y) (id : ℕ) (xs : List X) (y d : X) → (id ≡ 0 → ⊥) → id - 1 < length xs → g y ≡ f (g (get_or xs (id - 1) d)) → map g (set xs (id - 1) y) ≡ change_at f id (map g xs)
changed_at g f id xs y d z h e = changed g f (id - 1) xs y d h e ∙ at_id f id (map g xs) z

not_below : (a b : ℕ) → false ≡ ltb a b → b ≤ a
not_below a b e = grind (arith, nat_tests)

pub unchanged_at : {X Y : Type 0} (g : X → Y) (f : Y → Y) (id : ℕ) (xs : List X) → (id ≡ 0 → ⊥) → false ≡ ltb (id - 1) (length xs) → map g xs ≡ change_at f id (map g xs)
unchanged_at g f id xs z e = unchanged g f (id - 1) xs (not_below _ _ e) ∙ at_id f id (map g xs) z

pub filter_map_map : {X Y Z : Type 0} (h : Y → Option Z) (f : X → Y) (xs : List X) → filter_map h (map f xs) ≡ filter_map (λ x. h (f x)) xs
filter_map_map h f [] = refl
filter_map_map h f (x ∷ xs) = rw (filter_map_map h f xs) refl

enumerate_push : {Y : Type 0} (n : ℕ) (ys : List Y) (y : Y) → enumerate_from n (ys ++ y ∷ []) ≡ enumerate_from n ys ++ (n + length ys, y) ∷ []
enumerate_push n [] y = let e : n ≡ n + 0 = omega arith in ap (λ k. (k, y) ∷ []) e
enumerate_push n (x ∷ ys) y =
    let e : (n + 1) + length ys ≡ n + suc (length ys) = omega arith in
    ap (λ zs. (n, x) ∷ zs) (enumerate_push (n + 1) ys y ∙ ap (λ k. enumerate_from (n + 1) ys ++ (k, y) ∷ []) e)

-- those of a list whose places from 1 on pass, as v shows them
abbrev pub passed : {X Y V : Type 0} → (ℕ → Bool) → (X → Y) → (ℕ × Y → V) → List X → List V
passed p f v xs = map v (filter (λ o. p o.0) (enumerate_from 1 (map f xs)))

module _ {X Y V R : Type 0} (p : ℕ → Bool) (f : X → Y) (v : ℕ × Y → V) (w : R → V) where
  last_passed : (k : ℕ) (y : Y) (b : Bool) → p k ≡ b → map v (filter (λ o. p o.0) ((k, y) ∷ [])) ≡ cond b (v (k, y) ∷ []) []
  last_passed k y true e = rw e refl
  last_passed k y false e = rw e refl

  more_passed : (xs : List X) (k : ℕ) (d : X) (b : Bool) → k < length xs → p (k + 1) ≡ b → passed p f v (take (k + 1) xs) ≡ passed p f v (take k xs) ++ cond b (v (k + 1, f (get_or xs k d)) ∷ []) []
  more_passed xs k d b h e =
      let n : 1 + length (map f (take k xs)) ≡ k + 1 = simp (length-map, length-take) (omega arith) in
      let front = enumerate_from 1 (map f (take k xs)) in
      let y = f (get_or xs k d) in
      let step : enumerate_from 1 (map f (take (k + 1) xs)) ≡ front ++ (k + 1, y) ∷ [] = rw (map_more f xs k d h) (enumerate_push 1 (map f (take k xs)) y ∙ ap (λ i. front ++ (i, y) ∷ []) n) in
      rw (step, filter-append (λ o. p o.0) front ((k + 1, y) ∷ []), map-append v (filter (λ o. p o.0) front) (filter (λ o. p o.0) ((k + 1, y) ∷ []))) (ap (λ zs. map v (filter (λ o. p o.0) front) ++ zs) (last_passed (k + 1) y b e))

  -- rows that show those of a list so far, and one more of them or none
  pub one_more : (rows new : List R) (xs : List X) (k id : ℕ) (x : X) (r : R) → k < length xs → id ≡ k → x ≡ get_or xs k x → p (id + 1) ≡ true → w r ≡ v (id + 1, f x) → new ≡ rows ++ r ∷ [] → map w rows ≡ passed p f v (take k xs) → map w new ≡ passed p f v (take (k + 1) xs)
  one_more rows new xs k id x r h at there passes shows pushed before =
      let here : w r ≡ v (k + 1, f (get_or xs k x)) = subst (λ i. w r ≡ v (i + 1, f (get_or xs k x))) at (subst (λ y. w r ≡ v (id + 1, f y)) there shows) in
      let more = more_passed xs k x true h (subst (λ i. p (i + 1) ≡ true) at passes) in
      ap (map w) pushed ∙ (map-append w rows (r ∷ []) ∙ ((λ i. before i ++ here i ∷ []) ∙ sym more))

  pub none_more : (rows new : List R) (xs : List X) (k id : ℕ) (x : X) → k < length xs → id ≡ k → p (id + 1) ≡ false → new ≡ rows → map w rows ≡ passed p f v (take k xs) → map w new ≡ passed p f v (take (k + 1) xs)
  none_more rows new xs k id x h at fails same before =
      let more = more_passed xs k x false h (subst (λ i. p (i + 1) ≡ false) at fails) in
      ap (map w) same ∙ (before ∙ (sym (append-nil _) ∙ sym more))
