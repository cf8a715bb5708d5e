-- Tests over lists.
use Rattle.reg_model.proofs.Words.{◌≡◌, List, [], ◌∷◌, ◌++◌, Bool, true, false, cond, Some, None, refl, ◌∙◌, ap, ◌||◌, ◌&&◌, is_some}
use Rattle.reg_model.proofs.Words.{list_any, list_all, find, filter, AllByRecursion, option_map, and_parts, and_from, list_any-append}
use Rattle.reg_model.proofs.Words.{list_all-append, holds}
use Rattle.std.specs.Prelude.{map}

pub or_left : (a b : Bool) → a ≡ true → (a || b) ≡ true
or_left true b e = refl
or_left false b e = cc

pub or_right : (a b : Bool) → b ≡ true → (a || b) ≡ true
or_right true b e = refl
or_right false b e = e

pub or_split : {P : Type 0} (a b : Bool) → (a || b) ≡ true → (a ≡ true → P) → (b ≡ true → P) → P
or_split true b e f g = f refl
or_split false b e f g = g e

pub or_none : (a : Bool) → (a || false) ≡ true → a ≡ true
or_none true e = refl
or_none false e = e

pub true_not_false : {P : Type 0} (a : Bool) → a ≡ true → a ≡ false → P
true_not_false a e f = cc

pub not_true : (a : Bool) → (a ≡ true → ⊥) → a ≡ false
not_true true h = absurd (h refl)
not_true false h = refl

pub list_any_map : {X Y : Type 0} (p : Y → Bool) (f : X → Y) (xs : List X) → list_any p (map f xs) ≡ list_any (λ x. p (f x)) xs
list_any_map p f [] = refl
list_any_map p f (x ∷ xs) = ap (λ b. p (f x) || b) (list_any_map p f xs)

pub any_same : {X : Type 0} (p q : X → Bool) → ((x : X) → p x ≡ q x) → (xs : List X) → list_any p xs ≡ list_any q xs
any_same p q same [] = refl
any_same p q same (x ∷ xs) = λ i. same x i || any_same p q same xs i

pub any_filter : {X : Type 0} (p q : X → Bool) (xs : List X) → list_any q (filter p xs) ≡ list_any (λ x. p x && q x) xs
any_filter p q [] = refl
any_filter p q (x ∷ xs) = elim (p x) as (λ b. list_any q (cond b (x ∷ filter p xs) (filter p xs)) ≡ ((b && q x) || list_any (λ x. p x && q x) xs)) [ true ↦ ap (λ b. q x || b) (any_filter p q xs) | false ↦ any_filter p q xs ]

pub none_both : {X : Type 0} (p q : X → Bool) (xs : List X) → list_any p xs ≡ false → list_any (λ x. p x && q x) xs ≡ false
none_both p q [] e = refl
none_both p q (x ∷ xs) e = elim (p x) as (λ b. (b || list_any p xs) ≡ false → ((b && q x) || list_any (λ x. p x && q x) xs) ≡ false) [ true ↦ λ f. cc | false ↦ λ f. none_both p q xs f ] e

pub any_more : {X : Type 0} (p : X → Bool) (xs ys : List X) → list_any p xs ≡ true → list_any p (xs ++ ys) ≡ true
any_more p xs ys e = list_any-append p xs ys ∙ or_left _ _ e

pub any_last : {X : Type 0} (p : X → Bool) (xs : List X) (x : X) → p x ≡ true → list_any p (xs ++ x ∷ []) ≡ true
any_last p xs x e = list_any-append p xs (x ∷ []) ∙ or_right _ _ (or_left _ false e)

pub all_push : {X : Type 0} (p : X → Bool) (xs : List X) (x : X) → list_all p xs ≡ true → p x ≡ true → list_all p (xs ++ x ∷ []) ≡ true
all_push p xs x e f = list_all-append p xs (x ∷ []) ∙ and_from _ _ e (and_from _ _ f refl)

pub all_so : {X : Type 0} (p q : X → Bool) → ((x : X) → p x ≡ true → q x ≡ true) → (xs : List X) → list_all p xs ≡ true → list_all q xs ≡ true
all_so p q so [] e = refl
all_so p q so (x ∷ xs) e = let h = and_parts _ _ e in and_from _ _ (so x h.0) (all_so p q so xs h.1)

pub each_push : {X : Type 0} (P : X → Type 0) (xs : List X) (x : X) → AllByRecursion P xs → P x → AllByRecursion P (xs ++ x ∷ [])
each_push P [] x here h = (h, tt)
each_push P (y ∷ xs) x (py, rest) h = (py, each_push P xs x rest h)

-- what all pass, the one that is found passes
pub found_passes : {X : Type 0} (p q : X → Bool) (xs : List X) → list_all q xs ≡ true → is_some (find p xs) ≡ true → holds q (find p xs) ≡ true
found_passes p q [] all there = cc
found_passes p q (x ∷ xs) all there =
    let h = and_parts (q x) (list_all q xs) all in
    elim (p x) as (λ b. is_some (cond b (Some x) (find p xs)) ≡ true → holds q (cond b (Some x) (find p xs)) ≡ true) [ true ↦ λ f. h.0 | false ↦ λ f. found_passes p q xs h.1 f ] there

pub is_some_find : {X Y : Type 0} (f : X → Y) (p : X → Bool) (xs : List X) → is_some (option_map f (find p xs)) ≡ list_any p xs
is_some_find f p [] = refl
is_some_find f p (x ∷ xs) = elim (p x) as (λ b. is_some (option_map f (cond b (Some x) (find p xs))) ≡ (b || list_any p xs)) [ true ↦ refl | false ↦ is_some_find f p xs ]

pub some_found : {X : Type 0} (p : X → Bool) (xs : List X) → is_some (find p xs) ≡ list_any p xs
some_found p [] = refl
some_found p (x ∷ xs) = elim (p x) as (λ b. is_some (cond b (Some x) (find p xs)) ≡ (b || list_any p xs)) [ true ↦ refl | false ↦ some_found p xs ]

pub none_found : {X : Type 0} (p : X → Bool) (xs : List X) → list_any p xs ≡ false → find p xs ≡ None
none_found p [] e = refl
none_found p (x ∷ xs) e = elim (p x) as (λ b. (b || list_any p xs) ≡ false → cond b (Some x) (find p xs) ≡ None) [ true ↦ λ f. cc | false ↦ λ f. none_found p xs f ] e

-- one that is found is found in a longer list
pub found_more : {X Y : Type 0} (q : Y → Bool) (f : X → Y) (p : X → Bool) (xs ys : List X) → holds q (option_map f (find p xs)) ≡ true → holds q (option_map f (find p (xs ++ ys))) ≡ true
found_more q f p [] ys e = cc
found_more q f p (x ∷ xs) ys e =
    elim (p x) as (λ b. holds q (option_map f (cond b (Some x) (find p xs))) ≡ true → holds q (option_map f (cond b (Some x) (find p (xs ++ ys)))) ≡ true) [
      | true ↦ λ h. h
      | false ↦ λ h. found_more q f p xs ys h
    ] e

-- the first that is found at the end of a list where none was
pub found_last : {X Y : Type 0} (q : Y → Bool) (f : X → Y) (p : X → Bool) (xs : List X) (x : X) → list_any p xs ≡ false → p x ≡ true → q (f x) ≡ true → holds q (option_map f (find p (xs ++ x ∷ []))) ≡ true
found_last q f p [] x none here h = elim (p x) as (λ b. b ≡ true → holds q (option_map f (cond b (Some x) None)) ≡ true) [ true ↦ λ e. h | false ↦ λ e. cc ] here
found_last q f p (y ∷ xs) x none here h =
    elim (p y) as (λ b. (b || list_any p xs) ≡ false → holds q (option_map f (cond b (Some y) (find p (xs ++ x ∷ [])))) ≡ true) [
      | true ↦ λ e. cc
      | false ↦ λ e. found_last q f p xs x e here h
    ] none
