-- Lines, one behind another.
use Rattle.reg_service_commands.proofs.Words.{◌≡◌, ℕ, suc, ◌+◌, ◌<◌, List, [], ◌∷◌, ◌++◌, length, take, drop, get_or, Some, refl, sym, ap}
use Rattle.reg_service_commands.proofs.Words.{subst, ◌∙◌, arith, slice_get, enumerate_from, flat_map, flat_map-append, take_more}
use Rattle.std.proofs.Math.Seq.{drop-cons}
use Rattle.std.proofs.lemmas.List.{flat_map_more}

pub next_line : {X : Type 0} (f : X → List ℕ) (before : List ℕ) (xs : List X) (i : ℕ) (x : X) (old new : List ℕ) → i < length xs → x ≡ get_or xs i x → new ≡ old ++ f x → old ≡ before ++ flat_map f (take i xs) → new ≡ before ++ flat_map f (take (i + 1) xs)
next_line f before xs i x old new lt is pushed told =
    pushed ∙ ap (λ l. l ++ f x) told ∙ flat_map_more f before (take i xs) x ∙ ap (λ l. before ++ flat_map f l) (ap (λ y. take i xs ++ y ∷ []) is ∙ sym (take_more xs i x lt))

pub front_of : {X : Type 0} (xs : List X) (i : ℕ) (x : X) → i < length xs → x ≡ get_or xs i x → drop i xs ≡ x ∷ drop (i + 1) xs
front_of xs i x lt is =
    let e : suc i ≡ i + 1 = omega arith in
    drop-cons xs i x lt ∙ (λ j. sym is j ∷ drop (e j) xs)

pub flat_flat : {X Y Z : Type 0} (g : Y → List Z) (f : X → List Y) (xs : List X) → flat_map g (flat_map f xs) ≡ flat_map (λ x. flat_map g (f x)) xs
flat_flat g f [] = refl
flat_flat g f (x ∷ xs) = flat_map-append g (f x) (flat_map f xs) ∙ ap (λ l. flat_map g (f x) ++ l) (flat_flat g f xs)

-- of elements behind their places, what is the same of each
pub same_entries : {X Y : Type 0} (f g : ℕ × X → List Y) (n : ℕ) (xs : List X) → ((k : ℕ) (x : X) → slice_get xs k ≡ Some x → f (n + k, x) ≡ g (n + k, x)) → flat_map f (enumerate_from n xs) ≡ flat_map g (enumerate_from n xs)
same_entries f g n [] same = refl
same_entries f g n (x ∷ xs) same =
    let e : n + 0 ≡ n = omega arith in
    let here : f (n, x) ≡ g (n, x) = subst (λ m. f (m, x) ≡ g (m, x)) e (same 0 x refl) in
    let rest = same_entries f g (n + 1) xs (λ k y at. let d : n + suc k ≡ (n + 1) + k = omega arith in subst (λ m. f (m, y) ≡ g (m, y)) d (same (suc k) y at)) in
    λ i. here i ++ rest i
