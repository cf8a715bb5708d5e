-- What passes a test of a list of which one element more is read.
use Rattle.std.proofs.Common.{◌≡◌, ◌<◌, ◌+◌, ℕ, List, [], ◌∷◌, ◌++◌, map, take, length, get_or, Bool, true, false, cond, refl, sym, ap, ◌∙◌}
use Rattle.std.specs.Prelude.{if◌then◌else◌}
use Rattle.std.specs.List.{filter}
use Rattle.std.proofs.lemmas.List.{map-append, take_more}
use Rattle.std.proofs.lemmas.List.Elements.{filter-append}

module _ {X Y : Type 0} (f : X → Y) (p : X → Bool) where
  kept_of : (x : X) (b : Bool) → map f (cond b (x ∷ []) []) ≡ (if b then f x ∷ [] else [])
  kept_of x true = refl
  kept_of x false = refl

  -- what passes of one element more
  pub kept_more : (xs : List X) (i : ℕ) (x : X) → i < length xs → x ≡ get_or xs i x → map f (filter p (take (i + 1) xs)) ≡ map f (filter p (take i xs)) ++ (if p x then f x ∷ [] else [])
  kept_more xs i x within is =
      ap (λ l. map f (filter p l)) (take_more xs i x within ∙ ap (λ y. take i xs ++ y ∷ []) (sym is)) ∙ ap (map f) (filter-append p (take i xs) (x ∷ []))
      ∙ map-append f (filter p (take i xs)) (filter p (x ∷ [])) ∙ ap (λ l. map f (filter p (take i xs)) ++ l) (kept_of x (p x))
