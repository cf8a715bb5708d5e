-- What two lists of records have in common, and what each of a list passes.
use Rattle.reg_audit.proofs.Words.{◌≡◌, ◌<◌, ◌+◌, ℕ, List, map, take, length, get_or, Bool, true, false, refl, sym, ap, ◌∙◌, ◌&&◌, list_all}
use Rattle.reg_audit.proofs.Words.{bytes_eq, bytes_eq-Decides}
use Rattle.std.proofs.Common.{◌≤◌}
use Rattle.std.proofs.lemmas.List.{get_or-map, take_all}
use Rattle.std.proofs.lemmas.List.Folds.{list_all_more}

-- the ids of two lists of records
module _ {X Y : Type 0} (f : X → ℕ) (g : Y → ℕ) (xs : List X) (ys : List Y) where
  pub keys_differ : (i : ℕ) (x : X) (y : Y) → i < length xs → i < length ys → (f (get_or xs i x) ≡ g (get_or ys i y) → ⊥) → false ≡ bytes_eq (map f xs) (map g ys)
  keys_differ i x y within too differ = go (bytes_eq (map f xs) (map g ys)) refl
    where
      go : (b : Bool) → bytes_eq (map f xs) (map g ys) ≡ b → false ≡ b
      go false h = refl
      go true h =
          let same : map f xs ≡ map g ys = (bytes_eq-Decides (map f xs) (map g ys)).0 h in
          let at : f (get_or xs i x) ≡ g (get_or ys i y) = sym (get_or-map f xs i x 0 within) ∙ ap (λ l. get_or l i 0) same ∙ get_or-map g ys i y 0 too in
          absurd (differ at)

  pub keys_agree : (i : ℕ) → length xs ≤ i → length ys ≤ i → map f (take i xs) ≡ map g (take i ys) → true ≡ bytes_eq (map f xs) (map g ys)
  keys_agree i all both same =
      let one = ap (map f) (sym (take_all i xs all)) in
      let other = ap (map g) (take_all i ys both) in
      sym ((bytes_eq-Decides (map f xs) (map g ys)).1 (one ∙ same ∙ other))

module _ {X : Type 0} (p : X → Bool) (xs : List X) where
  pub all_more : (i : ℕ) (x : X) → i < length xs → x ≡ get_or xs i x → list_all p (take i xs) ≡ true → p x ≡ true → list_all p (take (i + 1) xs) ≡ true
  all_more i x within is before passes = list_all_more p xs i x within ∙ ap (λ b. b && p (get_or xs i x)) before ∙ ap p (sym is) ∙ passes

  pub all_taken : (i : ℕ) → length xs ≤ i → list_all p (take i xs) ≡ true → true ≡ list_all p xs
  all_taken i all before = sym before ∙ ap (list_all p) (take_all i xs all)
