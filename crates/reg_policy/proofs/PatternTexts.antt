-- Texts read as patterns, one after another.
use Rattle.std.proofs.Common.{◌≡◌, ℕ, ◌+◌, ◌<◌, Bool, true, false, cond, Some, None, List, [], ◌∷◌, ◌++◌, length, take, get_or, refl, ◌∙◌, ap, sym}
use Rattle.std.specs.Borrow.{Bor}
use Rattle.std.specs.Prelude.{map, if◌then◌else◌}
use Rattle.std.specs.List.{list_all}
use Rattle.std.proofs.lemmas.Bool.{and_from}
use Rattle.std.proofs.lemmas.List.{map-append, take_more}
use Rattle.std.proofs.lemmas.List.Folds.{list_all-append, list_all_at}
use Rattle.std.proofs.lemmas.Option.{cond_some}
use Rattle.reg_names.specs.Patterns.{is_pattern, pattern_of}
use Rattle.reg_policy.proofs.Lists.{list_all_map}

-- one more element of a mapped list
pub map_more : {X Y : Type 0} (f : X → Y) (xs : List X) (k : ℕ) (d : X) → k < length xs → map f (take (k + 1) xs) ≡ map f (take k xs) ++ f (get_or xs k d) ∷ []
map_more f xs k d h = ap (map f) (take_more xs k d h) ∙ map-append f (take k xs) (get_or xs k d ∷ [])

cond_none : {X : Type 0} (b : Bool) (x : X) → None ≡ cond b (Some x) None → b ≡ false
cond_none true x e = cc
cond_none false x e = refl

-- a text that is no pattern, among texts
pub text_is_none : (texts : List (Bor (List ℕ))) (k : ℕ) (d : Bor (List ℕ)) → k < length texts → None ≡ pattern_of (get_or texts k d).now → None ≡ (if list_all is_pattern (map (λ t. t.now) texts) then Some (map (λ t. t.now) texts) else None)
text_is_none texts k d h e =
    let no : is_pattern (get_or texts k d).now ≡ false = cond_none _ _ e in
    let all : list_all is_pattern (map (λ t. t.now) texts) ≡ false = list_all_map is_pattern (λ t. t.now) texts ∙ list_all_at (λ t. is_pattern t.now) texts k d h no in
    rw all refl

-- one more text that is a pattern
pub text_is_pattern : (texts : List (Bor (List ℕ))) (k : ℕ) (d : Bor (List ℕ)) (p : List ℕ) (ps : List (List ℕ)) → k < length texts → Some p ≡ pattern_of (get_or texts k d).now → ps ≡ map (λ t. t.now) (take k texts) → list_all is_pattern (map (λ t. t.now) (take k texts)) ≡ true
    → (ps ++ p ∷ [] ≡ map (λ t. t.now) (take (k + 1) texts)) × (list_all is_pattern (map (λ t. t.now) (take (k + 1) texts)) ≡ true)
text_is_pattern texts k d p ps h e was all =
    let found = cond_some (is_pattern (get_or texts k d).now) (get_or texts k d).now p (sym e) in
    let more = map_more (λ t. t.now) texts k d h in
    (rw (was, ← found.1, more) refl, rw (more, list_all-append) (and_from _ _ all (and_from _ _ found.0 refl)))
