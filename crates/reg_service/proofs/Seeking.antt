-- From what is found to the reply to a search.
use Rattle.std.proofs.Common.{◌≡◌, ◌++◌, ◌+◌, ◌<◌, ◌≤◌, inl, inr, refl, sym, ap, subst, ◌∙◌, ℕ, List, [], ◌∷◌, get_or, length, map, take}
use Rattle.std.proofs.lemmas.List.{map-append, take_all, take_more}
use Rattle.reg_model.specs.Events as model
use Rattle.reg_search.specs.Rows.{hit_of}
use Rattle.reg_search.specs.declared.hit.Hit.{Hit}

-- one more crate in the body
pub push_one : (hits items : List Hit) (i : ℕ) (hit : Hit) (old new : List model.Hit) → items ≡ hits → i < length items
    → hit ≡ get_or items i hit → old ≡ map hit_of (take i hits) → new ≡ old ++ hit_of hit ∷ [] → new ≡ map hit_of (take (i + 1) hits)
push_one hits items i hit old new same lt is so more =
    let some = ap (λ l. l ++ hit_of hit ∷ []) so in
    let at = ap (λ x. take i hits ++ x ∷ []) (is ∙ ap (λ l. get_or l i hit) same) in
    let next = take_more hits i hit (subst (λ l. i < length l) same lt) in
    more ∙ some ∙ sym (map-append hit_of (take i hits) (hit ∷ [])) ∙ ap (map hit_of) (at ∙ sym next)

pub all_pushed : (hits items : List Hit) (i : ℕ) (body : List model.Hit) → items ≡ hits → length items ≤ i → body ≡ map hit_of (take i hits) → body ≡ map hit_of hits
all_pushed hits items i body same le so = so ∙ ap (map hit_of) (take_all i hits (subst (λ l. length l ≤ i) same le))
