-- Lists of texts that are put in one after another, in ascending order of their keys, are the plain list of them.
use Rattle.std.proofs.Common.{◌≡◌, true, List, ℕ, [], ◌∷◌, Ok, Err, nat_cmp, refl, sym, ap, ◌∙◌}
use Rattle.std.proofs.lemmas.Bool.{and_parts}
use Rattle.std.specs.BTreeMap.{insert_entry}
use Rattle.std.specs.Cmp.Lexicographic.{slice_cmp}
use Rattle.std.specs.Ordering.{is_lt}
use Rattle.serde_json.specs.Data.{Members, no_members, member}
use Rattle.reg_manifest.specs.Parsing.{Parsed, ◌>>=◌}
use Rattle.reg_manifest.specs.Fields.{Features, texts_of, lists_of, lists_onto}
use Rattle.reg_manifest.proofs.Ascending.{all_above, ascending, insert_above}

-- the steps after the first are all that matters
then_same : {A B : Type 0} (r : Parsed A) (f g : A → Parsed B) → ((a : A) → f a ≡ g a) → (r >>= f) ≡ (r >>= g)
then_same (Ok a) f g h = h a
then_same (Err e) f g h = refl

then_then : {A B C : Type 0} (r : Parsed A) (f : A → Parsed B) (g : B → Parsed C) → ((r >>= f) >>= g) ≡ (r >>= λ a. f a >>= g)
then_then (Ok a) f g = refl
then_then (Err e) f g = refl

onto_above : (g : List ℕ × List (List ℕ)) (ms : Members) (found : Features) → all_above g.0 ms ≡ true → lists_onto ms (g ∷ found) ≡ (lists_onto ms found >>= λ fs. Ok (g ∷ fs))
onto_above g no_members found h = refl
onto_above g (member k d ms) found h =
    let a = and_parts (is_lt (slice_cmp nat_cmp g.0 k)) _ h in
    then_same (texts_of d) _ _ (λ vs. ap (lists_onto ms) (insert_above g (k, vs) found a.0) ∙ onto_above g ms (insert_entry (slice_cmp nat_cmp) found k vs) a.1)
    ∙ sym (then_then (texts_of d) (λ vs. lists_onto ms (insert_entry (slice_cmp nat_cmp) found k vs)) (λ fs. Ok (g ∷ fs)))

pub onto_none : (ms : Members) → ascending ms ≡ true → lists_onto ms [] ≡ lists_of ms
onto_none no_members h = refl
onto_none (member k d ms) h =
    let a = and_parts (all_above k ms) _ h in
    then_same (texts_of d) _ _ (λ vs. onto_above (k, vs) ms [] a.0 ∙ ap (λ (r : Parsed Features). r >>= λ fs. Ok ((k, vs) ∷ fs)) (onto_none ms a.1))
