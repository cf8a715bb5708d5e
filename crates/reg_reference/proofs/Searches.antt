-- What is found, by names of the crates in place of their canonical texts.
use Rattle.reg_reference.proofs.Words.{◌≡◌, ℕ, List, [], ◌∷◌, Bool, cond, Option, take, refl, sym, ◌∙◌, ap, Bor, ◌&&◌, slice_get}
use Rattle.reg_reference.proofs.Words.{unwrap_or, bytes_eq, filter, find, option_and_then, option_map, length-map, canon, top_place}
use Rattle.reg_reference.proofs.Words.{parts_of, Text, Registry, canons, sees, hit, occurs, canon-canon}
use Rattle.std.specs.Prelude.{length, map, None}
use Rattle.std.specs.FinSet as finset
use Rattle.std.proofs.lemmas.List.{take-map}
use Rattle.reg_model.specs.Events.{Hit}
use Rattle.reg_model.specs.Search.{found, matches, top}
use Rattle.reg_model.proofs.Seen.{sees_alike}
use Rattle.reg_reference_lists.proofs.PublicationViews.{filter_of_map, map_map}

map_same : {X Y : Type 0} (f g : X → Y) → ((x : X) → f x ≡ g x) → (xs : List X) → map f xs ≡ map g xs
map_same f g same [] = refl
map_same f g same (x ∷ xs) = λ i. same x i ∷ map_same f g same xs i

filter_same : {X : Type 0} (p q : X → Bool) → ((x : X) → p x ≡ q x) → (xs : List X) → filter p xs ≡ filter q xs
filter_same p q same [] = refl
filter_same p q same (x ∷ xs) = λ i. cond (same x i) (x ∷ filter_same p q same xs i) (filter_same p q same xs i)

-- what is shown of a crate is that of its canonical text
abbrev hit_at : Registry → Text → Hit
hit_at s c =
    let ps = filter (λ p. bytes_eq (canon p.name) c) s.publications in
    let highest = option_and_then (slice_get ps) (top_place (map (λ p. (parts_of p.version, finset.contains s.yanked (c, p.version))) ps)) in
    record {
      name = unwrap_or (option_map (λ p. p.name) (find (λ p. bytes_eq (canon p.name) c) s.publications)) [];
      version = unwrap_or (option_map (λ p. p.version) highest) [];
      description = unwrap_or (option_map (λ p. p.description) highest) None;
    }

hit_canon : (s : Registry) (n : Text) → hit s (canon n) ≡ hit s n
unfolding top
hit_canon s n = ap (hit_at s) (canon-canon n)

pub found_told : (s : Registry) (who : Option ℕ) (q query : Text) (most : ℕ) (ns ms : List (Bor Text)) → map (λ n. canon n.now) ns ≡ canons s → query ≡ canon q
    → map (λ n. n.now) ms ≡ filter (λ n. sees s who n && occurs query (canon n)) (map (λ n. n.now) ns)
    → found s who q most ≡ record { total = length ms; crates = map (λ n. hit s n.now) (take most ms) }
unfolding found matches
found_told s who q query most ns ms are of these =
    let P : Text → Bool = λ c. sees s who c && occurs (canon q) c in
    let listed : filter P (canons s) ≡ map canon (map (λ n. n.now) ms) =
    ap (filter P) (sym are ∙ sym (map_map canon (λ n. n.now) ns))
    ∙ filter_of_map P canon (map (λ n. n.now) ns)
    ∙ ap (map canon) (filter_same (λ n. P (canon n)) (λ n. sees s who n && occurs query (canon n)) (λ n i. sees_alike s who (canon n) n (canon-canon n) i && occurs (sym of i) (canon n)) (map (λ n. n.now) ns) ∙ sym these) in
    let count = ap length listed ∙ length-map (map (λ n. n.now) ms) canon ∙ length-map ms (λ n. n.now) in
    let shown =
    ap (λ l. map (hit s) (take most l)) (listed ∙ map_map canon (λ n. n.now) ms)
    ∙ ap (map (hit s)) (take-map (λ n. canon n.now) most ms) ∙ map_map (hit s) (λ n. canon n.now) (take most ms)
    ∙ map_same _ (λ n. hit s n.now) (λ n. hit_canon s n.now) (take most ms) in
    λ i. record { total = count i; crates = shown i }
