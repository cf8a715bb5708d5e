-- The highest version of a crate, of its versions as they are read.
use Rattle.reg_reference_lists.proofs.Words.{◌≡◌, ℕ, zero, suc, List, [], ◌∷◌, Option, Some, None, refl, sym, ◌∙◌, ap, subst, Bor, slice_get}
use Rattle.reg_reference_lists.proofs.Words.{string_bytes, option_map, filter, collides, canon, parts_of, Text, mark_cmp, publication_of}
use Rattle.reg_reference_lists.proofs.Words.{top_in, versions_in, Publication}
use Rattle.std.specs.Prelude.{map}
use Rattle.std.specs.Option.{option_and_then}
use Rattle.std.specs.FinSet as finset
use Rattle.reg_versions.specs.Precedence.{IsTop, Marked, top_place}
use Rattle.reg_versions.proofs.TopPlace.{top_is_top}
use Rattle.reg_model.specs.Registry as model
use Rattle.reg_reference_lists.proofs.PublicationViews.{filter_of_map, map_map}

got_map : {X Y : Type 0} (f : X → Y) (k : ℕ) (xs : List X) → slice_get (map f xs) k ≡ option_map f (slice_get xs k)
got_map f k [] = refl
got_map f zero (x ∷ xs) = refl
got_map f (suc k) (x ∷ xs) = got_map f k xs

-- a version as it is read, with its mark
abbrev pub read : finset.FinSet mark_cmp → Text → Text → Marked
read yanked c v = (parts_of v, finset.contains yanked (c, v))

abbrev pub read_of : finset.FinSet mark_cmp → Text → Bor Publication → Marked
read_of yanked c p = read yanked c (string_bytes p.now.version)

module _ (yanked : finset.FinSet mark_cmp) (ps : List Publication) (n : Text) (found : List (Bor Publication)) (releases : List Marked) (these : map (λ p. p.now) found ≡ filter (λ p. collides p.name n) ps) (c : Text) (of : c ≡ canon n) (are : releases ≡ map (read_of yanked c) found) where
  abbrev vs : List model.Publication
  vs = versions_in (map publication_of ps) n

  listed : map (λ p. publication_of p.now) found ≡ vs
  listed = sym (map_map publication_of (λ p. p.now) found) ∙ ap (map publication_of) these ∙ sym (filter_of_map (λ p. collides p.name n) publication_of ps)

  same : releases ≡ map (λ p. read yanked (canon n) p.version) vs
  same = are ∙ ap (λ d. map (read_of yanked d) found) of ∙ sym (map_map (λ p. read yanked (canon n) p.version) (λ p. publication_of p.now) found) ∙ ap (map (λ p. read yanked (canon n) p.version)) listed

  pub top_found : (place : ℕ) → IsTop releases place → option_map (λ p. publication_of p.now) (slice_get found place) ≡ top_in yanked (map publication_of ps) n
  top_found place is =
      let P : List Marked → Type 0 = λ l. IsTop l place in
      let at = (top_is_top (map (λ p. read yanked (canon n) p.version) vs) place).1 (subst P same is) in
      sym (got_map (λ p. publication_of p.now) place found) ∙ ap (λ l. slice_get l place) listed ∙ ap (option_and_then (slice_get vs)) (sym at)

  pub no_top : releases ≡ [] → None ≡ top_in yanked (map publication_of ps) n
  no_top none = ap (λ l. option_and_then (slice_get vs) (top_place l)) (sym none ∙ same)

pub mapped : {X Y Z : Type 0} (g : Y → Z) (f : X → Y) (o : Option X) → option_map g (option_map f o) ≡ option_map (λ x. g (f x)) o
mapped g f None = refl
mapped g f (Some x) = refl
