-- Canonical texts put in their places.
use Rattle.reg_reference_lists.proofs.Words.{◌≡◌, ℕ, zero, suc, ◌≤◌, List, [], ◌∷◌, ◌++◌, Bool, true, false, cond, Option, Some, None, length}
use Rattle.reg_reference_lists.proofs.Words.{take, drop, refl, sym, ◌∙◌, ap, arith, slice_get, Bor, bytes_eq, option_map, is_eq}
use Rattle.reg_reference_lists.proofs.Words.{nat_list_cmp_total, map-append, Text, holds, text_cmp, text_apart, canon, Publication, canons_in}
use Rattle.reg_reference_lists.proofs.Words.{place_for, publication_of, put_text}
use Rattle.std.specs.Prelude.{map}
use Rattle.std.specs.List.{insert}
use Rattle.std.specs.Ordering.{is_gt}
use Rattle.std.specs.declared.cmp.Ordering.TheVariants.{Less, Equal, Greater}
use Rattle.std.specs.FinMap as finmap
use Rattle.std.specs.FinMap.Entries as entries
use Rattle.std.specs.FinMap.Entries.{by_order}
use Rattle.std.proofs.lemmas.List.{drop-map, take-map}
use Rattle.reg_model.proofs.Canons.{text_agrees}

pub place_within : (t : Text) (us : List Text) → place_for t us ≤ length us
place_within t [] = omega arith
place_within t (u ∷ us) =
    let h = place_within t us in
    elim (is_gt (text_cmp t u)) as (λ b. cond b (suc (place_for t us)) 0 ≤ length (u ∷ us)) [ true ↦ omega arith | false ↦ omega arith ]

-- a text is put where it stands, or is there
pub put_at : (t : Text) (us : List Text) → put_text t us ≡ cond (holds (λ u. bytes_eq u t) (slice_get us (place_for t us))) us (take (place_for t us) us ++ t ∷ drop (place_for t us) us)
put_at t [] = refl
put_at t (u ∷ us) =
    let is = text_agrees t u in
    elim (text_cmp t u) as (λ r. bytes_eq u t ≡ is_eq r → by_order r (t ∷ u ∷ us) (u ∷ us) (u ∷ put_text t us) ≡ cond (holds (λ u. bytes_eq u t) (slice_get (u ∷ us) (cond (is_gt r) (suc (place_for t us)) 0))) (u ∷ us) (take (cond (is_gt r) (suc (place_for t us)) 0) (u ∷ us) ++ t ∷ drop (cond (is_gt r) (suc (place_for t us)) 0) (u ∷ us))) [
      | Less ↦ λ e. ap (λ b. cond b (u ∷ us) (t ∷ u ∷ us)) (sym e)
      | Equal ↦ λ e. ap (λ b. cond b (u ∷ us) (t ∷ u ∷ us)) (sym e)
      | Greater ↦ λ e. ap (λ l. u ∷ l) (put_at t us) ∙ under (holds (λ u. bytes_eq u t) (slice_get us (place_for t us))) u _ _
    ] is
  where
    under : (b : Bool) (u : Text) (xs ys : List Text) → u ∷ cond b xs ys ≡ cond b (u ∷ xs) (u ∷ ys)
    under true u xs ys = refl
    under false u xs ys = refl

holds_mapped : {X Y : Type 0} (p : Y → Bool) (f : X → Y) (o : Option X) → holds p (option_map f o) ≡ holds (λ x. p (f x)) o
holds_mapped p f None = refl
holds_mapped p f (Some x) = refl

got : (k : ℕ) (names : List (Bor Text)) → slice_get (map (λ n. canon n.now) names) k ≡ option_map (λ n. canon n.now) (slice_get names k)
got k [] = refl
got zero (n ∷ ns) = refl
got (suc k) (n ∷ ns) = got k ns

-- names put by their canonical texts
module _ (names : List (Bor Text)) (new : Text) (place : ℕ) (at : place ≡ place_for (canon new) (map (λ n. canon n.now) names)) where
  pub put_there : holds (λ n. bytes_eq (canon n.now) (canon new)) (slice_get names place) ≡ true → map (λ n. canon n.now) names ≡ put_text (canon new) (map (λ n. canon n.now) names)
  put_there h =
      let us = map (λ n. canon n.now) names in
      let is = sym (ap (λ k. holds (λ u. bytes_eq u (canon new)) (slice_get us k)) (sym at) ∙ ap (holds (λ u. bytes_eq u (canon new))) (got place names) ∙ holds_mapped _ (λ n. canon n.now) (slice_get names place) ∙ h) in
      ap (λ b. cond b us (take (place_for (canon new) us) us ++ canon new ∷ drop (place_for (canon new) us) us)) is ∙ sym (put_at (canon new) us)

  pub put_new : (y : Bor Text) → y.now ≡ new → holds (λ n. bytes_eq (canon n.now) (canon new)) (slice_get names place) ≡ false → map (λ n. canon n.now) (insert names place y) ≡ put_text (canon new) (map (λ n. canon n.now) names)
  put_new y same h =
      let us = map (λ n. canon n.now) names in
      let is = sym (ap (λ k. holds (λ u. bytes_eq u (canon new)) (slice_get us k)) (sym at) ∙ ap (holds (λ u. bytes_eq u (canon new))) (got place names) ∙ holds_mapped _ (λ n. canon n.now) (slice_get names place) ∙ h) in
      let front = sym (take-map (λ n. canon n.now) place names) in
      let back = sym (drop-map (λ n. canon n.now) place names) in
      map-append (λ n. canon n.now) (take place names) (y ∷ drop place names)
      ∙ (λ i. front i ++ canon (same i) ∷ back i)
      ∙ ap (λ k. take k us ++ canon new ∷ drop k us) at
      ∙ ap (λ b. cond b us (take (place_for (canon new) us) us ++ canon new ∷ drop (place_for (canon new) us) us)) is ∙ sym (put_at (canon new) us)

keys-put : (t : Text) (es : List (Text × Unit {0})) → map (λ e. e.0) (entries.put text_cmp t (tt {0}) es) ≡ put_text t (map (λ e. e.0) es)
keys-put t [] = refl
keys-put t (e ∷ es) = elim (text_cmp t e.0) as (λ r. map (λ e. e.0) (by_order r ((t, tt {0}) ∷ e ∷ es) ((e.0, tt {0}) ∷ es) (e ∷ entries.put text_cmp t (tt {0}) es)) ≡ by_order r (t ∷ e.0 ∷ map (λ e. e.0) es) (e.0 ∷ map (λ e. e.0) es) (e.0 ∷ put_text t (map (λ e. e.0) es))) [
  | Less ↦ refl
  | Equal ↦ refl
  | Greater ↦ ap (λ l. e.0 ∷ l) (keys-put t es)
]

pub canons_more : (p : Publication) (ps : List Publication) → put_text (canon p.name) (canons_in (map publication_of ps)) ≡ canons_in (map publication_of (p ∷ ps))
canons_more p ps =
    let m = finmap.from_entries {R = text_cmp} (map (λ p. (canon p.name, tt {0})) (map publication_of ps)) in
    sym (ap (map (λ e. e.0)) (finmap.entries-insert nat_list_cmp_total m (canon p.name) (tt {0})) ∙ keys-put (canon p.name) (finmap.entries m))

pub canons_none : [] ≡ canons_in []
canons_none =
    let m = finmap.empty {K = Text} {X = Unit {0}} {R = text_cmp} in
    ap (map (λ e. e.0)) (entries.same_entries text_cmp nat_list_cmp_total text_apart [] (finmap.entries m) tt (finmap.entries_sorted m) (λ q. sym (sym (finmap.get-entries m q) ∙ finmap.get-empty text_cmp q)))

pub no_length : {X : Type 0} (xs : List X) → length xs ≡ 0 → xs ≡ []
no_length [] e = refl
no_length (x ∷ xs) e = absurd (omega arith)
