-- Sets with pairs as keys.
use Rattle.reg_model.proofs.Words.{◌≡◌, Bool, true, false, refl, sym, ◌∙◌, ap, ◌||◌, on, eq_by_cmp, is_eq, Ordering, IsTotalOrder, Equal-is}
use Rattle.reg_model.proofs.Words.{tied_itself, nat_list_cmp_total, IsAntisymmetric, text_cmp, owner_cmp, mark_cmp}
use Rattle.std.specs.Ordering.{then_cmp, ordering_then}
use Rattle.std.specs.declared.cmp.Ordering.TheVariants.{Less, Equal, Greater}
use Rattle.std.specs.Cmp.{on_total, then_total, nat_cmp_total, tied_back}
use Rattle.std.specs.FinSet as set
use Rattle.std.specs.FinSet.{nat_cmp-IsAntisymmetric, slice_cmp-IsAntisymmetric}

-- pairs, by their first parts and then by their second
abbrev pair_cmp : {A B : Type 0} → (A → A → Ordering) → (B → B → Ordering) → (A × B) → (A × B) → Ordering
pair_cmp R S = then_cmp (on (λ p. p.0) R) (on (λ p. p.1) S)

pub pair_total : {A B : Type 0} (R : A → A → Ordering) (S : B → B → Ordering) → IsTotalOrder R → IsTotalOrder S → IsTotalOrder (pair_cmp R S)
pair_total R S r s = then_total (on_total (λ p. p.0) r) (on_total (λ p. p.1) s)

both : (a b : Ordering) → ordering_then a b ≡ Equal → (a ≡ Equal) × (b ≡ Equal)
both Less b e = cc
both Equal b e = (refl, e)
both Greater b e = cc

pub pair_apart : {A B : Type 0} (R : A → A → Ordering) (S : B → B → Ordering) → IsAntisymmetric R → IsAntisymmetric S → IsAntisymmetric (pair_cmp R S)
pair_apart R S r s p q e = let h = both (R p.0 q.0) (S p.1 q.1) e in λ i. (r p.0 q.0 h.0 i, s p.1 q.1 h.1 i)

pub text_apart : IsAntisymmetric text_cmp
text_apart = slice_cmp-IsAntisymmetric nat_cmp-IsAntisymmetric

pub owner_total : IsTotalOrder owner_cmp
owner_total = pair_total _ _ nat_list_cmp_total nat_cmp_total

pub owner_apart : IsAntisymmetric owner_cmp
owner_apart = pair_apart _ _ text_apart nat_cmp-IsAntisymmetric

pub mark_total : IsTotalOrder mark_cmp
mark_total = pair_total _ _ nat_list_cmp_total nat_list_cmp_total

pub mark_apart : IsAntisymmetric mark_cmp
mark_apart = pair_apart _ _ text_apart text_apart

true_or : (a b : Bool) → (a ≡ true → b ≡ true) → (a || b) ≡ b
true_or true b h = sym (h refl)
true_or false b h = refl

-- For any set: what is there already adds nothing.
pub insert_again : {K : Type 0} {R : K → K → Ordering} → IsTotalOrder R → IsAntisymmetric R → (s : set.FinSet R) (k : K) → set.contains s k ≡ true → set.insert s k ≡ s
insert_again {R = R} o apart s k there = set.same_set o apart _ _ (λ q. set.contains-insert o s k q ∙ true_or _ _ (λ tied. set.contains_tied o s k q (tied_back o q k ((Equal-is (R q k)).0 tied)) ∙ there))

-- keys that tie are equal
pub same_key : {K : Type 0} {R : K → K → Ordering} → IsAntisymmetric R → (q k : K) → eq_by_cmp R q k ≡ true → q ≡ k
same_key {R = R} apart q k tied = apart q k ((Equal-is (R q k)).0 tied)

pub ties_itself : {K : Type 0} {R : K → K → Ordering} → IsTotalOrder R → (q : K) → eq_by_cmp R q q ≡ true
ties_itself o q = ap is_eq (tied_itself o q)
