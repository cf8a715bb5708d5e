-- The first rule that facts break is the first that what they stand for breaks.
use Rattle.std.proofs.Common.{◌≡◌, List, [], ◌∷◌, Bool, true, false, cond, Some, refl, sym, ◌∙◌, ap}
use Rattle.std.specs.Prelude.{not}
use Rattle.std.specs.List.{find, filter}
use Rattle.reg_body.specs.declared.limits.Limits.{Limits}
use Rattle.reg_model.specs.Actions.{Action}
use Rattle.reg_model.specs.Facts.{Access, Counts}
use Rattle.reg_model.specs.Rules.{access, breaks, broken, is_access_rule, order, verdict}
use Rattle.reg_model.specs.declared.rule.Rule.{Rule}
use Rattle.reg_model.specs.declared.rule.Rule.TheVariants as rule
use Rattle.reg_policy.specs.declared.action.Facts.{Facts}
use Rattle.reg_policy.specs.Facts.{AreCounted, AreUncounted, access_in, is_broken, spelling_in}

unbroken : (f : Access) (a : Action) (r : Rule) → is_access_rule r ≡ false → breaks f a r ≡ false
unbroken f a rule.L1 e = refl
unbroken f a rule.L2 e = refl
unbroken f a rule.O2 e = refl
unbroken f a rule.O3 e = refl
unbroken f a rule.O4 e = refl
unbroken f a _ e = cc

on_access : (p q : Rule → Bool) → ((r : Rule) → q r ≡ false → p r ≡ false) → (rs : List Rule) → find p (filter q rs) ≡ find p rs
on_access p q none [] = refl
on_access p q none (r ∷ rs) =
    elim (q r) as (λ b. (b ≡ false → p r ≡ false) → find p (cond b (r ∷ filter q rs) (filter q rs)) ≡ cond (p r) (Some r) (find p rs)) [
      | true ↦ λ h. λ i. cond (p r) (Some r) (on_access p q none rs i)
      | false ↦ λ h. rw (h refl) (on_access p q none rs)
    ] (none r)

-- so the first that is broken is the first on access
in_whole_order : (f : Access) (a : Action) → access f a ≡ find (breaks f a) (order f.first a)
unfolding access
in_whole_order f a = on_access (breaks f a) is_access_rule (unbroken f a) (order f.first a)

find_same : {X : Type 0} (p q : X → Bool) → ((x : X) → p x ≡ q x) → (xs : List X) → find p xs ≡ find q xs
find_same p q same [] = refl
find_same p q same (x ∷ xs) = λ i. cond (same x i) (Some x) (find_same p q same xs i)

counted : (limits : Limits) (c : Counts) (f : Facts) (a : Action) → AreCounted limits c f → (r : Rule) → is_broken f a r ≡ broken limits (access_in f) c a r
counted limits c f a h rule.L1 = h.versions
counted limits c f a h rule.L2 = h.crates
counted limits c f a h rule.O2 = ap not h.known
counted limits c f a h rule.O3 = ap not h.owners
counted limits c f a h rule.O4 = h.all
counted limits c f a h _ = refl

uncounted : (f : Facts) (a : Action) → AreUncounted f → (r : Rule) → is_broken f a r ≡ breaks (access_in f) a r
uncounted f a h rule.L1 = h.versions
uncounted f a h rule.L2 = h.crates
uncounted f a h rule.O2 = ap not h.known
uncounted f a h rule.O3 = ap not h.owners
uncounted f a h rule.O4 = h.all
uncounted f a h _ = refl

pub first_counted : (limits : Limits) (c : Counts) (f : Facts) (a : Action) → AreCounted limits c f → find (is_broken f a) (order (spelling_in f) a) ≡ verdict limits (access_in f) c a
unfolding verdict
first_counted limits c f a h = find_same _ _ (counted limits c f a h) (order (spelling_in f) a)

pub first_uncounted : (f : Facts) (a : Action) → AreUncounted f → find (is_broken f a) (order (spelling_in f) a) ≡ access (access_in f) a
first_uncounted f a h = find_same _ _ (uncounted f a h) (order (spelling_in f) a) ∙ sym (in_whole_order (access_in f) a)
