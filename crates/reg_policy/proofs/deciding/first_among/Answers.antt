use Rattle.std.proofs.Common.{◌≡◌, ℕ, ◌+◌, ◌<◌, Bool, cond, false, true, List, length, get_or, drop, Some, sym, ◌∙◌, ap}
use Rattle.std.specs.List.{find}
use Rattle.std.proofs.lemmas.List.{at_drop_more, at_drop_all}
use Rattle.reg_policy.specs.Views.{decision_of}
use Rattle.reg_policy.proofs.deciding.first_among.Goals as goal

passed_over : {X : Type 0} (test : X → Bool) (xs : List X) (i : ℕ) (d : X) → i < length xs → test (get_or xs i d) ≡ false → find test (drop (i + 1) xs) ≡ find test (drop i xs)
passed_over test xs i d h e = sym (at_drop_more (find test) xs i d h ∙ ap (λ b. cond b (Some (get_or xs i d)) (find test (drop (i + 1) xs))) e)

met : {X : Type 0} (test : X → Bool) (xs : List X) (i : ℕ) (d : X) → i < length xs → test (get_or xs i d) ≡ true → find test (drop i xs) ≡ Some (get_or xs i d)
met test xs i d h e = at_drop_more (find test) xs i d h ∙ ap (λ b. cond b (Some (get_or xs i d)) (find test (drop (i + 1) xs))) e

pub loop-rule-preserved : goal.loop-rule-preserved
loop-rule-preserved c =
    passed_over _ _ _ _ c.loop-rule-test.true (sym c.broken.ensures ∙ c.if-broken.false) ∙ c.loop-rule.invariant

pub returns-then-broken : goal.returns-then-broken
returns-then-broken c =
    ap decision_of (sym (met _ _ _ _ c.loop-rule-test.true (sym c.broken.ensures ∙ c.if-broken.true)) ∙ c.loop-rule.invariant)

pub returns : goal.returns
returns c = ap decision_of (sym (at_drop_all (find _) _ _ c.loop-rule-test.false) ∙ c.loop-rule.invariant)
