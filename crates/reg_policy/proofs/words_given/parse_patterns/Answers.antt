use Rattle.std.proofs.Common.{◌≡◌, Bool, true, false, List, None, Some}
use Rattle.std.specs.Bool.{if◌then◌else◌}
use Rattle.reg_model.specs.Refusals.{patterns_given}
use Rattle.reg_policy.proofs.words_given.parse_patterns.Goals as goal

given_too : {X : Type 0} (valid : Bool) (given : List X → List X) (texts read all : List X)
    → Some read ≡ (if valid then Some texts else None) → all ≡ given read → Some all ≡ (if valid then Some (given texts) else None)
given_too true given texts read all e h = cc
given_too false given texts read all e h = absurd cc

pub returns-in_ok-or_all_names-in-Some : goal.returns-in_ok-or_all_names-in-Some
returns-in_ok-or_all_names-in-Some c =
    given_too _ patterns_given _ _ _ (rw c.in-Some.is at c.in_ok-patterns.ensures) c.in_ok-or_all_names-in-Some.ensures
