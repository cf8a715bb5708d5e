use Rattle.std.proofs.Common.{◌≡◌, drop}
use Rattle.std.specs.List.{find}
use Rattle.reg_policy.specs.Facts.{is_broken}
use Rattle.reg_policy.specs.Views.{action_of}
use Rattle.reg_policy.proofs.deciding.first_among.Given as goal

-- the first broken rule is among those that are left
abbrev pub invariant-loop-rule : goal.invariant-loop-rule
invariant-loop-rule l = find (is_broken l.facts (action_of l.action)) (drop l.rule-index l.rules) ≡ find (is_broken l.facts (action_of l.action)) l.rules
