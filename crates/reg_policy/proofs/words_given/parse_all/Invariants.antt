use Rattle.std.proofs.Common.{◌≡◌, take, true}
use Rattle.std.specs.Prelude.{map}
use Rattle.std.specs.List.{list_all}
use Rattle.reg_names.specs.Patterns.{is_pattern}
use Rattle.reg_policy.proofs.words_given.parse_all.Given as goal

-- the patterns so far are the texts so far
abbrev pub invariant-loop-text : goal.invariant-loop-text
invariant-loop-text l =
    (l.patterns.items ≡ map (λ t. t.now) (take l.text-index l.texts))
    × (list_all is_pattern (map (λ t. t.now) (take l.text-index l.texts)) ≡ true)
