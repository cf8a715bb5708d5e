use Rattle.reg_service_commands.proofs.Words.{◌≡◌, map, take, pattern_of}
use Rattle.reg_service_commands.proofs.reports.tokens.patterns_of.Given as goal

-- the scopes so far have their patterns
abbrev pub invariant-loop-scope : goal.invariant-loop-scope
invariant-loop-scope l = l.list.items ≡ map pattern_of (take l.scope-index l.scopes)
