use Rattle.std.proofs.Common.{◌≡◌, drop}
use Rattle.reg_audit.specs.Checks.{follow}
use Rattle.reg_audit.proofs.tokens.follow.Given as goal

-- what is left decides
abbrev pub invariant-loop-scope : goal.invariant-loop-scope
invariant-loop-scope l = follow l.last l.first.token l.first.place l.rest ≡ follow l.last l.token l.place (drop l.scope-index l.rest)
