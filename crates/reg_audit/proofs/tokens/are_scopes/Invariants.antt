use Rattle.reg_audit.proofs.Words.{◌≡◌, take, true, list_all}
use Rattle.reg_audit.specs.Checks.{is_scope}
use Rattle.reg_audit.proofs.tokens.are_scopes.Given as goal

abbrev pub invariant-loop-scope : goal.invariant-loop-scope
invariant-loop-scope l = list_all is_scope (take l.scope-index l.scopes) ≡ true
