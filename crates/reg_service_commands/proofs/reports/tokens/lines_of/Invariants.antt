use Rattle.reg_service_commands.proofs.Words.{List, drop, string_bytes, AreTokens}
use Rattle.reg_model.specs.Registry as model
use Rattle.reg_service_commands.proofs.TokenWalk.{Walked}
use Rattle.reg_service_commands.proofs.reports.tokens.lines_of.Given as goal

-- the tokens so far have their lines
abbrev pub invariant-loop-token : goal.invariant-loop-token
invariant-loop-token l = (ts : List model.Token) → AreTokens 1 ts l.tokens l.fn.scopes → Walked l.accounts ts (drop l.token-index l.tokens) l.left (string_bytes l.report)
