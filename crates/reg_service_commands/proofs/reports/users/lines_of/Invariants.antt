use Rattle.reg_service_commands.proofs.Words.{◌≡◌, take, string_bytes, flat_map, user_line, entry_of_account}
use Rattle.reg_service_commands.proofs.reports.users.lines_of.Given as goal

-- the accounts so far have their lines
abbrev pub invariant-loop-account : goal.invariant-loop-account
invariant-loop-account l = string_bytes l.report ≡ flat_map (λ a. user_line (entry_of_account a)) (take l.account-index l.accounts)
