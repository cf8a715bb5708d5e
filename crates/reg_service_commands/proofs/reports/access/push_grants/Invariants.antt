use Rattle.reg_service_commands.proofs.Words.{◌≡◌, ◌++◌, take, string_bytes, flat_map, line_of_grant}
use Rattle.reg_service_commands.proofs.reports.access.push_grants.Given as goal

-- the grants so far have their lines
abbrev pub invariant-loop-grant : goal.invariant-loop-grant
invariant-loop-grant l = string_bytes l.report ≡ string_bytes l.fn.report ++ flat_map line_of_grant (take l.grant-index l.grants)
