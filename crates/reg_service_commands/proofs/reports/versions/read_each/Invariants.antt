use Rattle.reg_service_commands.proofs.Words.{◌≡◌, map, take, read_version}
use Rattle.reg_service_commands.proofs.reports.versions.read_each.Given as goal

-- the versions so far are read
abbrev pub invariant-loop-version : goal.invariant-loop-version
invariant-loop-version l = l.releases.items ≡ map read_version (take l.version-index l.versions)
