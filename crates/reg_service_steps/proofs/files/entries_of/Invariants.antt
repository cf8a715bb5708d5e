use Rattle.std.proofs.Common.{◌≡◌, map}
use Rattle.reg_line.specs.File.{entry_view}
use Rattle.reg_service_steps.specs.Reads.{entry_of_version}
use Rattle.reg_service_steps.proofs.files.entries_of.Given as goal

-- the versions so far have their entries
abbrev pub invariant-loop-version : goal.invariant-loop-version
invariant-loop-version l = map entry_view l.entries.items ≡ map entry_of_version l.yielded
