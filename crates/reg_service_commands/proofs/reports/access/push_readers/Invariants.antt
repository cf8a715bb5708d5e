use Rattle.reg_service_commands.proofs.Words.{◌≡◌, ◌++◌, take, string_bytes, flat_map, line_of_reader}
use Rattle.reg_service_commands.proofs.reports.access.push_readers.Given as goal

-- the readers so far have their lines
abbrev pub invariant-loop-reader : goal.invariant-loop-reader
invariant-loop-reader l = string_bytes l.report ≡ string_bytes l.fn.report ++ flat_map line_of_reader (take l.reader-index l.readers)
