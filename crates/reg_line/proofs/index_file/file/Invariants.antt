use Rattle.std.proofs.Common.{◌≡◌, map, take}
use Rattle.reg_line.specs.File.{entry_view, file_text}
use Rattle.reg_line.proofs.index_file.file.Given as goal

abbrev pub invariant-loop-entry : goal.invariant-loop-entry
invariant-loop-entry l = l.text.items ≡ file_text (map entry_view (take l.entry-index l.entries))
