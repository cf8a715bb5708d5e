use Rattle.std.proofs.Common.{◌≡◌, map, drop, string_bytes}
use Rattle.std.specs.List.{list_any}
use Rattle.reg_line.specs.Features.{is_newer_value}
use Rattle.reg_line.proofs.features.is_newer.Given as goal

abbrev pub invariant-loop-value : goal.invariant-loop-value
invariant-loop-value l = list_any is_newer_value (map string_bytes (drop l.value-index l.values)) ≡ list_any is_newer_value (map string_bytes l.values)
