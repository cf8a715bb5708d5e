use Rattle.reg_http_read.proofs.Common.{◌≡◌, map, drop, header_parts}
use Rattle.std.specs.List.{find}
use Rattle.reg_http_read.specs.Fields.{is_named}
use Rattle.reg_http_read.proofs.fields.first_value.Given as goal

abbrev pub invariant-loop-field : goal.invariant-loop-field
invariant-loop-field l =
    find (is_named l.name) (map header_parts l.fields) ≡ find (is_named l.name) (map header_parts (drop l.field-index l.fields))
