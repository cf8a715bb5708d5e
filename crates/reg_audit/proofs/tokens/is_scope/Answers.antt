use Rattle.reg_audit.proofs.Words.{◌∙◌, ap, sym, string_bytes, pattern_of}
use Rattle.reg_names.specs.Ranges.{range_view}
use Rattle.reg_audit.proofs.Scopes.{in_range_of}
use Rattle.reg_audit.proofs.tokens.is_scope.Goals as goal

pub returns-in_ok-range-in-Some : goal.returns-in_ok-range-in-Some
returns-in_ok-range-in-Some c =
    let s = c.args.scope.now in
    let found = ap pattern_of (sym c.deref.ensures) ∙ sym c.parse.ensures ∙ c.in-Some.is in
    c.has_range.ensures ∙ in_range_of (string_bytes s.low) (string_bytes s.high) (string_bytes s.pattern) c.in-Some.pattern (range_view c.in_ok-range-in-Some.range) found c.in_ok-range-in-Some.ensures
