use Rattle.reg_names.proofs.Words.{sym, ap, ◌∙◌, subst, rules, IsAscii, is_pattern}
use Rattle.reg_names.proofs.PatternAscii.{plain_ascii, prefix_ascii}
use Rattle.reg_names.proofs.range.compile.Goals as goal

pub range_to-requires : goal.range_to-requires
range_to-requires c =
    let text = c.as_bytes-text.result.now in
    subst IsAscii (sym c.prefix_of.ensures) (prefix_ascii text (ap is_pattern c.as_bytes-text.ensures.value ∙ c.as_str.ensures.pattern) (sym c.has_star.ensures ∙ c.if-has_star.true))

pub range_to-requires-else-has_star : goal.range_to-requires-else-has_star
range_to-requires-else-has_star c = plain_ascii c.as_bytes-text.result.now (ap is_pattern c.as_bytes-text.ensures.value ∙ c.as_str.ensures.pattern) (sym c.has_star.ensures ∙ c.if-has_star.false)

pub returns-else-has_star : goal.returns-else-has_star
returns-else-has_star c = search rules
