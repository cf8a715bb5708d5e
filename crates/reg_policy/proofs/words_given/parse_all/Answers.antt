use Rattle.std.proofs.Common.{◌<◌, length, arith, ◌∙◌}
use Rattle.reg_policy.proofs.PatternTexts.{text_is_none, text_is_pattern}
use Rattle.reg_policy.proofs.words_given.parse_all.Goals as goal

pub returns-in-None : goal.returns-in-None
returns-in-None c =
    let h : c.loop-text.text-index < length c.args.texts.now = omega arith in
    text_is_none c.args.texts.now c.loop-text.text-index _ h c.in-None.ensures

pub loop-text-preserved : goal.loop-text-preserved
loop-text-preserved c =
    let h : c.loop-text.text-index < length c.args.texts.now = omega arith in
    let more = text_is_pattern c.args.texts.now c.loop-text.text-index _ _ _ h c.in-Some.ensures c.loop-text.invariant.0 c.loop-text.invariant.1 in
    (c.in_ok-push-in-Some.ensures.items ∙ more.0, more.1)
