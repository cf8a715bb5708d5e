use Rattle.reg_line.proofs.Words.{ap, ◌∙◌, IfOk-weaker, has_float, compact_text, manifest_view}
use Rattle.reg_line.specs.Line.{line_json}
use Rattle.reg_line.proofs.NoFloat.{line-no_float}
use Rattle.reg_line.proofs.lines.line_json.Goals as goal

pub write_value-requires : goal.write_value-requires
write_value-requires c = ap has_float c.in_ok-value.ensures.value ∙ line-no_float (manifest_view c.args.manifest.now) c.args.digest.now c.args.yanked

pub returns-clause-text : goal.returns-clause-text
unfolding line_json
returns-clause-text c = IfOk-weaker c.write_value.result _ _
    (λ v h. h ∙ ap compact_text c.in_ok-value.ensures.value)
    c.write_value.ensures
