use Rattle.reg_line.proofs.Words.{ap, ◌∙◌, IfOk-weaker, has_float, compact_text}
use Rattle.reg_line.specs.Config.{config_text}
use Rattle.reg_line.proofs.config_file.config.Goals as goal

pub returns : goal.returns
unfolding config_text
returns c = IfOk-weaker c.to_vec.result _ _
    (λ v h. h (ap has_float c.in_ok-config_value.ensures) ∙ ap compact_text c.in_ok-config_value.ensures)
    c.to_vec.ensures.text
