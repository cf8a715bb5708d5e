use Rattle.std.proofs.Common.{sym, ap, ◌∙◌}
use Rattle.reg_body.specs.Frames.{le4}
use Rattle.reg_body.proofs.FrameFacts.{le4_std}
use Rattle.reg_body.proofs.frame.length_bytes.Goals as goal

pub returns-in-Ok : goal.returns-in-Ok
returns-in-Ok c = (c.in-Ok.ensures.0, c.to_le_bytes.ensures ∙ sym (le4_std c.in-Ok.len) ∙ ap le4 c.in-Ok.ensures.1)
