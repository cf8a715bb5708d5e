use Rattle.std.proofs.Common.{◌∙◌, ap, sym}
use Rattle.reg_cli.specs.Sending.{is_whole}
use Rattle.reg_cli.proofs.Pushed.{whole_by_end}
use Rattle.reg_cli.proofs.sending.is_whole.Goals as goal

pub returns-in-Some : goal.returns-in-Some
returns-in-Some c = sym (ap is_whole c.in-Some.ensures.cases.0 ∙ whole_by_end c.in-Some.field-0-1.now c.in-Some.last.now)
