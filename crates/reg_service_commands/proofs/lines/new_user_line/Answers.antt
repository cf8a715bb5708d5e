use Rattle.reg_service_commands.proofs.LineWords.{named_so}
use Rattle.reg_service_commands.proofs.lines.new_user_line.Goals as goal

pub returns-in-Some : goal.returns-in-Some
returns-in-Some c = named_so c.args.login.now c.args.name c.in-Some.name c.named_line.result c.in-Some.is c.named_line.ensures
