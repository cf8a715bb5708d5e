use Rattle.std.proofs.lemmas.Result.{IfOk-weaker}
use Rattle.reg_cli_args.proofs.Making.{sub_added}
use Rattle.reg_cli_args.proofs.parameters.with_level.Goals as goal

pub returns : goal.returns
returns c = IfOk-weaker c.subcommand.result _ _
    (λ new added a s made had. sub_added _ _ _ a s (rw c.in_ok-made.was at made) added had)
    c.subcommand.ensures
