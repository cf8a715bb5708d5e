use Rattle.std.proofs.lemmas.Result.{IfOk-weaker}
use Rattle.reg_cli_args.proofs.Making.{excludes, two_added}
use Rattle.reg_cli_args.proofs.subcommands.with_source.Goals as goal

pub returns-in_ok-conflicts_with-in-Program : goal.returns-in_ok-conflicts_with-in-Program
returns-in_ok-conflicts_with-in-Program c = rw c.in-Program.is
    (IfOk-weaker c.arg-in-Program-2.result _ _
    (λ new added app had. two_added _ _ new _ _ app _ _ c.option.ensures (excludes _ _ _ _ c.digest-in-Program.ensures c.in_ok-conflicts_with-in-Program.ensures) c.in_ok-arg-in-Program.ensures added had)
    c.arg-in-Program-2.ensures)
