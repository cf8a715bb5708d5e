use Rattle.std.proofs.lemmas.Result.{IfOk-weaker}
use Rattle.reg_cli_args.proofs.subcommands.with_orders.Goals as goal

pub returns : goal.returns
returns c = IfOk-weaker c.with_entries.result _ _
    (λ new h a had. h _ (c.in_ok-command-2.ensures _ _ c.token_add.ensures (c.in_ok-command.ensures a _ c.user_add.ensures had)))
    c.with_entries.ensures
