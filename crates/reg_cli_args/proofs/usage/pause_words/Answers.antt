use Rattle.std.proofs.lemmas.Result.{IfOk-weaker}
use Rattle.reg_cli_args.proofs.Making.{arg_added, needed}
use Rattle.reg_cli_args.proofs.usage.pause_words.Goals as goal

pub returns : goal.returns
returns c = IfOk-weaker c.arg.result _ _
    (λ new added. arg_added _ _ _ _ _ (needed _ _ _ c.option.ensures c.required.ensures) added c.described-command.ensures)
    c.arg.ensures
