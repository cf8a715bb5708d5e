use Rattle.std.proofs.lemmas.Result.{IfOk-weaker}
use Rattle.reg_cli_args.proofs.Making.{arg_added, needed}
use Rattle.reg_cli_args.proofs.usage.init_words.Goals as goal

pub returns : goal.returns
returns c = IfOk-weaker c.with_file.result _ _
    (λ new h. h _ (arg_added _ _ _ _ _ (needed _ _ _ c.option-base.ensures c.required.ensures) c.in_ok-arg.ensures c.described-command.ensures))
    c.with_file.ensures
