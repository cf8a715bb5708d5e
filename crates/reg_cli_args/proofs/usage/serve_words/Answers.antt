use Rattle.std.proofs.Common.{[], ◌∷◌, ◌++◌, subst, sym}
use Rattle.std.proofs.lemmas.Result.{IfOk-weaker}
use Rattle.reg_cli_args.proofs.usage.serve_words.Goals as goal

pub returns : goal.returns
returns c = IfOk-weaker c.with_file.result _ _
    (λ new h. h _ (c.in_ok-with_serving.ensures _ (c.in_ok-with_numbers.ensures _ c.described-command.ensures)))
    c.with_file.ensures
