use Rattle.std.proofs.Common.{◌∙◌, ◌++◌, ap}
use Rattle.reg_cli.specs.Sending.{argument}
use Rattle.reg_cli.proofs.Pushed.{named_words}
use Rattle.reg_cli.proofs.sending.push_named.Goals as goal

pub returns : goal.returns
returns c =
    c.in_ok-push_argument-2.ensures ∙ ap (λ l. l ++ argument c.args.value.now)
    (c.in_ok-push_argument.ensures ∙ ap (λ l. l ++ argument c.args.option.now) c.in_ok-extend_from_slice.ensures.items)
    ∙ named_words c.args.message.now.items c.args.option.now c.args.value.now
