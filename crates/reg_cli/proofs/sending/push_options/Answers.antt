use Rattle.std.proofs.Common.{◌∙◌, ◌++◌, ap}
use Rattle.std.specs.List.{flat_map}
use Rattle.reg_cli_args.specs.Orders.{given_by}
use Rattle.std.specs.Prelude.{codes}
use Rattle.reg_cli.specs.Sending.{argument, option_sent}
use Rattle.reg_cli.proofs.Pushed.{three}
use Rattle.reg_cli.proofs.sending.push_options.Goals as goal

pub returns : goal.returns
returns c =
    let given = given_by c.args.words.now in
    c.in_ok-push_option-3.ensures ∙ ap (λ l. l ++ flat_map argument (option_sent given (codes "patterns")))
    (c.in_ok-push_option-2.ensures ∙ ap (λ l. l ++ flat_map argument (option_sent given (codes "endpoints"))) c.in_ok-push_option.ensures)
    ∙ three c.args.message.now.items (option_sent given (codes "name")) (option_sent given (codes "endpoints")) (option_sent given (codes "patterns"))
