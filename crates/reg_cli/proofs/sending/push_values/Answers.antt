use Rattle.std.proofs.Common.{◌∙◌, ◌++◌, ap}
use Rattle.std.specs.List.{flat_map}
use Rattle.reg_cli_args.specs.Orders.{given_by}
use Rattle.std.specs.Prelude.{codes}
use Rattle.reg_cli.specs.Sending.{argument, value_sent}
use Rattle.reg_cli.proofs.Pushed.{four}
use Rattle.reg_cli.proofs.sending.push_values.Goals as goal

pub returns : goal.returns
returns c =
    let given = given_by c.args.words.now in
    c.in_ok-push_value-4.ensures ∙ ap (λ l. l ++ flat_map argument (value_sent given (codes "ID")))
    (c.in_ok-push_value-3.ensures ∙ ap (λ l. l ++ flat_map argument (value_sent given (codes "NAME")))
    (c.in_ok-push_value-2.ensures ∙ ap (λ l. l ++ flat_map argument (value_sent given (codes "LOGIN"))) c.in_ok-push_value.ensures))
    ∙ four c.args.message.now.items (value_sent given (codes "CRATE")) (value_sent given (codes "LOGIN")) (value_sent given (codes "NAME")) (value_sent given (codes "ID"))
