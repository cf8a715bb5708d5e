use Rattle.std.proofs.Common.{◌∙◌, ap, map, subst}
use Rattle.std.proofs.lemmas.Result.{IfOk-weaker}
use Rattle.clap.specs.Faults.{fault_of, is_simple_and_free}
use Rattle.clap.specs.Words.{FailsBy, is_simple, subcommand_of}
use Rattle.reg_cli_args.proofs.Making.{message_free, message_is, message_simple}
use Rattle.reg_cli_args.proofs.usage.read_message.Goals as goal

pub returns : goal.returns
returns c =
    let is = (c.in_ok-with_reports.ensures _ (c.in_ok-command.ensures _ c.setup_line.ensures)).app ∙ message_is in
    let words = map (λ w. w.now) c.args.words.now in
    let parse = c.try_get_matches_from in
    record {
      fails = subst (λ a. FailsBy (fault_of a words) parse.result) is (parse.ensures.kinds (ap is_simple_and_free is ∙ message_free));
      reads = IfOk-weaker parse.result _ _ (λ m h. (h (ap is_simple is ∙ message_simple)).1 ∙ ap (λ a. subcommand_of a words) is) parse.ensures.matches;
    }
