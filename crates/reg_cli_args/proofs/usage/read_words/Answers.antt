use Rattle.std.proofs.Common.{◌∙◌, ap, map, string_bytes}
use Rattle.std.proofs.lemmas.Result.{IfErr-weaker, IfOk-weaker}
use Rattle.clap.specs.Words.{is_simple, subcommand_of, takes}
use Rattle.reg_cli_args.proofs.Making.{program_simple}
use Rattle.reg_cli_args.proofs.usage.read_words.Goals as goal

pub returns : goal.returns
returns c =
    let is = c.in_ok-command.ensures.app in
    let words = map (λ w. string_bytes w) c.args.words.now in
    let parse = c.try_get_matches_from in
    record {
      reads = IfOk-weaker parse.result _ _ (λ m h. (h (ap is_simple is ∙ program_simple)).1 ∙ ap (λ a. subcommand_of a words) is) parse.ensures.matches;
      passes = IfErr-weaker parse.result _ _ (λ e h taken. h (ap (λ a. takes a words) is ∙ taken)) parse.ensures.passes;
    }
