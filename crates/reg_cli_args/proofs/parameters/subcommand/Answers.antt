use Rattle.std.proofs.Common.{subst, sym}
use Rattle.std.proofs.lemmas.List.{append-nil}
use Rattle.std.proofs.lemmas.Result.{IfOk-weaker}
use Rattle.clap.specs.Simple.{new_shape}
use Rattle.reg_cli_args.specs.Grammar.{word_rules}
use Rattle.reg_cli_args.specs.Making.{HasLevel}
use Rattle.reg_cli_args.proofs.parameters.subcommand.Goals as goal

pub returns-in-Setup : goal.returns-in-Setup
returns-in-Setup c = rw c.in-Setup.is
    (subst (λ rules. HasLevel (record (new_shape c.args.entry.now.name.now) { rules = rules }) c.in_ok-command.command) (sym (append-nil (word_rules c.args.entry.now.words)))
    (c.in_ok-command.ensures _ c.described-command.ensures))

pub returns-in-Program : goal.returns-in-Program
returns-in-Program c = rw c.in-Program.is
    (IfOk-weaker c.with_registry.result _ _ (λ new h. h _ (c.in_ok-command.ensures _ c.described-command.ensures)) c.with_registry.ensures)
