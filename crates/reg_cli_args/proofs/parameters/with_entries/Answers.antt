use Rattle.std.proofs.Common.{◌∙◌, ap, map, subst, sym, take}
use Rattle.std.proofs.lemmas.List.{map-append, take_all, take_more}
use Rattle.clap.specs.Words.{App}
use Rattle.reg_cli_args.specs.Grammar.{with_levels}
use Rattle.reg_cli_args.specs.Making.{HasRules, entry_level}
use Rattle.reg_cli_args.proofs.Making.{levels_append}
use Rattle.reg_cli_args.proofs.parameters.with_entries.Goals as goal

pub loop-entry-init : goal.loop-entry-init
loop-entry-init c a had = had

pub loop-entry-preserved : goal.loop-entry-preserved
loop-entry-preserved c a had =
    let level = entry_level c.args.shape in
    let before = take c.loop-entry.entry-index c.args.entries.now in
    let added = c.in_ok-command.ensures _ _ c.subcommand.ensures (c.loop-entry.invariant a had) in
    subst (λ levels. HasRules (with_levels a levels) c.in_ok-command.command) (sym (ap (map level) (take_more c.args.entries.now c.loop-entry.entry-index _ c.loop-entry-test.true) ∙ map-append level before _))
    (subst (λ it. HasRules it c.in_ok-command.command) (sym (levels_append a _ (map level before))) added)

pub returns : goal.returns
returns c = subst (λ entries. (a : App) → HasRules a c.args.command → HasRules (with_levels a (map (entry_level c.args.shape) entries)) c.loop-entry.command)
    (take_all c.loop-entry.entry-index c.args.entries.now c.loop-entry-test.false) c.loop-entry.invariant
