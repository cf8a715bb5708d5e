use Rattle.reg_reference.proofs.Words.{refl, Registry, limits_of, registry_of}
use Rattle.reg_model.specs.Events.Command.{Tokens}
use Rattle.reg_model.specs.Effects.{commanded}
use Rattle.reg_model.specs.Reports.{tokens_text}
use Rattle.reg_reference.proofs.ReportTexts.{told_step}
use Rattle.reg_reference.proofs.plain.PlainRegistry.tokens.Goals as goal

pub returns : goal.returns
unfolding commanded
returns c =
    let s : Registry = registry_of c.args.self.now in
    record { step = told_step (limits_of c.args.self.now) s Tokens (tokens_text s) c.tokens_report.result c.reply_with.result tt refl refl c.tokens_report.ensures c.reply_with.ensures; limits = refl }
