use Rattle.reg_reference.proofs.Words.{refl, sym, ap, ◌∙◌, not, is_name, G4, Registry, Report, limits_of, registry_of}
use Rattle.reg_model.specs.Events.Command.{Access}
use Rattle.reg_model.specs.Effects.{commanded}
use Rattle.reg_model.specs.Reports.{access_text}
use Rattle.reg_reference.proofs.Joined.{read_none, read_some, refused_step}
use Rattle.reg_reference.proofs.ReportTexts.{told_step}
use Rattle.reg_reference.proofs.plain.PlainRegistry.access.Goals as goal

pub returns-in-Some : goal.returns-in-Some
unfolding commanded
returns-in-Some c =
    let s : Registry = registry_of c.args.self.now in
    let read = read_some (is_name c.args.name.now) c.args.name.now c.in-Some.name (sym c.in-Some.is ∙ c.parse_name.ensures) in
    record { step = told_step (limits_of c.args.self.now) s (Access c.args.name.now) (access_text s c.in-Some.name) c.access_report.result c.reply_with.result (ap not read.0, tt) (ap (λ n. Report (access_text s n)) (sym read.1)) refl c.access_report.ensures c.reply_with.ensures; limits = refl }

pub returns-in-None : goal.returns-in-None
returns-in-None c =
    let unread = read_none (is_name c.args.name.now) c.args.name.now (sym c.in-None.is ∙ c.parse_name.ensures) in
    record { step = refused_step (limits_of c.args.self.now) (registry_of c.args.self.now) _ (Access c.args.name.now) _ 0 G4 (refl, ap not unread) refl refl; limits = refl }
