use Rattle.reg_reference.proofs.Words.{true, refl, ap, is_none, G3, Registry, id_of_login, limits_of, registry_of}
use Rattle.reg_model.specs.Events.Command.{UserEnable}
use Rattle.reg_model.specs.Effects.{commanded}
use Rattle.reg_reference.proofs.Joined.{refused_step, done_step, enabled_at, login_there, no_login_there, told}
use Rattle.reg_reference.proofs.plain.PlainRegistry.user_enable.Goals as goal

pub returns-in_err-id : goal.returns-in_err-id
returns-in_err-id c =
    let s : Registry = registry_of c.args.self.now in
    let no = no_login_there (id_of_login s c.args.login.now) c.in_err-id.field-0.0 c.in_err-id.ensures in
    record { step = refused_step (limits_of c.args.self.now) s _ (UserEnable c.args.login.now) _ 0 G3 (refl, no.1) (told c.from_residual.result c.in_err-id.field-0.0 G3 c.from_residual.ensures.1 no.0) refl; limits = refl }

pub returns : goal.returns
unfolding commanded
returns c =
    let s : Registry = registry_of c.args.self.now in
    let e = login_there (id_of_login s c.args.login.now) c.in_ok-id.id c.in_ok-id.ensures in
    let after = enabled_at true s c.args.login.now c.in_ok-id.id _ e c.enable.ensures in
    record { step = done_step (limits_of c.args.self.now) s _ (UserEnable c.args.login.now) _ (ap is_none e, tt) refl (λ i. record s { accounts = after i }); limits = refl }
