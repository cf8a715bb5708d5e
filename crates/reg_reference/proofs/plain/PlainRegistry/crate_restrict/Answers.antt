use Rattle.reg_reference.proofs.Words.{refl, ◌∙◌, ap, canon, Registry, limits_of, registry_of}
use Rattle.std.specs.FinSet as finset
use Rattle.reg_model.specs.Events.Command.{CrateRestrict}
use Rattle.reg_model.specs.Effects.{commanded}
use Rattle.reg_reference.proofs.Joined.{done_step, crate_there, no_crate_step}
use Rattle.reg_reference.proofs.plain.PlainRegistry.crate_restrict.Goals as goal

pub returns-in_err-name : goal.returns-in_err-name
returns-in_err-name c = record { step = no_crate_step (limits_of c.args.self.now) (registry_of c.args.self.now) (CrateRestrict c.args.name.now) c.args.name.now _ refl c.from_residual.result _ c.from_residual.ensures.1 c.in_err-name.ensures; limits = refl }

pub returns-in-Ok : goal.returns-in-Ok
unfolding commanded
returns-in-Ok c =
    let s : Registry = registry_of c.args.self.now in
    let there = crate_there s c.args.name.now c.in_ok-name.name c.in_ok-name.ensures in
    let after = c.in-Ok.ensures.ok ∙ ap (λ n. finset.insert s.restricted (canon n)) there.0 in
    record { step = done_step (limits_of c.args.self.now) s _ (CrateRestrict c.args.name.now) _ (there.1, tt) refl (λ i. record s { restricted = after i }); limits = refl }
