use Rattle.reg_reference.proofs.Words.{refl, sym, ◌∙◌, Registry, limits_of, registry_of}
use Rattle.reg_model.specs.declared.rule.AdminRefusal.TheVariants.{G6}
use Rattle.reg_model.specs.Registry.{with_id}
use Rattle.reg_model.specs.Events.Command.{TokenRevoke}
use Rattle.reg_model.specs.Effects.{commanded}
use Rattle.reg_reference.proofs.Joined.{refused_step, done_step, none_of_not_some}
use Rattle.reg_reference.proofs.plain.PlainRegistry.token_revoke.Goals as goal

pub returns-then-not-has : goal.returns-then-not-has
returns-then-not-has c =
    record { step = refused_step (limits_of c.args.self.now) (registry_of c.args.self.now) _ (TokenRevoke c.args.id) _ 0 G6 (refl, none_of_not_some (with_id c.args.self.now.tokens c.args.id) _ (sym c.has.ensures ∙ c.if-not-has.true)) refl refl; limits = refl }

pub returns : goal.returns
unfolding commanded
returns c =
    let s : Registry = registry_of c.args.self.now in
    record { step = done_step (limits_of c.args.self.now) s _ (TokenRevoke c.args.id) _ (none_of_not_some (with_id c.args.self.now.tokens c.args.id) _ (sym c.has.ensures ∙ c.if-not-has.false), tt) refl (λ i. record s { tokens = c.revoke.ensures i }); limits = refl }
