use Rattle.reg_reference.proofs.Words.{refl, sym, ◌∙◌, ap, not, is_name, canon, G4, Registry, limits_of, registry_of}
use Rattle.std.specs.FinSet as finset
use Rattle.reg_model.specs.Events.Command.{Unreserve}
use Rattle.reg_model.specs.Effects.{commanded}
use Rattle.reg_reference.proofs.Joined.{refused_step, done_step, read_none, read_some}
use Rattle.reg_reference.proofs.plain.PlainRegistry.unreserve.Goals as goal

pub returns-in_default : goal.returns-in_default
returns-in_default c =
    record {
      step = refused_step (limits_of c.args.self.now) (registry_of c.args.self.now) _ (Unreserve c.args.name.now) _ 0 G4
          (refl, ap not (read_none (is_name c.args.name.now) c.args.name.now (sym c.in_default.is ∙ c.parse_name.ensures))) refl refl;
      limits = refl;
    }

pub returns : goal.returns
unfolding commanded
returns c =
    let s : Registry = registry_of c.args.self.now in
    let read = read_some (is_name c.args.name.now) c.args.name.now c.in-Some.name (sym c.in-Some.is ∙ c.parse_name.ensures) in
    let after = c.remove.ensures ∙ ap (λ n. finset.remove s.reserved (canon n)) read.1 in
    record { step = done_step (limits_of c.args.self.now) s _ (Unreserve c.args.name.now) _ (ap not read.0, tt) refl (λ i. record s { reserved = after i }); limits = refl }
