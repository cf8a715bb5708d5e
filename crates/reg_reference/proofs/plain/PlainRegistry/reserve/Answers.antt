use Rattle.reg_reference.proofs.Words.{cond, refl, sym, ◌∙◌, ap, not, is_name, canon, G4, Registry, limits_of, registry_of}
use Rattle.std.specs.FinSet as finset
use Rattle.reg_model.specs.Crates.{is_reserved_always}
use Rattle.reg_model.specs.Events.Command.{Reserve}
use Rattle.reg_model.specs.Effects.{commanded}
use Rattle.reg_reference.proofs.Joined.{refused_step, done_step, read_none, read_some}
use Rattle.reg_reference.proofs.plain.PlainRegistry.reserve.Goals as goal

pub returns-in_default : goal.returns-in_default
returns-in_default c =
    record {
      step = refused_step (limits_of c.args.self.now) (registry_of c.args.self.now) _ (Reserve c.args.name.now) _ 0 G4
          (refl, ap not (read_none (is_name c.args.name.now) c.args.name.now (sym c.in_default.is ∙ c.parse_name.ensures))) refl refl;
      limits = refl;
    }

pub returns-then-is_reserved_always : goal.returns-then-is_reserved_always
unfolding commanded
returns-then-is_reserved_always c =
    let s : Registry = registry_of c.args.self.now in
    let read = read_some (is_name c.args.name.now) c.args.name.now c.in-Some.name (sym c.in-Some.is ∙ c.parse_name.ensures) in
    let always = sym c.if-is_reserved_always.true ∙ c.is_reserved_always.ensures ∙ ap is_reserved_always (c.canon.ensures ∙ ap canon read.1) in
    record { step = done_step (limits_of c.args.self.now) s _ (Reserve c.args.name.now) _ (ap not read.0, tt) refl (ap (λ b. cond b s (record s { reserved = finset.insert s.reserved (canon c.args.name.now) })) always); limits = refl }

pub returns-in-Ok : goal.returns-in-Ok
unfolding commanded
returns-in-Ok c =
    let s : Registry = registry_of c.args.self.now in
    let read = read_some (is_name c.args.name.now) c.args.name.now c.in-Some.name (sym c.in-Some.is ∙ c.parse_name.ensures) in
    let not_always = sym c.if-is_reserved_always.false ∙ c.is_reserved_always.ensures ∙ ap is_reserved_always (c.canon.ensures ∙ ap canon read.1) in
    let after = c.in-Ok.ensures.ok ∙ ap (λ n. finset.insert s.reserved (canon n)) read.1 in
    record {
      step = done_step (limits_of c.args.self.now) s _ (Reserve c.args.name.now) _ (ap not read.0, tt) refl
          ((λ i. record s { reserved = after i }) ∙ ap (λ b. cond b s (record s { reserved = finset.insert s.reserved (canon c.args.name.now) })) not_always);
      limits = refl;
    }
