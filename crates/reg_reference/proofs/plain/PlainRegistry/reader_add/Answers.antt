use Rattle.reg_reference.proofs.Words.{[], refl, sym, ◌∙◌, ap, is_none, unwrap_or, canon, Registry, id_of_login, crate_found, limits_of}
use Rattle.reg_reference.proofs.Words.{login_found, registry_of}
use Rattle.std.specs.FinSet as finset
use Rattle.reg_model.specs.Events.Command.{ReaderAdd}
use Rattle.reg_model.specs.Effects.{commanded}
use Rattle.reg_reference.proofs.Joined.{done_step, crate_there, login_there, no_pair_step, both_there}
use Rattle.reg_reference.proofs.plain.PlainRegistry.reader_add.Goals as goal

pub returns-in_err-name : goal.returns-in_err-name
returns-in_err-name c = record { step = no_pair_step (limits_of c.args.self.now) (registry_of c.args.self.now) (ReaderAdd c.args.name.now c.args.login.now) c.args.name.now _ refl c.from_residual.result _ c.from_residual.ensures.1 c.args.login.now [] refl c.in_err-name.ensures; limits = refl }

pub returns-in-Ok : goal.returns-in-Ok
unfolding commanded
returns-in-Ok c =
    let s : Registry = registry_of c.args.self.now in
    let both = both_there (crate_found s c.args.name.now) (login_found s c.args.login.now) c.in_ok-name.name c.in_ok-name.id c.in_ok-name.ensures in
    let there = crate_there s c.args.name.now c.in_ok-name.name both.0 in
    let found = login_there (id_of_login s c.args.login.now) c.in_ok-name.id both.1 in
    let id = sym (ap (λ o. unwrap_or o 0) found) in
    let after = c.in-Ok.ensures.ok ∙ (λ i. finset.insert s.readers (canon (there.0 i), id i)) in
    record { step = done_step (limits_of c.args.self.now) s _ (ReaderAdd c.args.name.now c.args.login.now) _ (there.1, (ap is_none found, tt)) refl (λ i. record s { readers = after i }); limits = refl }
