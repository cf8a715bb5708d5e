use Rattle.reg_reference.proofs.Words.{refl, sym, ◌∙◌, ap, is_name, canon, Registry, registry_of}
use Rattle.std.specs.FinSet as finset
use Rattle.reg_model.specs.Effects.{done}
use Rattle.reg_reference.proofs.Joined.{read_some}
use Rattle.reg_reference.proofs.plain.PlainRegistry.yank.Goals as goal

pub returns : goal.returns
unfolding done
returns c =
    let s : Registry = registry_of c.args.self.now in
    let read = read_some (is_name c.args.name.now) c.args.name.now c.unwrap-name.result (sym c.unwrap-name.ensures ∙ c.parse_name.ensures) in
    let after = c.in_ok-insert.ensures.ok ∙ ap (λ n. finset.insert s.yanked (canon n, c.args.version.now)) read.1 in
    record { answer = refl; state = (λ id. λ i. record s { yanked = after i }); err = tt; limits = refl }
