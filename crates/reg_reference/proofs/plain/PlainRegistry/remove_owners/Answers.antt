use Rattle.reg_reference.proofs.Words.{refl, sym, ◌∙◌, is_name, Registry, owners_of, registry_of}
use Rattle.std.specs.FinSet as finset
use Rattle.reg_model.specs.Effects.{done}
use Rattle.reg_reference.proofs.Joined.{read_some}
use Rattle.reg_reference.proofs.plain.PlainRegistry.remove_owners.Goals as goal

pub returns : goal.returns
unfolding done
returns c =
    let s : Registry = registry_of c.args.self.now in
    let read = read_some (is_name c.args.name.now) c.args.name.now c.unwrap-name.result (sym c.unwrap-name.ensures ∙ c.parse_name.ensures) in
    let after = c.remove_all.ensures ∙ (λ i. finset.difference s.owners (owners_of (read.1 i) ((c.as_slice.ensures.value ∙ c.in_ok-ids.ensures) i))) in
    record { answer = refl; state = (λ id. λ i. record s { owners = after i }); err = tt; limits = refl }
