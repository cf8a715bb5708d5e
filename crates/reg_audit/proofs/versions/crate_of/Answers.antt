use Rattle.reg_audit.proofs.Words.{◌≡◌, ◌∙◌, ap, arith, sym, Some, None, ◌==◌, position_from, slice_get}
use Rattle.std.specs.Option.{option_copied}
use Rattle.reg_audit.proofs.Sets.{at_place, found_at, found_nowhere}
use Rattle.reg_audit.proofs.versions.crate_of.Goals as goal

pub returns-in-Some : goal.returns-in-Some
returns-in-Some c =
    let crates = c.args.rows.now.crates.items in
    let at : position_from (λ it. it.id == c.args.id) 0 crates ≡ Some c.in-Some.place.now = sym (c.requires c.args.id) ∙ sym c.get.ensures.value ∙ ap option_copied c.in-Some.is in
    let got = c.get-in-Some.ensures.lookup in
    at_place (λ it. it.now) c.deref.result.now c.in-Some.place.now c.get-in-Some.result got.0 (got.4 (omega arith)) ∙ ap (λ xs. slice_get xs c.in-Some.place.now) c.deref.ensures.value ∙ found_at _ crates c.in-Some.place.now at

pub returns-in-None : goal.returns-in-None
returns-in-None c =
    let crates = c.args.rows.now.crates.items in
    let none : position_from (λ it. it.id == c.args.id) 0 crates ≡ None = sym (c.requires c.args.id) ∙ sym c.get.ensures.value ∙ ap option_copied c.in-None.is in
    sym (found_nowhere _ crates none)
