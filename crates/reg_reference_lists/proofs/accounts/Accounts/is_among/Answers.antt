use Rattle.reg_reference_lists.proofs.Words.{ℕ, Bool, ◌∙◌, sym, ap, ◌&&◌}
use Rattle.std.specs.FinSet as finset
use Rattle.reg_reference_lists.proofs.Owned.{among_owned}
use Rattle.reg_reference_lists.proofs.accounts.Accounts.is_among.Goals as goal

pub returns-then-has : goal.returns-then-has
returns-then-has c =
    let p : ℕ → Bool = λ id. finset.contains c.args.owners.now (c.args.crate_text.now, id) in
    c.contains.ensures ∙ ap (λ b. b && p c.args.account) (sym c.if-has.true ∙ c.has.ensures) ∙ sym (among_owned p c.args.account c.args.self.now)

pub returns-else-has : goal.returns-else-has
returns-else-has c =
    let p : ℕ → Bool = λ id. finset.contains c.args.owners.now (c.args.crate_text.now, id) in
    c.if-has.false ∙ ap (λ b. b && p c.args.account) (sym c.if-has.false ∙ c.has.ensures) ∙ sym (among_owned p c.args.account c.args.self.now)
