use Rattle.reg_reference.proofs.Words.{[], ◌∷◌, ◌++◌, rules, sym, ◌∙◌, ap, canon, Registry, Publication, account_of, registry_of}
use Rattle.std.specs.FinSet as finset
use Rattle.reg_policy.specs.Events.{publication_of as new_publication}
use Rattle.reg_reference.proofs.Joined.{published_known, published_new}
use Rattle.reg_reference.proofs.plain.PlainRegistry.publish.Goals as goal
use Rattle.reg_reference.proofs.plain.PlainRegistry.publish.Goals.{then-exists+in_ok-add, else-exists+in_ok-add_first}

pub returns-clause-state : goal.returns-clause-state
returns-clause-state c =
    let s : Registry = registry_of c.args.self.now in
    let id = account_of s c.args.digest.now in
    let p : Publication = new_publication c.args.new.now in
    elim c.if-exists.branch [
      | then-exists+in_ok-add w ↦ ap registry_of w.self-is ∙ published_known s id p _ (w.in_ok-add.ensures.ok ∙ ap (λ q. s.publications ++ q ∷ []) c.in_ok-publication.ensures) (sym c.exists.ensures ∙ w.if-exists.true)
      | else-exists+in_ok-add_first w ↦ ap registry_of w.self-is ∙ published_new s id p _ (w.in_ok-add_first.ensures.ok ∙ ap (λ q. s.publications ++ q ∷ []) c.in_ok-publication.ensures) _ (sym c.exists.ensures ∙ w.if-exists.false)
          (w.in_ok-add_first.ensures.owner ∙ (λ i. finset.insert s.owners (canon (c.in_ok-publication.ensures i).name, c.account_of-account.ensures i)))
    ]

pub returns-in_err-publication-clause-err : goal.returns-in_err-publication-clause-err
returns-in_err-publication-clause-err c = search rules
