use Rattle.reg_audit.proofs.Words.{◌≡◌, Bool, true, false, Some, [], ◌∷◌, refl, sym, ap, subst, ◌∙◌, inl, inr, list_all, archives_with_id}
use Rattle.reg_audit.proofs.Words.{seen, IsFirstOf, is_archive}
use Rattle.reg_audit.specs.declared.check.Check.TheVariants.{C1, C2, C3, C4, C5, C6, C7, C8}
use Rattle.reg_audit.proofs.Orders.{first_in_some, first_then}
use Rattle.reg_audit.proofs.Sets.{none_of}
use Rattle.reg_audit.proofs.opening.first_failing.Goals as goal

no_rest : {b : Bool} → b ≡ true → b ≡ false → ⊥
no_rest h e = absurd cc

pub returns-then-is_some-clause-found : goal.returns-then-is_some-clause-found
returns-then-is_some-clause-found g c clean =
    first_in_some (C1 ∷ C2 ∷ C3 ∷ []) (C4 ∷ C5 ∷ C6 ∷ C7 ∷ C8 ∷ []) c.args.rows.now (seen g.S.Store c.args.work.now).now.trees c.in_ok-before.before (sym c.is_some.ensures ∙ c.if-is_some.true) (c.in_ok-before.ensures (seen g.S.Store c.args.work.now).now.trees)

pub returns-then-not-branch-clause-found : goal.returns-then-not-branch-clause-found
returns-then-not-branch-clause-found g c clean =
    let it = c.args.rows.now in
    let db = (seen g.S.Store c.args.work.now).now.trees in
    let none = none_of c.in_ok-before.before (sym c.is_some.ensures ∙ c.if-is_some.false) in
    let before = subst (IsFirstOf (C1 ∷ C2 ∷ C3 ∷ []) it db) none (c.in_ok-before.ensures db) in
    let fails = ap (λ vs. list_all (λ v. is_archive v.digest.items (archives_with_id v.id db)) vs) (sym c.deref.ensures.value) ∙ sym (c.in_ok-archives_pass.ensures.found clean) ∙ c.if-not-branch.true in
    first_then (C1 ∷ C2 ∷ C3 ∷ []) (C4 ∷ C5 ∷ C6 ∷ C7 ∷ C8 ∷ []) it db (Some C4) before (inr (λ passes. no_rest passes fails, refl))

pub returns-clause-found : goal.returns-clause-found
returns-clause-found g c clean =
    let it = c.args.rows.now in
    let db = (seen g.S.Store c.args.work.now).now.trees in
    let none = none_of c.in_ok-before.before (sym c.is_some.ensures ∙ c.if-is_some.false) in
    let before = subst (IsFirstOf (C1 ∷ C2 ∷ C3 ∷ []) it db) none (c.in_ok-before.ensures db) in
    let passes = ap (λ vs. list_all (λ v. is_archive v.digest.items (archives_with_id v.id db)) vs) (sym c.deref.ensures.value) ∙ sym (c.in_ok-archives_pass.ensures.found clean) ∙ c.if-not-branch.false in
    first_then (C1 ∷ C2 ∷ C3 ∷ []) (C4 ∷ C5 ∷ C6 ∷ C7 ∷ C8 ∷ []) it db c.in_ok-after.after before (inl (passes, c.in_ok-after.ensures db))
