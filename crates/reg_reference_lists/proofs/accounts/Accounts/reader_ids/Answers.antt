-- One more account: a reader has its id, and another has none.
use Rattle.reg_reference_lists.proofs.Words.{ℕ, Bool, ◌+◌, ◌<◌, ◌∙◌, length, arith, ap, sym, refl, account_of}
use Rattle.std.specs.FinSet as set
use Rattle.reg_reference_lists.proofs.Listed.{none_more, one_more}
use Rattle.reg_reference_lists.proofs.accounts.Accounts.reader_ids.Goals as goal
use Rattle.reg_reference_lists.proofs.accounts.Accounts.reader_ids.Goals.{then-contains+in_ok-push, else-contains}

pub loop-account-preserved : goal.loop-account-preserved
loop-account-preserved c =
    let h : c.loop-account._account-index < length c.deref-account-items.result.now = omega arith in
    let reads : ℕ → Bool = λ id. set.contains c.args.readers.now (c.args.crate_text.now, id) in (
      ap (λ i. i + 1) c.loop-account.invariant.0,
      elim c.if-contains.branch [
        | then-contains+in_ok-push b ↦ one_more reads account_of (λ o. o.0) (λ i. i) _ _ _ _ _ _ _ h c.loop-account.invariant.0 c._account-item.is (sym c.contains.ensures ∙ b.if-contains.true) refl (ap (λ v. v.items) b.ids-is ∙ b.in_ok-push.ensures.items) c.loop-account.invariant.1
        | else-contains b ↦ none_more reads account_of (λ o. o.0) (λ i. i) _ _ c.deref-account-items.result.now _ _ c._account-item.result h c.loop-account.invariant.0 (sym c.contains.ensures ∙ b.if-contains.false) (ap (λ v. v.items) b.ids-is) c.loop-account.invariant.1
      ],
    )
