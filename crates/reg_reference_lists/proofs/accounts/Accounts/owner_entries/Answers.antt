-- One more account: an owner has an entry, and another has none.
use Rattle.reg_reference_lists.proofs.Words.{ℕ, Bool, ◌+◌, ◌<◌, ◌∙◌, length, arith, ap, sym, owner_entry, account_of, entry_of}
use Rattle.std.specs.FinSet as set
use Rattle.reg_reference_lists.proofs.Listed.{none_more, one_more}
use Rattle.reg_reference_lists.proofs.accounts.Accounts.owner_entries.Goals as goal
use Rattle.reg_reference_lists.proofs.accounts.Accounts.owner_entries.Goals.{then-contains+in_ok-entry+in_ok-push, else-contains}

pub loop-account-preserved : goal.loop-account-preserved
loop-account-preserved c =
    let h : c.loop-account.account-index < length c.deref-account-items.result.now = omega arith in
    let owns : ℕ → Bool = λ id. set.contains c.args.owners.now (c.args.crate_text.now, id) in (
      ap (λ i. i + 1) c.loop-account.invariant.0,
      elim c.if-contains.branch [
        | then-contains+in_ok-entry+in_ok-push b ↦ one_more owns account_of owner_entry entry_of _ _ _ _ _ _ _ h c.loop-account.invariant.0 c.account-item.is (sym c.contains.ensures ∙ b.if-contains.true) b.in_ok-entry.ensures (ap (λ v. v.items) b.entries-is ∙ b.in_ok-push.ensures.items) c.loop-account.invariant.1
        | else-contains b ↦ none_more owns account_of owner_entry entry_of _ _ c.deref-account-items.result.now _ _ c.account-item.result h c.loop-account.invariant.0 (sym c.contains.ensures ∙ b.if-contains.false) (ap (λ v. v.items) b.entries-is) c.loop-account.invariant.1
      ],
    )
