use Rattle.reg_reference_lists.proofs.Words.{◌≡◌, map, take, owner_entry, entry_of, account_of, owned}
use Rattle.reg_reference_lists.proofs.accounts.Accounts.owner_entries.Given as goal

-- those so far are of the accounts so far
abbrev pub invariant-loop-account : goal.invariant-loop-account
invariant-loop-account l =
    (l.id ≡ l.account-index)
    × (map entry_of l.entries.items ≡ map owner_entry (owned l.owners l.crate_text (map account_of (take l.account-index l.account-items))))
