use Rattle.reg_reference_lists.proofs.Words.{◌≡◌, map, take, account_of, owned}
use Rattle.reg_reference_lists.proofs.accounts.Accounts.reader_ids.Given as goal

-- those so far are of the accounts so far
abbrev pub invariant-loop-account : goal.invariant-loop-account
invariant-loop-account l =
    (l.id ≡ l._account-index)
    × (map (λ i. i) l.ids.items ≡ map (λ o. o.0) (owned l.readers l.crate_text (map account_of (take l._account-index l._account-items))))
