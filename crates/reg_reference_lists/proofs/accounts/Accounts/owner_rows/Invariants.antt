use Rattle.reg_reference_lists.proofs.Words.{◌≡◌, map, take, id_and_login, row_view, account_of, owned}
use Rattle.reg_reference_lists.proofs.accounts.Accounts.owner_rows.Given as goal

-- those so far are of the accounts so far
abbrev pub invariant-loop-account : goal.invariant-loop-account
invariant-loop-account l =
    (l.id ≡ l.account-index)
    × (map row_view l.rows.items ≡ map id_and_login (owned l.owners l.crate_text (map account_of (take l.account-index l.account-items))))
