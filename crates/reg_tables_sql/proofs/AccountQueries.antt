-- What the queries on accounts answer.
use Rattle.reg_tables_sql.proofs.Words.{ℕ, List, [], ◌∷◌, codes, map, Option, refl, Text, Binary, ascending, Term, col, inner, end, overlay}
use Rattle.reg_tables_sql.proofs.Words.{State, ours, IsInside, IsSelection, selected, number_columns, shown_of, is_text, greatest}
use Rattle.reg_tables_sql.proofs.Words.{greatest_of, plain, of_table, shown_exactly, in_order, equals_first, matches_text, all_in_order}
use Rattle.reg_tables_sql.proofs.Words.{Account, account_columns, IsLastId}
use Rattle.sqlite.specs.Listing.{understood}
use Rattle.sqlite.specs.State.{Shown}
use Rattle.sqlite_tied.specs.Compute.{everything}
use Rattle.reg_tables_sql.specs.declared.accounts.TheConstants.{ALL_TEXT, BY_LOGIN_TEXT, LAST_ID_TEXT}
use Rattle.reg_tables_sql.specs.Accounts.{AreAccounts, IsAccountOfLogin}

abbrev project : List Term
project = col 1 0 ∷ col 1 2 ∷ col 1 3 ∷ col 1 4 ∷ []

abbrev names : List (List ℕ)
names = codes "id" ∷ codes "login" ∷ codes "name" ∷ codes "enabled" ∷ []

pub by_login_is : IsSelection ours BY_LOGIN_TEXT.now (plain (inner 1 end) (equals_first 2) project) (names)
unfolding understood everything
by_login_is = record { command = refl; unlisted = refl; plain = (refl, refl) }

pub by_login : (old new : State) (login : List ℕ) (found : Option Account) → IsInside old
    → Shown BY_LOGIN_TEXT.now (Text login ∷ []) old new (shown_of account_columns found) → IsAccountOfLogin login old.now.trees found
by_login old new login found at h =
    let db = overlay old.now.trees [] in
    shown_exactly account_columns _ found
    (of_table db (Text login ∷ []) 1 (equals_first 2) project _ (is_text 2 login) (matches_text db 1 2 login) (selected by_login_is (Text login ∷ []) old new _ at h))

pub listed_is : IsSelection ours ALL_TEXT.now (in_order (inner 1 end) [] project ((col 1 0, ascending Binary) ∷ [])) (names)
unfolding understood everything
listed_is = record { command = refl; unlisted = refl; plain = (refl, refl) }

pub listed : (old new : State) (list : List Account) → IsInside old → Shown ALL_TEXT.now [] old new (map account_columns list) → AreAccounts old.now.trees list
listed old new list at h = all_in_order (overlay old.now.trees []) [] 1 project _ 0 (selected listed_is [] old new _ at h)

pub last_is : IsSelection ours LAST_ID_TEXT.now (greatest 1) (codes "id" ∷ [])
unfolding understood everything
last_is = record { command = refl; unlisted = refl; plain = (refl, refl) }

pub last : (old new : State) (id : Option ℕ) → IsInside old → Shown LAST_ID_TEXT.now [] old new (shown_of number_columns id) → IsLastId 1 old.now.trees id
last old new id at h = greatest_of (overlay old.now.trees []) 1 _ (selected last_is [] old new _ at h)
