-- Accounts that selections show.
use Rattle.reg_tables_represent.proofs.Words.{IfSome, filter, enumerate_from, position_from, Value, Int, value_cmp-Text, sql_bool, IsInOrder}
use Rattle.reg_tables_represent.proofs.Words.{by_column, account_columns, entry_of_account, one_of, row_of_account, StandAccounts, is_text}
use Rattle.reg_tables_represent.proofs.Words.{shows}
use Rattle.reg_tables_represent.proofs.Numbered.{found_at, none_placed, one_placed}
use Rattle.reg_tables_represent.proofs.Common.{◌≡◌, [], ◌∷◌, ◌∙◌, ap, Bool, bytes_eq, false, is_eq, is_eq-slice_cmp, List, map, None, Option, option_map, pos, refl, Row, shown_of, Some, Trees, true, value_cmp, ℕ}
use Rattle.sqlite.specs.declared.types.Value.TheVariants.{Text}
use Rattle.reg_model.specs.Registry as model
use Rattle.reg_tables_schema.specs.Rows.{text_or_null}
use Rattle.reg_tables_sql.specs.declared.accounts.Account.{Account}
use Rattle.reg_tables_represent.proofs.Selected.{selected_one, selected_in_order, column_total, places_rise}

pub same_text : (t u : List ℕ) → is_eq (value_cmp (Text t) (Text u)) ≡ bytes_eq t u
same_text t u = ap is_eq (value_cmp-Text t u) ∙ is_eq-slice_cmp t u

pub text_is : (a b : Option (List ℕ)) → text_or_null a ≡ text_or_null b → a ≡ b
text_is None None h = refl
text_is (Some t) None h = absurd cc
text_is None (Some u) h = absurd cc
text_is (Some t) (Some u) h = cc

pub mark_is : (a b : Bool) → sql_bool a ≡ sql_bool b → a ≡ b
mark_is true true h = refl
mark_is true false h = absurd cc
mark_is false true h = absurd cc
mark_is false false h = refl

pub heads : {a b : Value} {xs ys : Row} → ◌≡◌ {A = Row} (a ∷ xs) (b ∷ ys) → a ≡ b
heads e = cc

pub tails : {a b : Value} {xs ys : Row} → ◌≡◌ {A = Row} (a ∷ xs) (b ∷ ys) → xs ≡ ys
tails e = cc

pub number_is : {n m : ℕ} → Int (pos n) ≡ Int (pos m) → n ≡ m
number_is e = cc

pub words_are : {t u : List ℕ} → Text t ≡ Text u → t ≡ u
words_are e = cc

pub same_account : (e : ℕ × model.Account) (a : Account) → shows (0 ∷ 2 ∷ 3 ∷ 4 ∷ []) (row_of_account e) ≡ account_columns a → e ≡ entry_of_account a
same_account e a h =
    let id = number_is (heads h) in
    let login = words_are (heads (tails h)) in
    let name = text_is _ _ (heads (tails (tails h))) in
    let enabled = mark_is _ _ (heads (tails (tails (tails h)))) in
    λ i. (id i, record { login = login i; name = name i; enabled = enabled i })

module _ (accounts : List model.Account) (db : Trees) (stands : StandAccounts accounts db) where
  pub finds_account : (login : List ℕ) (found : Option Account) → map (shows (0 ∷ 2 ∷ 3 ∷ 4 ∷ [])) (filter (is_text 2 login) (db 1)) ≡ shown_of account_columns found
      → filter (λ e. bytes_eq e.1.login login) (enumerate_from 1 accounts) ≡ one_of (option_map entry_of_account found)
  finds_account login found h =
      selected_one row_of_account (shows (0 ∷ 2 ∷ 3 ∷ 4 ∷ [])) account_columns entry_of_account same_account (is_text 2 login) (λ e. bytes_eq e.1.login login) (λ e. same_text e.1.login login) (enumerate_from 1 accounts) (db 1) found stands.rows h

  pub lists_accounts : (list : List Account) → IsInOrder (by_column 0) (db 1) (shows (0 ∷ 2 ∷ 3 ∷ 4 ∷ [])) (map account_columns list) → map entry_of_account list ≡ enumerate_from 1 accounts
  lists_accounts list h =
      selected_in_order row_of_account (shows (0 ∷ 2 ∷ 3 ∷ 4 ∷ [])) account_columns entry_of_account same_account (by_column 0) (column_total 0) (enumerate_from 1 accounts) (db 1) list stands.rows (places_rise row_of_account (λ e. refl) 1 accounts) h

  -- the account that is found has its login first, and its id
  pub account_found : (login : List ℕ) (found : Option Account) → map (shows (0 ∷ 2 ∷ 3 ∷ 4 ∷ [])) (filter (is_text 2 login) (db 1)) ≡ shown_of account_columns found
      → (option_map (λ a. a.id) found ≡ position_from (λ a. bytes_eq a.login login) 1 accounts) × IfSome found (λ a. model.with_id accounts a.id ≡ Some (entry_of_account a).1)
  account_found login None h = (none_placed (λ a. bytes_eq a.login login) 1 accounts (finds_account login None h), tt)
  account_found login (Some a) h =
      let one = finds_account login (Some a) h in
      (one_placed (λ a. bytes_eq a.login login) 1 accounts (entry_of_account a) one, found_at (λ e. bytes_eq e.1.login login) a.id (entry_of_account a).1 accounts one)
