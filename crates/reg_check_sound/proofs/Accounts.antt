-- Accounts that pass stand for accounts.
use Rattle.reg_check_sound.proofs.Words.{list_all-map, account_columns, entry_of_account, row_of_account, account_from, registry_from}
use Rattle.reg_check_sound.proofs.Words.{IsKeyed}
use Rattle.reg_check_sound.proofs.Common.{◌≡◌, [], ◌∷◌, ◌∙◌, all_weaker, AllRows, ap, by_column, column, IsPermutation, list_all, map, maps_twice, Row, shows, subst, sym, Trees, true}
use Rattle.reg_model.specs.Sound as sound
use Rattle.reg_tables_represent.specs.Stands.{StandAccounts}
use Rattle.reg_check_sound.proofs.Passing.{Passing, accounts_are}
use Rattle.reg_check_sound.proofs.Shapes.{with_null, whole_rows, counted_are}

abbrev show : Row → Row
show = shows (0 ∷ 2 ∷ 3 ∷ 4 ∷ [])

told : (r : Row) → IsKeyed (0 ∷ 1 ∷ 2 ∷ 3 ∷ 4 ∷ []) r → with_null (show r) ≡ r
told r h = (λ i. column r 0 ∷ sym h.1 i ∷ column r 2 ∷ column r 3 ∷ column r 4 ∷ []) ∙ h.0

module _ (it : AllRows) (db : Trees) (h : Passing it db) where
  pub accounts_stand : StandAccounts (registry_from it db).accounts db
  accounts_stand =
      let list = it.accounts.items in
      let whole = all_weaker (IsKeyed (0 ∷ 1 ∷ 2 ∷ 3 ∷ 4 ∷ [])) (λ r. with_null (show r) ≡ r) told (db 1) h.rules.columns.accounts in
      let rows = whole_rows show with_null account_columns (by_column 0) (db 1) list whole h.are.accounts in
      let entries = sym (maps_twice entry_of_account row_of_account list) ∙ ap (map row_of_account) (counted_are (λ a. a.id) account_from 1 list (accounts_are it db h).counted) in
      record { rows = subst (λ xs. IsPermutation xs (db 1)) entries rows }

  pub accounts_sound : list_all sound.is_account (registry_from it db).accounts ≡ true
  accounts_sound = list_all-map sound.is_account account_from it.accounts.items ∙ (accounts_are it db h).whole
