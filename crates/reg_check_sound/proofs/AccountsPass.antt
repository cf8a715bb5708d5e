-- Rows that stand for the accounts of a sound registry pass.
use Rattle.reg_check_sound.proofs.Words.{list_all-map, is_base, Account, about_columns, entry_of_account, heads, tails, words_are, Second}
use Rattle.reg_check_sound.proofs.Words.{is_some, accounts_pass, are_counted, has_account, is_account}
use Rattle.reg_check_sound.proofs.Common.{◌≡◌, ◌==◌, ◌+◌, [], ◌∷◌, ◌∙◌, ◌&&◌, AllRows, and_from, ap, Bool, enumerate_from, eq-eqb, IdAssignment, List, list_all, list_any, list_any_map, map, maps_twice, refl, Registry, shows, string_bytes, sym, Text, Trees, true, ℕ}
use Rattle.reg_model.specs.Sound as sound
use Rattle.reg_tables_represent.proofs.AccountEntries.{lists_accounts}
use Rattle.reg_tables_represent.proofs.Selected.{same_one}
use Rattle.reg_model.specs.Registry as model
use Rattle.reg_check_sound.proofs.Ids.{at_there}
use Rattle.reg_check_sound.proofs.Shown.{two_of_each}
use Rattle.reg_check_sound.proofs.Standing.{Standing}

pub are_places : {X : Type 0} (n : ℕ) (xs : List X) → are_counted n (map (λ e. e.0) (enumerate_from n xs)) ≡ true
are_places n [] = refl
are_places n (x ∷ xs) = and_from (n == n) _ (eq-eqb n n refl) (are_places (n + 1) xs)

pub each_value : {X : Type 0} (p : X → Bool) (n : ℕ) (xs : List X) → list_all (λ e. p e.1) (enumerate_from n xs) ≡ list_all p xs
each_value p n [] = refl
each_value p n (x ∷ xs) = ap (λ b. p x && b) (each_value p (n + 1) xs)

same_base : (a b : Text) → about_columns Second a ≡ about_columns Second b → a ≡ b
same_base a b e = words_are (heads (tails e))

module _ (it : AllRows) (db : Trees) (ids : IdAssignment) (s : Registry) (h : Standing it db ids s) where
  abbrev list : List Account
  list = it.accounts.items

  accounts_listed : map entry_of_account list ≡ enumerate_from 1 s.accounts
  accounts_listed = lists_accounts s.accounts db h.holds.stands.accounts list h.are.accounts

  -- an account that the registry has is there
  pub account_has : (id : ℕ) → is_some (model.with_id s.accounts id) ≡ true → has_account it id ≡ true
  account_has id there = sym (list_any_map (λ e. e.0 == id) entry_of_account list) ∙ ap (list_any (λ e. e.0 == id)) accounts_listed ∙ at_there s.accounts id there

  pub accounts_pass_so : accounts_pass it ≡ true
  accounts_pass_so =
      let base : string_bytes it.base ≡ s.base = same_base (string_bytes it.base) s.base (same_one (sym h.are.base ∙ two_of_each (db 0) ∙ ap (map (shows (0 ∷ 1 ∷ []))) h.holds.stands.about)) in
      let ids : map (λ a. a.id) list ≡ map (λ e. e.0) (enumerate_from 1 s.accounts) = sym (maps_twice entry_of_account (λ e. e.0) list) ∙ ap (map (λ e. e.0)) accounts_listed in
      let counted = ap (are_counted 1) ids ∙ are_places 1 s.accounts in
      let whole = sym (list_all-map (λ e. sound.is_account e.1) entry_of_account list) ∙ ap (list_all (λ e. sound.is_account e.1)) accounts_listed ∙ each_value sound.is_account 1 s.accounts ∙ h.holds.sound.accounts in
      and_from (is_base (string_bytes it.base)) _ (ap is_base base ∙ h.holds.sound.base) (and_from (are_counted 1 (map (λ a. a.id) list)) (list_all is_account list) counted whole)
