-- The login of an account, by all accounts in the order of their ids.
use Rattle.reg_service_commands.proofs.Words.{◌≡◌, ◌==◌, ◌-◌, ℕ, ◌+◌, List, [], ◌∷◌, map, Bool, true, false, cond, None, refl, sym, ap, ◌∙◌}
use Rattle.reg_service_commands.proofs.Words.{slice_get, unwrap_or, enumerate_from, option_map, Registry, with_id, maps_twice, Account}
use Rattle.reg_service_commands.proofs.Words.{entry_of_account, login_among}
use Rattle.reg_model.specs.Registry as model
use Rattle.reg_model.specs.Reports.{login_of}
use Rattle.reg_tables_represent.proofs.SummaryRows.{got_map, mapped}

elements : {X : Type 0} (n : ℕ) (xs : List X) → map (λ (e : ℕ × X). e.1) (enumerate_from n xs) ≡ xs
elements n [] = refl
elements n (x ∷ xs) = ap (λ l. x ∷ l) (elements (n + 1) xs)

with_mapped : {X Y : Type 0} (f : X → Y) (xs : List X) (id : ℕ) → with_id (map f xs) id ≡ option_map f (with_id xs id)
with_mapped f xs id = by (id == 0)
  where
    by : (b : Bool) → cond b None (slice_get (map f xs) (id - 1)) ≡ option_map f (cond b None (slice_get xs (id - 1)))
    by true = refl
    by false = got_map f (id - 1) xs

abbrev account_of : Account → model.Account
account_of a = (entry_of_account a).1

pub login_is : (s : Registry) (accounts : List Account) → map entry_of_account accounts ≡ enumerate_from 1 s.accounts → (id : ℕ) → login_among accounts id ≡ login_of s id
login_is s accounts lists id =
    let all : map account_of accounts ≡ s.accounts = sym (maps_twice entry_of_account (λ (e : ℕ × model.Account). e.1) accounts) ∙ ap (map (λ (e : ℕ × model.Account). e.1)) lists ∙ elements 1 s.accounts in
    ap (λ o. unwrap_or o []) (sym (mapped (λ a. a.login) account_of (with_id accounts id)) ∙ ap (option_map (λ a. a.login)) (sym (with_mapped account_of accounts id) ∙ ap (λ l. with_id l id) all))
