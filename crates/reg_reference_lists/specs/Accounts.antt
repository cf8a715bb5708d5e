-- What is asked of a list of accounts.
use Rattle.std.specs.Prelude.{ℕ, Bool, List, [], Option, string_bytes, unwrap_or}
use Rattle.std.specs.Option.{option_map}
use Rattle.std.specs.List.{filter, enumerate_from, position_from}
use Rattle.std.specs.Str.{bytes_eq}
use Rattle.std.specs.FinSet as finset
use Rattle.reg_model.specs.Registry as model
use Rattle.reg_model.specs.Registry.{Text, owner_cmp, holds, with_id}
use Rattle.reg_reference_lists.specs.declared.accounts.PlainAccount.{PlainAccount}

abbrev pub account_of : PlainAccount → model.Account
account_of a = record {
  login = a.login;
  name = option_map string_bytes a.name;
  enabled = a.enabled;
}

-- the id of the account with this login
abbrev pub id_in : List model.Account → Text → Option ℕ
id_in accounts login = position_from (λ a. bytes_eq a.login login) 1 accounts

-- whether an enabled account has this login
abbrev pub is_known_in : List model.Account → Text → Bool
is_known_in accounts login = holds (λ id. holds (λ a. a.enabled) (with_id accounts id))
    (id_in accounts login)

-- the login of the account with this id
abbrev pub login_in : List model.Account → ℕ → Text
login_in accounts id = unwrap_or (option_map (λ a. a.login) (with_id accounts id)) []

-- the accounts that own a crate, each behind its id, by id
abbrev pub owned : finset.FinSet owner_cmp → Text → List model.Account → List (ℕ × model.Account)
owned owners c accounts = filter (λ o. finset.contains owners (c, o.0)) (enumerate_from 1 accounts)
