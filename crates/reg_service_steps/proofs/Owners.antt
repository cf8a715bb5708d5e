-- Owners of a crate, by their logins.
use Rattle.std.proofs.Common.{◌≡◌, ℕ, List, [], Option, Some, sym, ap, ◌∙◌}
use Rattle.std.specs.Prelude.{map, string_bytes}
use Rattle.std.specs.FinSet as finset
use Rattle.std.specs.List.{enumerate_from, filter, list_any}
use Rattle.std.specs.Str.{bytes_eq}
use Rattle.reg_names.specs.Names.{canon}
use Rattle.reg_model.specs.Crates.{owners, owns}
use Rattle.reg_model.specs.Facts.{has_login}
use Rattle.reg_model.specs.Registry.{Registry, Text, holds, id_of_login}
use Rattle.reg_model.specs.Registry as model
use Rattle.reg_model.specs.Sound.{Sound}
use Rattle.reg_model.proofs.Lists.{list_any_map}
use Rattle.reg_tables_sql.specs.declared.accounts.Account.{Account}
use Rattle.reg_tables_represent.specs.Changes.{told_of}
use Rattle.reg_tables_represent.specs.Entries.{entry_of_account}
use Rattle.reg_service_steps.proofs.Placed.{login_passes}

-- those who are listed are the owners, so that one has the login where the account owns the crate
pub one_owns : (s : Registry) → Sound s → (n m l : Text) (o : Option Text) (list : List Account) → o ≡ Some m → canon m ≡ canon n → map entry_of_account list ≡ told_of o [] (owners s)
    → list_any (λ a. bytes_eq (string_bytes a.login) l) list ≡ holds (owns s n) (id_of_login s l)
one_owns s sound n m l o list at same lists =
    let are : map entry_of_account list ≡ owners s n = lists ∙ ap (λ o. told_of o [] (owners s)) at ∙ ap (λ c. filter (λ o. finset.contains s.owners (c, o.0)) (enumerate_from 1 s.accounts)) same in
    sym (list_any_map (λ (e : ℕ × model.Account). bytes_eq e.1.login l) entry_of_account list) ∙ ap (λ os. has_login os l) are ∙ login_passes s sound (owns s n) l
