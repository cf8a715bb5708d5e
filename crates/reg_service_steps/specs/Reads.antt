-- What requests read of the tables.
use Rattle.std.specs.Prelude.{◌≡◌, Bool}
use Rattle.sqlite.specs.Tree.{Trees}
use Rattle.reg_model.specs.Effects.{owner_entry}
use Rattle.reg_model.specs.Events.{OwnerEntry}
use Rattle.reg_model.specs.Registry.{Text}
use Rattle.reg_tables_sql.specs.declared.accounts.Account.{Account}
use Rattle.reg_tables_sql.specs.declared.versions.Version.{Version}
use Rattle.reg_tables_represent.specs.Calls.{Tells}
use Rattle.reg_tables_represent.specs.Entries.{entry_of_account}

-- the stem of a version's index line, and its yanked mark
abbrev pub entry_of_version : Version → Text × Bool
entry_of_version v = (v.stem.items, v.yanked)

-- an account as owner lists show it
abbrev pub owner_of_account : Account → OwnerEntry
owner_of_account a = owner_entry (entry_of_account a)

-- the base of the registry
abbrev pub TellsBase : Trees → Text → Type 0
TellsBase db base = Tells (λ ids s. base ≡ s.base) db
