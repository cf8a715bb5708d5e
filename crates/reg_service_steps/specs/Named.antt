-- What the texts of a request or of a command name.
use Rattle.std.specs.Prelude.{◌≡◌, ◌&&◌, ℕ, true, false, Option, None, Some, string_bytes}
use Rattle.sqlite.specs.Tree.{Trees}
use Rattle.reg_names.specs.Names.{canon, is_name}
use Rattle.reg_model.specs.Crates.{exists, first, viewer}
use Rattle.reg_model.specs.Registry.{Registry, Text}
use Rattle.reg_tables_sql.specs.declared.crates.Crate.{Crate}
use Rattle.reg_tables_represent.specs.Calls.{Tells}
use Rattle.reg_tables_represent.specs.Stands.{IdAssignment, spelling_at}

-- the crate with this id has a spelling of a name
abbrev pub IsSpelled : IdAssignment → Text → ℕ → Type 0
IsSpelled ids name id = (n : Text) × (spelling_at ids id ≡ Some n) × (canon n ≡ canon name)

-- it is named by a text, in one of its spellings
abbrev pub IsNamed : IdAssignment → Registry → Text → ℕ → Type 0
IsNamed ids s text id = ((is_name text && exists s text) ≡ true) × IsSpelled ids text id

-- it is named by a text, and has this spelling
pub record IsSpelledBy (ids : IdAssignment) (s : Registry) (text : Text) (it : Crate) : Type 0 where
  pub name : is_name text ≡ true
  pub first : first s text ≡ Some (string_bytes it.name)
  pub at : spelling_at ids it.id ≡ Some (string_bytes it.name)

-- the crate that a text names; none where the text is no name or no crate has it
abbrev pub FindsNamed : Text → Trees → Option Crate → Type 0
FindsNamed text db None = Tells (λ ids s. (is_name text && exists s text) ≡ false) db
FindsNamed text db (Some it) = Tells (λ ids s. IsSpelledBy ids s text it) db

-- the account of the token with this digest
abbrev pub IsViewer : Text → ℕ → Trees → Type 0
IsViewer digest id db = Tells (λ ids s. viewer s digest ≡ Some id) db
