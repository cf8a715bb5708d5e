-- What the program read of the rows.
use Rattle.std.specs.Prelude.{◌≡◌, ◌||◌, if◌then◌else◌, ℕ, pos, not, Bool, true, is_some, List, [], ◌∷◌, Option, Some, None}
use Rattle.std.specs.Option.{option_map}
use Rattle.sqlite.specs.Order.{Row}
use Rattle.sqlite.specs.Tree.{Trees}
use Rattle.sqlite.specs.declared.types.Value.{Value}
use Rattle.sqlite.specs.declared.types.Value.TheVariants.{Null, Int, Text}
use Rattle.reg_names.specs.Names.{canon}
use Rattle.reg_model.specs.Registry.{Text as Bytes, holds}
use Rattle.reg_model.specs.Actions.{Action, crate_of}
use Rattle.reg_model.specs.Facts.{Access, lists}
use Rattle.reg_tables_schema.specs.Rows.{number_columns}
use Rattle.reg_tables_schema.specs.Shown.{shown_of}
use Rattle.reg_tables_sql.specs.declared.tokens.TokenRow.{TokenRow}
use Rattle.reg_access.specs.declared.found.CrateRow.{CrateRow}
use Rattle.reg_access.specs.declared.finding.CrateFacts.{CrateFacts}
use Rattle.reg_access.specs.JoinRows.{against_rows, crates_seen_by, is_there, named_rows, scopes_over}
use Rattle.reg_access.specs.Verdict.{is_always_reserved, needs_scope}

abbrev pub number_or_null : Option ℕ → Value
number_or_null None = Null
number_or_null (Some n) = Int (pos n)

abbrev pub columns_of_crate : CrateRow → Row
columns_of_crate it =
    Int (pos it.id) ∷ Text it.name ∷ number_or_null it.owner ∷ number_or_null it.restricted
    ∷ number_or_null it.reader ∷ []

-- the rows of a crate that was found, or of none
abbrev pub rows_of : Option CrateRow → List Row
rows_of = shown_of columns_of_crate

abbrev pub spelling_in : Option CrateRow → Option Bytes
spelling_in = option_map (λ r. r.name)

abbrev pub is_owned : Option CrateRow → Bool
is_owned = holds (λ r. is_some r.owner)

abbrev pub is_visible : Option CrateRow → Bool
is_visible = holds (λ r. not (is_some r.restricted) || (is_some r.owner || is_some r.reader))

-- the scopes that a token with this id has over the crate of an action, if it needs one
abbrev pub scopes_asked : Action → ℕ → Trees → List Row
scopes_asked a token db =
    if needs_scope a
    then lists (λ n. scopes_over (Int (pos token)) (canon n) db) (crate_of a)
    else []

-- this is what the texts tell of the crate of an action, to a token with this id and this account
pub record AreFound (a : Action) (token account : ℕ) (db : Trees) (it : CrateFacts) : Type 0 where
  pub covered : is_there (scopes_asked a token db) ≡ it.covered
  pub row : lists (λ n. crates_seen_by (canon n) (Int (pos account)) db) (crate_of a)
      ≡ rows_of it.row
  pub version : named_rows a (rows_of it.row) db ≡ shown_of number_columns it.version
  pub against : is_there (against_rows a (rows_of it.row) db) ≡ it.against

-- the facts that a token and what was found are
abbrev pub facts_found : Action → TokenRow → CrateFacts → Access
facts_found a t it = record {
  is_known = true;
  is_live = t.live;
  is_enabled = t.enabled;
  endpoints = t.endpoints;
  is_covered = it.covered;
  first = spelling_in it.row;
  is_visible = is_visible it.row;
  is_owner = is_owned it.row;
  is_reserved = is_always_reserved a || it.against;
  has_version = is_some it.version;
  has_release = it.against;
}
