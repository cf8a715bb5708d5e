-- The checks of all rows, when a store is opened.
use Rattle.std.specs.Prelude.{◌≡◌, ◌⊎◌, ℕ, ◌+◌, ◌==◌, ◌&&◌, ◌||◌, Bool, true, false, not, List, [], ◌∷◌, Option, None, Some, filter, length, map, string_bytes}
use Rattle.std.specs.List.{AllByRecursion, find, list_all, list_any}
use Rattle.std.specs.Option.{option_map}
use Rattle.std.specs.Str.{bytes_eq}
use Rattle.sha2.specs.Sha256.{sha256}
use Rattle.sqlite.specs.Order.{Row}
use Rattle.sqlite.specs.Tree.{Trees}
use Rattle.sqlite.specs.declared.types.Value.TheVariants.{Blob, Int}
use Rattle.reg_names.specs.Logins.{is_login}
use Rattle.reg_names.specs.Names.{canon, is_name}
use Rattle.reg_names.specs.Patterns.{is_pattern}
use Rattle.reg_names.specs.Ranges.{range_of}
use Rattle.reg_versions.specs.Versions.{is_version, release_key_of}
use Rattle.reg_line.specs.Base.{is_base}
use Rattle.reg_line.specs.StemCheck.{IsStemOf}
use Rattle.reg_model.specs.Crates.{is_reserved_always}
use Rattle.reg_model.specs.Refusals.{may_name}
use Rattle.reg_model.specs.Sound.{has_some}
use Rattle.reg_tables_sql.specs.Archives.{archives_with_id}
use Rattle.reg_tables_sql.specs.declared.accounts.Account.{Account}
use Rattle.reg_tables_rows.specs.declared.all_rows.AllRows.{AllRows}
use Rattle.reg_tables_sql.specs.declared.crates.Crate.{Crate}
use Rattle.reg_tables_sql.specs.declared.scopes.Scope.{Scope}
use Rattle.reg_tables_sql.specs.declared.summaries.Summary.{Summary}
use Rattle.reg_tables_sql.specs.declared.tokens.Token.{Token}
use Rattle.reg_tables_sql.specs.declared.versions.Version.{Version}
use Rattle.reg_tables_represent.specs.Summaries.{ShownMark, highest_in, length_in}
use Rattle.reg_audit.specs.declared.check.Check.{Check}
use Rattle.reg_audit.specs.declared.check.Check.TheVariants.{C1, C2, C3, C4, C5, C6, C7, C8}

-- the numbers from this one on, without a gap
abbrev pub are_counted : ℕ → List ℕ → Bool
are_counted from [] = true
are_counted from (n ∷ rest) = n == from && are_counted (from + 1) rest

abbrev pub is_account : Account → Bool
is_account a = is_login (string_bytes a.login) && may_name (option_map string_bytes a.name)

-- C1: the base is one; the accounts' ids are 1 to their number, their logins and names well formed
abbrev pub accounts_pass : AllRows → Bool
accounts_pass it = is_base (string_bytes it.base)
    && (are_counted 1 (map (λ a. a.id) it.accounts.items) && list_all is_account it.accounts.items)

abbrev pub is_token : Token → Bool
is_token t = length t.digest.items == 32 && has_some t.endpoints

-- a pattern, and its range
abbrev pub is_scope : Scope → Bool
is_scope s =
    let range = range_of (string_bytes s.pattern) in
    is_pattern (string_bytes s.pattern) && (bytes_eq (string_bytes s.low) range.low && bytes_eq
    (string_bytes s.high) range.high)

-- After the scope of this token at this place, each comes at the next place of its token or at
-- place 0 of the next token, up to the last token.
abbrev pub follow : ℕ → ℕ → ℕ → List Scope → Bool
follow last token place [] = token == last
follow last token place (s ∷ rest) = ((s.token == token && s.place == place + 1)
    || (s.token == token + 1 && s.place == 0)) && follow last s.token s.place rest

-- The scopes of the tokens 1 to the last, each with one or more at places 0 onwards: the first is
-- that of token 1 at place 0.
abbrev pub are_placed : ℕ → List Scope → Bool
are_placed last [] = last == 0
are_placed last (s ∷ rest) = (s.token == 1 && s.place == 0) && follow last s.token s.place rest

-- C2: the tokens' ids are 1 to their number, each with a digest of 32 bytes, an endpoint and one or
-- more patterns at places 0 onwards, whose ranges are the compiled ones
abbrev pub tokens_pass : AllRows → Bool
tokens_pass it =
    (are_counted 1 (map (λ t. t.id) it.tokens.items) && list_all is_token it.tokens.items)
    && (are_placed (length it.tokens.items) it.scopes.items && list_all is_scope it.scopes.items)

abbrev pub is_named : Crate → Bool
is_named c = is_name (string_bytes c.name) && bytes_eq (canon (string_bytes c.name))
    (string_bytes c.canon)

abbrev pub is_owned : AllRows → ℕ → Bool
is_owned it id = list_any (λ o. o.crate_id == id) it.owners.items

abbrev pub is_published : AllRows → ℕ → Bool
is_published it id = list_any (λ v. v.crate_id == id) it.versions.items

-- C3: each crate's name is a crate name, its canonical text is right, it has an owner and a version
abbrev pub crates_pass : AllRows → Bool
crates_pass it = list_all (λ c. is_named c && (is_owned it c.id
    && is_published it c.id)) it.crates.items

-- one archive, which has this digest
abbrev pub is_archive : List ℕ → List Row → Bool
is_archive digest ((Int id ∷ Blob bytes ∷ []) ∷ []) = bytes_eq (sha256 bytes) digest
is_archive digest rows = false

-- C4: each version has one archive, whose SHA-256 is its digest; that there is no archive but of a
-- version is a rule of the tables, the foreign key of archives
abbrev pub archives_pass : AllRows → Trees → Bool
archives_pass it db =
    list_all (λ v. is_archive v.digest.items (archives_with_id v.id db)) it.versions.items

-- the crate with this id
abbrev pub crate_of : AllRows → ℕ → Option Crate
crate_of it id = find (λ c. c.id == id) it.crates.items

-- a version, its release, and the stem of its line under its crate's name
pub record IsGenuine (it : AllRows) (v : Version) : Type 0 where
  pub version : is_version (string_bytes v.vers) ≡ true
  pub release : release_key_of (string_bytes v.vers) ≡ string_bytes v.release
  pub digest : length v.digest.items ≡ 32
  pub of_crate : Crate
  pub has_crate : crate_of it v.crate_id ≡ Some of_crate
  pub stem : IsStemOf v.stem.items (string_bytes of_crate.name) (string_bytes v.vers) v.digest.items

-- C5: each version text is a version, its release is its key, and its stem is that of its line
abbrev pub VersionsPass : AllRows → Type 0
VersionsPass it = AllByRecursion (IsGenuine it) it.versions.items

-- a crate name that is its own canonical text, and is not reserved always
abbrev pub is_reserved : List ℕ → Bool
is_reserved t = (is_name t && bytes_eq (canon t) t) && not (is_reserved_always t)

-- C6: each reserved text is the canonical text of a crate name that is not reserved always
abbrev pub reserved_pass : AllRows → Bool
reserved_pass it = list_all (λ s. is_reserved (string_bytes s)) it.reserved.items

-- a version, as a summary is made of it
abbrev pub shown_version : Version → ShownMark
shown_version v = record {
  id = v.id;
  version = string_bytes v.vers;
  stem_length = length v.stem.items;
  yanked = v.yanked;
}

-- the versions of the crate with this id, in the order of publication
abbrev pub its_versions : AllRows → ℕ → List ShownMark
its_versions it id = map shown_version (filter (λ v. v.crate_id == id) it.versions.items)

-- what a summary says, the versions of its crate give
abbrev pub is_summary : AllRows → Summary → Bool
is_summary it s =
    let its = its_versions it s.crate_id in
    s.highest == highest_in its && s.index_length == length_in its

-- C7: each crate has one summary, and there is no other; each is what the crate's versions give
abbrev pub summaries_pass : AllRows → Bool
summaries_pass it =
    bytes_eq (map (λ s. s.crate_id) it.summaries.items) (map (λ c. c.id) it.crates.items)
    && list_all (is_summary it) it.summaries.items

abbrev pub has_crate : AllRows → ℕ → Bool
has_crate it id = list_any (λ c. c.id == id) it.crates.items

abbrev pub has_account : AllRows → ℕ → Bool
has_account it id = list_any (λ a. a.id == id) it.accounts.items

-- C8: each restricted crate is there, and so are the crate and the account of each reader
abbrev pub readers_pass : AllRows → Bool
readers_pass it = list_all (has_crate it) it.restricted.items
    && list_all (λ r. has_crate it r.crate_id && has_account it r.account) it.readers.items

abbrev pub Passes : AllRows → Trees → Check → Type 0
Passes it db C1 = accounts_pass it ≡ true
Passes it db C2 = tokens_pass it ≡ true
Passes it db C3 = crates_pass it ≡ true
Passes it db C4 = archives_pass it db ≡ true
Passes it db C5 = VersionsPass it
Passes it db C6 = reserved_pass it ≡ true
Passes it db C7 = summaries_pass it ≡ true
Passes it db C8 = readers_pass it ≡ true

-- the first of these checks that fails; where all pass, none
abbrev pub IsFirstOf : List Check → AllRows → Trees → Option Check → Type 0
IsFirstOf [] it db found = found ≡ None
IsFirstOf (c ∷ rest) it db found = (Passes it db c × IsFirstOf rest it db found)
    ⊎ ((Passes it db c → ⊥) × (found ≡ Some c))

abbrev pub IsFirst : AllRows → Trees → Option Check → Type 0
IsFirst = IsFirstOf (C1 ∷ C2 ∷ C3 ∷ C4 ∷ C5 ∷ C6 ∷ C7 ∷ C8 ∷ [])
