-- The registry that rows read as records stand for, where they stand for one.
use Rattle.std.specs.Prelude.{ℕ, ◌==◌, List, [], ◌∷◌, Option, None, Some, map, filter, string_bytes}
use Rattle.std.specs.Option.{option_map}
use Rattle.std.specs.FinSet as finset
use Rattle.sqlite.specs.Order.{Row}
use Rattle.sqlite.specs.Tree.{Trees}
use Rattle.sqlite.specs.declared.types.Value.TheVariants.{Blob}
use Rattle.reg_names.specs.Names.{canon}
use Rattle.reg_model.specs.Registry as model
use Rattle.reg_tables_sql.specs.Archives.{archives_with_id}
use Rattle.reg_tables_sql.specs.declared.accounts.Account.{Account}
use Rattle.reg_tables_sql.specs.declared.crates.Crate.{Crate}
use Rattle.reg_tables_sql.specs.declared.pairs.Pair.{Pair}
use Rattle.reg_tables_sql.specs.declared.scopes.Scope.{Scope}
use Rattle.reg_tables_sql.specs.declared.tokens.Token.{Token}
use Rattle.reg_tables_sql.specs.declared.versions.Version.{Version}
use Rattle.reg_tables_represent.specs.Entries.{entry_of_crate}
use Rattle.reg_tables_represent.specs.Stored.{IdAssignment, StoredVersion}
use Rattle.reg_tables_rows.specs.declared.all_rows.AllRows.{AllRows}
use Rattle.reg_audit.specs.Checks.{crate_of}

abbrev pub account_from : Account → model.Account
account_from a = record {
  login = string_bytes a.login;
  name = option_map string_bytes a.name;
  enabled = a.enabled;
}

-- the patterns of the token with this id, as its scopes come
abbrev pub patterns_of : ℕ → List Scope → List model.Text
patterns_of id scopes = map (λ s. string_bytes s.pattern) (filter (λ s. s.token == id) scopes)

abbrev pub token_from : List Scope → Token → model.Token
token_from scopes t = record {
  digest = t.digest.items;
  account = t.account;
  live = t.live;
  endpoints = t.endpoints;
  patterns = patterns_of t.id scopes;
}

abbrev pub spelling : Option Crate → model.Text
spelling None = []
spelling (Some c) = string_bytes c.name

-- the spelling of the crate with this id, and its canonical text
abbrev pub name_from : AllRows → ℕ → model.Text
name_from it id = spelling (crate_of it id)

abbrev pub canon_from : AllRows → ℕ → model.Text
canon_from it id = canon (name_from it id)

-- the bytes of the one archive
abbrev pub archive_from : List Row → model.Text
archive_from ((id ∷ Blob bytes ∷ []) ∷ []) = bytes
archive_from rows = []

-- a version of this crate, with the archive of its id
abbrev pub publication_from : AllRows → Trees → Version → model.Publication
publication_from it db v = record {
  name = name_from it v.crate_id;
  version = string_bytes v.vers;
  description = option_map string_bytes v.description;
  stem = v.stem.items;
  digest = v.digest.items;
  archive = archive_from (archives_with_id v.id db);
}

abbrev pub version_from : AllRows → Trees → Version → StoredVersion
version_from it db v = record {
  id = v.id;
  of_crate = v.crate_id;
  publication = publication_from it db v;
}

-- a crate and an account, and a version of a crate, as the registry has them
abbrev pub pair_from : AllRows → Pair → model.Owner
pair_from it o = (canon_from it o.crate_id, o.account)

abbrev pub mark_from : AllRows → Version → model.Mark
mark_from it v = (canon_from it v.crate_id, string_bytes v.vers)

abbrev pub registry_from : AllRows → Trees → model.Registry
registry_from it db = record {
  base = string_bytes it.base;
  accounts = map account_from it.accounts.items;
  tokens = map (token_from it.scopes.items) it.tokens.items;
  publications = map (publication_from it db) it.versions.items;
  owners = finset.from_list (map (pair_from it) it.owners.items);
  yanked = finset.from_list (map (mark_from it) (filter (λ v. v.yanked) it.versions.items));
  reserved = finset.from_list (map (λ s. string_bytes s) it.reserved.items);
  restricted = finset.from_list (map (canon_from it) it.restricted.items);
  readers = finset.from_list (map (pair_from it) it.readers.items);
}

-- the ids under which the rows have its crates and versions
abbrev pub ids_from : AllRows → Trees → IdAssignment
ids_from it db = record {
  crates = map entry_of_crate it.crates.items;
  versions = map (version_from it db) it.versions.items;
}
