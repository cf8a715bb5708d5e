-- The registry that the rows of the tables stand for.
use Rattle.std.specs.Option.{option_map}
use Rattle.reg_model.specs.Sound.{Sound}
use Rattle.reg_tables_schema.specs.Rows.{number_columns}
use Rattle.reg_tables_schema.specs.Tests.{shows}
use Rattle.reg_tables_schema.specs.Places.{restricted_crate_place, restricted_tree, accounts_tree, tokens_tree, reserved_tree, summaries_tree, crates_tree, about_tree, scopes_tree, versions_tree, owners_tree, archives_tree, readers_tree}
use Rattle.std.proofs.Common.{Option, ◌+◌}
use Rattle.reg_tables_sql.specs.Pairs.{pair_columns}
use Rattle.std.specs.Prelude.{◌≡◌, ℕ, pos, filter, ◌&&◌, ◌==◌, Bool, true, List, [], ◌∷◌, map, drop, IsPermutation, max}
use Rattle.std.specs.List.{AllByRecursion, IsDistinct, enumerate_from, flat_map, list_all, list_any, find}
use Rattle.std.specs.Ordering.{is_eq, nat_cmp, on}
use Rattle.std.specs.Str.{bytes_eq}
use Rattle.std.specs.List.Sorted.{IsStrictlySortedBy}
use Rattle.std.specs.FinSet as finset
use Rattle.sqlite.specs.Order.{Row, value_cmp}
use Rattle.sqlite.specs.Tree.{Trees}
use Rattle.sqlite_trees.specs.Tree.{rowid, has_rowid}
use Rattle.reg_names.specs.Names.{canon}
use Rattle.reg_names.specs.Ranges.{range_of}
use Rattle.reg_versions.specs.Versions.{release_key_of}
use Rattle.reg_model.specs.Registry.{Text, Account, Token, Publication, Registry, text_cmp, owner_cmp, mark_cmp}
use Rattle.reg_tables_schema.specs.declared.edition.SchemaVersion.TheVariants.{First, Second}
use Rattle.reg_tables_schema.specs.States.{about_columns}
use Rattle.reg_tables_represent.specs.Numbers.{AreNumbered}
pub use Rattle.reg_tables_represent.specs.Stored.{StoredCrate, StoredPair, StoredVersion}
pub use Rattle.reg_tables_represent.specs.Stored.{IdAssignment}
use Rattle.reg_tables_represent.specs.Summaries.{StandSummaries}
use Rattle.reg_tables_sql.specs.Accounts.{account_row}
use Rattle.reg_tables_sql.specs.Tokens.{token_row}
use Rattle.reg_tables_sql.specs.Scopes.{scope_columns}
use Rattle.reg_tables_sql.specs.Crates.{crate_row}
use Rattle.reg_tables_sql.specs.Versions.{version_row}
use Rattle.reg_tables_sql.specs.Archives.{archive_row}
use Rattle.reg_tables_sql.specs.Reserved.{reserved_columns}

-- accounts and tokens, each behind its id
abbrev pub row_of_account : ℕ × Account → Row
row_of_account e = account_row e.0 e.1.login e.1.name e.1.enabled

abbrev pub row_of_token : ℕ × Token → Row
row_of_token e = token_row e.0 e.1.digest e.1.account e.1.live e.1.endpoints

-- a pattern of a token, behind its place
abbrev pub scope_of : ℕ → ℕ × Text → Row
scope_of token p = scope_columns token p.0 p.1 (range_of p.1).low (range_of p.1).high

abbrev pub scopes_of : ℕ × Token → List Row
scopes_of e = map (scope_of e.0) (enumerate_from 0 e.1.patterns)

abbrev pub row_of_crate : StoredCrate → Row
row_of_crate c = crate_row c.0 (canon c.1) c.1

abbrev pub columns_of_stored : StoredPair → Row
columns_of_stored o = pair_columns o.0 o.1

-- the spelling of the crate with this id
abbrev pub spelling_at : IdAssignment → ℕ → Option Text
spelling_at ids id = option_map (λ c. c.1) (find (λ c. c.0 == id) ids.crates)

-- one more than the greatest
abbrev pub next_of : List ℕ → ℕ
next_of [] = 1
next_of (n ∷ ns) = max (1 + n) (next_of ns)

-- its row, where these are the marks of what is yanked
abbrev pub row_of_version : finset.FinSet mark_cmp → StoredVersion → Row
row_of_version yanked v =
    let p = v.publication in
    version_row v.id v.of_crate p.version (release_key_of p.version) p.digest p.stem p.description
    (finset.contains yanked (canon p.name, p.version))

abbrev pub row_of_archive : StoredVersion → Row
row_of_archive v = archive_row v.id v.publication.archive

-- no two rows have one rowid, and each rowid is a number, as DELETE reads it
abbrev pub HaveOwnRowids : List Row → Type 0
HaveOwnRowids rows = IsDistinct (λ a b. is_eq (value_cmp (rowid a) (rowid b))) rows
    × AreNumbered rows

pub record StandAccounts (accounts : List Account) (db : Trees) : Type 0 where
  pub rows : IsPermutation (map row_of_account (enumerate_from 1 accounts)) (db accounts_tree)

pub record StandTokens (tokens : List Token) (db : Trees) : Type 0 where
  pub rows : IsPermutation (map row_of_token (enumerate_from 1 tokens)) (db tokens_tree)
  pub scopes : IsPermutation (flat_map scopes_of (enumerate_from 1 tokens))
      (map (drop 1) (db scopes_tree))

pub record StandReserved (reserved : finset.FinSet text_cmp) (db : Trees) : Type 0 where
  pub texts : List Text
  pub rows : IsPermutation (map reserved_columns texts) (map (drop 1) (db reserved_tree))
  pub apart : HaveOwnRowids (db reserved_tree)
  pub same : (c : Text) → finset.contains reserved c ≡ list_any (λ t. bytes_eq t c) texts

-- the stored version is of this stored crate, and has its spelling
abbrev pub is_of : StoredCrate → StoredVersion → Bool
is_of c v = c.0 == v.of_crate && bytes_eq c.1 v.publication.name

-- a pair has these ids
abbrev pub is_paired : List StoredPair → ℕ → ℕ → Bool
is_paired pairs of_crate account = list_any (λ o. o.0 == of_crate && o.1 == account) pairs

-- Crates and their versions.
pub record StandCrates (ids : IdAssignment) (publications : List Publication)
    (yanked : finset.FinSet mark_cmp) (db : Trees) : Type 0 where
  pub crate_rows : IsPermutation (map row_of_crate ids.crates) (db crates_tree)
  pub version_rows : IsPermutation (map (row_of_version yanked) ids.versions) (db versions_tree)
  pub archive_rows : IsPermutation (map row_of_archive ids.versions) (db archives_tree)
  -- a crate has one spelling, and a version
  pub canons : IsDistinct (on (λ c. canon c.1) bytes_eq) ids.crates
  pub used : list_all (λ c. list_any (is_of c) ids.versions) ids.crates ≡ true
  -- versions have the ids of their crates
  pub of_crates : list_all (λ v. list_any (λ c. is_of c v) ids.crates) ids.versions ≡ true
  -- ids rise, those of versions in the order of publication
  pub up : IsStrictlySortedBy nat_cmp (map (λ c. c.0) ids.crates)
  pub rising : IsStrictlySortedBy nat_cmp (map (λ v. v.id) ids.versions)
  pub published : map (λ v. v.publication) ids.versions ≡ publications

-- A relation of crates and accounts, such as who owns what.
pub record StandPairs (crates : List StoredCrate) (held : finset.FinSet owner_cmp)
    (rows : List Row) : Type 0 where
  pub pairs : List StoredPair
  pub are : IsPermutation (map columns_of_stored pairs) (map (drop 1) rows)
  pub apart : HaveOwnRowids rows
  -- the crates are there, and each pair is there once
  pub of_crates : list_all (λ o. list_any (λ c. c.0 == o.0) crates) pairs ≡ true
  pub once : IsDistinct (λ a b. a.0 == b.0 && a.1 == b.1) pairs
  pub same : AllByRecursion (λ c. (account : ℕ) → finset.contains held (canon c.1, account)
      ≡ is_paired pairs c.0 account) crates

-- The crates that are marked in a table of their ids. A row is told by its key: there is no other
-- column.
pub record StandMarked (crates : List StoredCrate) (marked : finset.FinSet text_cmp)
    (rows : List Row) : Type 0 where
  pub marks : List ℕ
  pub are : IsPermutation (map number_columns marks)
      (map (shows (restricted_crate_place ∷ [])) rows)
  pub of_crates : list_all (λ i. list_any (λ c. c.0 == i) crates) marks ≡ true
  pub same : AllByRecursion (λ c. finset.contains marked (canon c.1)
      ≡ list_any (λ i. i == c.0) marks) crates

-- the crate with this id has this spelling
abbrev pub IsCrate : Trees → ℕ → Text → Type 0
IsCrate db id name =
    filter (has_rowid (pos id)) (db crates_tree) ≡ row_of_crate (id, name) ∷ []

-- the rows are those of this registry, under these ids
pub record StandsBy (ids : IdAssignment) (s : Registry) (db : Trees) : Type 0 where
  pub about : map (drop 1) (db about_tree) ≡ about_columns Second s.base ∷ []
  pub accounts : StandAccounts s.accounts db
  pub tokens : StandTokens s.tokens db
  pub crates : StandCrates ids s.publications s.yanked db
  pub owners : StandPairs ids.crates s.owners (db owners_tree)
  pub readers : StandPairs ids.crates s.readers (db readers_tree)
  pub reserved : StandReserved s.reserved db
  pub restricted : StandMarked ids.crates s.restricted (db restricted_tree)
  pub summaries : StandSummaries ids s.yanked (db summaries_tree)

-- The same of tables of schema 1: no crate is restricted there, and none has readers.
pub record StandsOld (ids : IdAssignment) (s : Registry) (db : Trees) : Type 0 where
  pub about : map (drop 1) (db about_tree) ≡ about_columns First s.base ∷ []
  pub accounts : StandAccounts s.accounts db
  pub tokens : StandTokens s.tokens db
  pub crates : StandCrates ids s.publications s.yanked db
  pub owners : StandPairs ids.crates s.owners (db owners_tree)
  pub reserved : StandReserved s.reserved db
  pub summaries : StandSummaries ids s.yanked (db summaries_tree)
  pub restricted : s.restricted ≡ finset.empty
  pub readers : s.readers ≡ finset.empty

-- the rows are those of this registry
abbrev pub Stands : Registry → Trees → Type 0
Stands s db = (ids : IdAssignment) × StandsBy ids s db

-- the registry is sound, and the rows are its
pub record StandsSoundBy (ids : IdAssignment) (s : Registry) (db : Trees) : Type 0 where
  pub sound : Sound s
  pub stands : StandsBy ids s db
