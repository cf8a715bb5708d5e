-- The trees of our tables, and the places of their columns in a row. A key is the rowid, at place
-- 0.
use Rattle.std.specs.Prelude.{ℕ}

abbrev pub about_tree : ℕ
about_tree = 0

abbrev pub accounts_tree : ℕ
accounts_tree = 1

abbrev pub tokens_tree : ℕ
tokens_tree = 3

abbrev pub scopes_tree : ℕ
scopes_tree = 5

abbrev pub crates_tree : ℕ
crates_tree = 7

abbrev pub owners_tree : ℕ
owners_tree = 9

abbrev pub versions_tree : ℕ
versions_tree = 11

abbrev pub archives_tree : ℕ
archives_tree = 13

abbrev pub reserved_tree : ℕ
reserved_tree = 14

abbrev pub summaries_tree : ℕ
summaries_tree = 16

abbrev pub restricted_tree : ℕ
restricted_tree = 17

abbrev pub readers_tree : ℕ
readers_tree = 18

-- the key of accounts, tokens, crates and versions, and of an archive, whose key is its version's
abbrev pub id_place : ℕ
id_place = 0

-- of an account
abbrev pub login_place : ℕ
login_place = 2

-- of a token
abbrev pub digest_place : ℕ
digest_place = 2

abbrev pub token_account_place : ℕ
token_account_place = 3

-- of a scope
abbrev pub scope_token_place : ℕ
scope_token_place = 1

abbrev pub scope_place_place : ℕ
scope_place_place = 2

-- of a crate
abbrev pub crate_canon_place : ℕ
crate_canon_place = 2

-- of an owner
abbrev pub owner_crate_place : ℕ
owner_crate_place = 1

abbrev pub owner_account_place : ℕ
owner_account_place = 2

-- of a version
abbrev pub version_crate_place : ℕ
version_crate_place = 2

abbrev pub vers_place : ℕ
vers_place = 3

abbrev pub release_place : ℕ
release_place = 4

-- of a reserved name
abbrev pub reserved_canon_place : ℕ
reserved_canon_place = 1

-- of a summary
abbrev pub summary_crate_place : ℕ
summary_crate_place = 0

abbrev pub highest_place : ℕ
highest_place = 2

abbrev pub index_length_place : ℕ
index_length_place = 3

-- of a restricted crate
abbrev pub restricted_crate_place : ℕ
restricted_crate_place = 0

-- of a reader
abbrev pub reader_crate_place : ℕ
reader_crate_place = 1

abbrev pub reader_account_place : ℕ
reader_account_place = 2
