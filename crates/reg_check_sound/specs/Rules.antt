-- What the definitions of the tables say of their rows, as far as the law of opening needs it.
use Rattle.std.specs.Prelude.{◌≡◌, ◌&&◌, ℕ, Bool, true, List, [], ◌∷◌}
use Rattle.std.specs.List.{AllByRecursion, IsDistinct, list_any}
use Rattle.std.specs.Ordering.{is_eq, on}
use Rattle.sqlite.specs.declared.types.Value.{Value}
use Rattle.sqlite.specs.declared.types.Value.TheVariants.{Null}
use Rattle.sqlite.specs.Order.{Row, column, value_cmp}
use Rattle.sqlite.specs.Tree.{Trees}
use Rattle.sqlite_trees.specs.Tree.{rowid}
use Rattle.reg_tables_schema.specs.Places.{about_tree, accounts_tree, archives_tree, crate_canon_place, crates_tree, digest_place, id_place, login_place, owner_account_place, owner_crate_place, owners_tree, reader_account_place, reader_crate_place, readers_tree, release_place, reserved_tree, scopes_tree, summaries_tree, token_account_place, tokens_tree, version_crate_place, versions_tree}
use Rattle.reg_tables_schema.specs.Tests.{shows}

-- two values that SQL compares as equal
abbrev pub same_value : Value → Value → Bool
same_value a b = is_eq (value_cmp a b)

-- the row has the values at these places, which are all that it may have, and no more
abbrev pub IsWhole : List ℕ → Row → Type 0
IsWhole places r = shows places r ≡ r

-- and it reads NULL at its key
abbrev pub IsKeyed : List ℕ → Row → Type 0
IsKeyed places r = IsWhole places r × (column r 1 ≡ Null)

-- no two rows have the same values at this place, or at these two
abbrev pub AreUnique : ℕ → List Row → Type 0
AreUnique place rows = IsDistinct (on (λ r. column r place) same_value) rows

abbrev pub same_at : ℕ → Row → Row → Bool
same_at place a b = same_value (column a place) (column b place)

abbrev pub AreUniqueBy : ℕ → ℕ → List Row → Type 0
AreUniqueBy first second rows = IsDistinct (λ a b. same_at first a b && same_at second a b) rows

-- what stands at this place is the rowid of one of these rows
abbrev pub RefersTo : List Row → ℕ → Row → Type 0
RefersTo parents place r = list_any (λ p. same_value (rowid p) (column r place)) parents ≡ true

-- Each row has the columns of its table; of restricted crates the key alone is read.
pub record HaveColumns (db : Trees) : Type 0 where
  pub about : AllByRecursion (IsWhole (0 ∷ 1 ∷ 2 ∷ [])) (db about_tree)
  pub accounts : AllByRecursion (IsKeyed (0 ∷ 1 ∷ 2 ∷ 3 ∷ 4 ∷ [])) (db accounts_tree)
  pub tokens : AllByRecursion (IsKeyed (0 ∷ 1 ∷ 2 ∷ 3 ∷ 4 ∷ 5 ∷ 6 ∷ 7 ∷ 8 ∷ [])) (db tokens_tree)
  pub scopes : AllByRecursion (IsWhole (0 ∷ 1 ∷ 2 ∷ 3 ∷ 4 ∷ 5 ∷ [])) (db scopes_tree)
  pub crates : AllByRecursion (IsKeyed (0 ∷ 1 ∷ 2 ∷ 3 ∷ [])) (db crates_tree)
  pub owners : AllByRecursion (IsWhole (0 ∷ 1 ∷ 2 ∷ [])) (db owners_tree)
  pub versions : AllByRecursion (IsKeyed (0 ∷ 1 ∷ 2 ∷ 3 ∷ 4 ∷ 5 ∷ 6 ∷ 7 ∷ 8 ∷ []))
      (db versions_tree)
  pub archives : AllByRecursion (IsKeyed (0 ∷ 1 ∷ 2 ∷ [])) (db archives_tree)
  pub reserved : AllByRecursion (IsWhole (0 ∷ 1 ∷ [])) (db reserved_tree)
  pub summaries : AllByRecursion (IsKeyed (0 ∷ 1 ∷ 2 ∷ 3 ∷ [])) (db summaries_tree)
  pub readers : AllByRecursion (IsWhole (0 ∷ 1 ∷ 2 ∷ [])) (db readers_tree)

-- What UNIQUE and PRIMARY KEY ask, as far as no check asks it.
pub record HaveUniques (db : Trees) : Type 0 where
  pub logins : AreUnique login_place (db accounts_tree)
  pub digests : AreUnique digest_place (db tokens_tree)
  pub canons : AreUnique crate_canon_place (db crates_tree)
  pub owners : AreUniqueBy owner_crate_place owner_account_place (db owners_tree)
  pub releases : AreUniqueBy version_crate_place release_place (db versions_tree)
  pub readers : AreUniqueBy reader_crate_place reader_account_place (db readers_tree)

-- What REFERENCES asks, as far as no check asks it.
pub record HaveParents (db : Trees) : Type 0 where
  pub token_accounts : AllByRecursion (RefersTo (db accounts_tree) token_account_place)
      (db tokens_tree)
  pub owner_crates : AllByRecursion (RefersTo (db crates_tree) owner_crate_place) (db owners_tree)
  pub owner_accounts : AllByRecursion (RefersTo (db accounts_tree) owner_account_place)
      (db owners_tree)
  pub archive_versions : AllByRecursion (RefersTo (db versions_tree) id_place) (db archives_tree)

-- The rows keep the rules of their tables.
pub record KeepsRules (db : Trees) : Type 0 where
  pub columns : HaveColumns db
  pub uniques : HaveUniques db
  pub parents : HaveParents db
