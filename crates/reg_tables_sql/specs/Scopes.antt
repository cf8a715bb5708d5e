-- The table of the crates that tokens are for.
use Rattle.std.specs.Prelude.{ℕ, pos, List, [], ◌∷◌, map, filter, string_bytes}
use Rattle.sqlite.specs.Tree.{Trees}
use Rattle.sqlite.specs.Order.{Row}
use Rattle.sqlite.specs.declared.types.Value.TheVariants.{Int, Text}
use Rattle.reg_tables_schema.specs.Places.{scope_place_place, scope_token_place, scopes_tree}
use Rattle.reg_tables_schema.specs.Rows.{IsInOrder, by_column, by_columns}
use Rattle.reg_tables_schema.specs.Tests.{is_number, shows}
use Rattle.reg_tables_sql.specs.declared.scopes.Scope.{Scope}

-- the pattern of a token at a place, and the range of canonical names that it covers
abbrev pub scope_columns : ℕ → ℕ → List ℕ → List ℕ → List ℕ → Row
scope_columns token place pattern low high =
    Int (pos token) ∷ Int (pos place) ∷ Text pattern ∷ Text low ∷ Text high ∷ []

abbrev pub scope_places : List ℕ
scope_places = 1 ∷ 2 ∷ 3 ∷ 4 ∷ 5 ∷ []

abbrev pub columns_of_scope : Scope → Row
columns_of_scope it =
    scope_columns it.token it.place (string_bytes it.pattern) (string_bytes it.low)
    (string_bytes it.high)

-- these are the scopes of the token, by place
abbrev pub AreScopesOf : ℕ → Trees → List Scope → Type 0
AreScopesOf token db list =
    IsInOrder (by_column scope_place_place) (filter (is_number scope_token_place token)
    (db scopes_tree))
    (shows scope_places) (map columns_of_scope list)

-- these are all scopes, by token and place
abbrev pub AreScopes : Trees → List Scope → Type 0
AreScopes db list =
    IsInOrder (by_columns scope_token_place scope_place_place) (db scopes_tree) (shows scope_places)
    (map columns_of_scope list)
