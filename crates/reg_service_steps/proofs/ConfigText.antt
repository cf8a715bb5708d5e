-- What the text on the base means.
use Rattle.std.proofs.Common.{◌≡◌, List, [], ◌∷◌, ℕ, codes, map, refl}
use Rattle.std.specs.Prelude.{drop, string_bytes}
use Rattle.std.specs.List.Sorted.{IsPermutation}
use Rattle.std.specs.declared.alloc.Global.{Global}
use Rattle.std.specs.declared.string.String.{String}
use Rattle.sqlite.specs.Listing.{understood}
use Rattle.sqlite.specs.Order.{Row}
use Rattle.sqlite.specs.Program.{overlay}
use Rattle.sqlite.specs.Query.{Query, IsSureAnswer, inner, end}
use Rattle.sqlite.specs.Term.{col}
use Rattle.sqlite.specs.Tree.{Trees}
use Rattle.sqlite.specs.declared.types.Value.{Value}
use Rattle.sqlite.specs.declared.types.Value.TheVariants.{Text}
use Rattle.sqlite_tied.specs.Compute.{everything}
use Rattle.reg_tables_schema.specs.Places.{about_tree}
use Rattle.reg_tables_schema.specs.Schema.{ours}
use Rattle.reg_tables_schema.specs.Tests.{shows}
use Rattle.reg_tables_schema.proofs.Queries.{plain}
use Rattle.reg_tables_schema.proofs.Reading.{IsSelection}
use Rattle.reg_tables_schema.proofs.WholeTables.{all_rows}
use Rattle.reg_tables_sql.specs.Reserved.{columns_of_text}
use Rattle.reg_service_steps.specs.declared.base.TheConstants.{FIND_BASE_TEXT}
use Rattle.reg_service_steps.specs.Reads.{TellsBase}

abbrev base_query : Query
base_query = plain (inner 0 end) [] (col 1 2 ∷ [])

pub base_is : IsSelection ours FIND_BASE_TEXT.now base_query (codes "base" ∷ [])
unfolding understood everything
base_is = record { command = refl; unlisted = refl; plain = (refl, refl) }

-- the bases in the table
abbrev pub bases : Trees → List Row
bases db = map (shows (2 ∷ [])) (db about_tree)

pub base_gives : (db : Trees) (rows : List Row) → IsSureAnswer base_query (overlay db []) [] rows → IsPermutation (bases db) rows
base_gives db rows h = all_rows (overlay db []) [] 0 (col 1 2 ∷ []) rows h

-- a base is the same, whether it is shown alone or behind the number of the schema
same_base : (rows : List Row) (v : Value) (t u : List ℕ) → map (shows (2 ∷ [])) rows ≡ (Text t ∷ []) ∷ [] → map (drop 1) rows ≡ (v ∷ Text u ∷ []) ∷ [] → t ≡ u
same_base [] v t u alone behind = absurd cc
same_base ([] ∷ rows) v t u alone behind = absurd cc
same_base ((x ∷ []) ∷ rows) v t u alone behind = absurd cc
same_base ((x ∷ y ∷ []) ∷ rows) v t u alone behind = absurd cc
same_base ((x ∷ y ∷ z ∷ more) ∷ rows) v t u alone behind = cc

pub base_told : (db : Trees) (base : String Global) → bases db ≡ columns_of_text base ∷ [] → TellsBase db (string_bytes base)
base_told db base alone ids s h = same_base (db about_tree) _ (string_bytes base) s.base alone h.stands.about
