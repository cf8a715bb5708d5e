-- The table of what is known of a crate beside its versions: the greatest one that is not yanked,
-- and the length of its index file.
use Rattle.std.specs.Prelude.{◌≡◌, ℕ, pos, List, [], ◌∷◌, Option, map, filter}
use Rattle.sqlite.specs.declared.types.Value.TheVariants.{Int}
use Rattle.sqlite.specs.Order.{Row}
use Rattle.sqlite.specs.State.{State}
use Rattle.sqlite.specs.Tree.{Trees}
use Rattle.sqlite_trees.specs.Tree.{has_rowid}
use Rattle.reg_tables_schema.specs.Changes.{Replaces, Touches}
use Rattle.reg_tables_schema.specs.Places.{highest_place, index_length_place, summaries_tree, summary_crate_place}
use Rattle.reg_tables_schema.specs.Rows.{IsInOrder, by_column, keyed}
use Rattle.reg_tables_schema.specs.Shown.{shown_of}
use Rattle.reg_tables_schema.specs.Tests.{is_number, shows}
use Rattle.reg_tables_sql.specs.declared.summaries.Summary.{Summary}
use Rattle.reg_tables_sql.specs.Updates.{KeepsWhereNone}

-- a row as it stands in its tree
abbrev pub summary_row : ℕ → ℕ → ℕ → Row
summary_row of_crate highest index_length =
    keyed of_crate (Int (pos highest) ∷ Int (pos index_length) ∷ [])

-- the crate, the version and the length, as they are selected
abbrev pub summary_places : List ℕ
summary_places = summary_crate_place ∷ highest_place ∷ index_length_place ∷ []

abbrev pub columns_of_summary : Summary → Row
columns_of_summary it =
    Int (pos it.crate_id) ∷ Int (pos it.highest) ∷ Int (pos it.index_length) ∷ []

-- these are the summaries, by crate
abbrev pub AreSummaries : Trees → List Summary → Type 0
AreSummaries db list =
    IsInOrder (by_column summary_crate_place) (db summaries_tree) (shows summary_places)
    (map columns_of_summary list)

-- this is the summary of the crate, if there is one
abbrev pub IsSummaryOf : ℕ → Trees → Option Summary → Type 0
IsSummaryOf of_crate db found =
    map (shows summary_places) (filter (is_number summary_crate_place of_crate) (db summaries_tree))
    ≡ shown_of columns_of_summary found

-- the summary of the crate says this, where there is one, and no other table is touched
pub record Summarizes (of_crate highest index_length : ℕ) (old new : State) : Type 0 where
  pub replaced : (highest_was length_was : ℕ)
      → filter (has_rowid (pos of_crate)) (old.now.trees summaries_tree)
      ≡ summary_row of_crate highest_was length_was ∷ []
      → Replaces summaries_tree of_crate (summary_row of_crate highest index_length) old new
  pub unmatched : KeepsWhereNone summaries_tree (has_rowid (pos of_crate)) old new
  pub touches : Touches summaries_tree old new
