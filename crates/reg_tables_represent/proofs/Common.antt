-- The names that most proofs here cite, passed on from one place. Declares nothing.
pub use Rattle.std.proofs.Common.{[], ◌&&◌, ◌++◌, ◌+◌, ◌<◌, ◌==◌, ◌||◌, ◌∙◌, ◌∷◌, ◌≡◌, ◌≢◌, ◌≤◌, ap, arith, Bool, cond, false, inl, inr, length, Less, List, map, None, not, Option, pos, refl, rules, Some, subst, suc, sym, take, true, zero, ℕ}
pub use Rattle.std.proofs.lemmas.Bool.{and_parts, eq-eqb, eqb-true}
pub use Rattle.std.proofs.lemmas.List.{append-nil}
pub use Rattle.std.proofs.lemmas.List.Sorted.{IsPermutation-cons, IsPermutation-map, IsPermutation-sym, IsPermutation-trans, list_any-IsPermutation}
pub use Rattle.std.proofs.lemmas.Map.Keys.{IsDistinct-cons}
pub use Rattle.std.proofs.lemmas.Map.Text.{is_eq-slice_cmp}
pub use Rattle.std.specs.Cmp.Lexicographic.{nat_list_eq_equiv}
pub use Rattle.std.specs.List.{AllByRecursion, enumerate_from, filter, find, flat_map, list_any}
pub use Rattle.std.specs.List.Sorted.{IsPermutation}
pub use Rattle.std.specs.Option.{option_and_then, option_map}
pub use Rattle.std.specs.Ordering.{eq_by_cmp, is_eq, nat_cmp, on}
pub use Rattle.std.specs.Prelude.{drop, nat_eq, slice_get, unwrap_or}
pub use Rattle.std.specs.Str.{bytes_eq}
pub use Rattle.sqlite.proofs.StateLemmas.{survives_then}
pub use Rattle.sqlite.specs.Effect.{Database}
pub use Rattle.sqlite.specs.Held.{state}
pub use Rattle.sqlite.specs.Order.{column, Row, value_cmp}
pub use Rattle.sqlite.specs.State.{HasCleanDisk, IsUnchanged, State, Survives}
pub use Rattle.sqlite.specs.Tree.{Trees}
pub use Rattle.sqlite.specs.declared.types.Value.TheVariants.{Int}
pub use Rattle.sqlite_rules.specs.Edit.{is_taken}
pub use Rattle.sqlite_trees.proofs.ListLemmas.{IsPermutation-filter}
pub use Rattle.sqlite_trees.specs.Tree.{has_rowid, IsAscending, put_row, rowid}
pub use Rattle.reg_names.specs.Names.{canon}
pub use Rattle.reg_versions.specs.Versions.{release_key_of}
pub use Rattle.reg_model.proofs.Lists.{any_same, list_any_map, not_true, true_not_false}
pub use Rattle.reg_model.proofs.Members.{all_in, any_in, each_in, filtered_passes, in_any, in_filter, IsIn, map_same, none_in, none_pass, one_passes}
pub use Rattle.reg_model.specs.Crates.{collides}
pub use Rattle.reg_model.specs.Registry.{mark_cmp, owner_cmp, Publication, Registry, Text, text_cmp, Token}
pub use Rattle.reg_tables_schema.proofs.Permutes.{filter_map, one_row, put_permutes}
pub use Rattle.reg_tables_schema.proofs.Queries.{maps_twice, same_filter}
pub use Rattle.reg_tables_schema.specs.Changes.{Adds, AddsColumns, KeepsOthers}
pub use Rattle.reg_tables_schema.specs.Rows.{by_column, IsInOrder}
pub use Rattle.reg_tables_schema.specs.Shown.{shown_of}
pub use Rattle.reg_tables_schema.specs.Statements.{rows_in}
pub use Rattle.reg_tables_schema.specs.Tests.{is_number, shows}
pub use Rattle.reg_tables_sql.specs.Owners.{owner_columns}
pub use Rattle.reg_tables_sql.specs.Versions.{version_row}
