-- What many proofs here use, passed on to them.
pub use Rattle.std.proofs.Common.{Bool, Equal, Err, Greater, IfOk, IsErr, Less, List, None, Ok, OnErr, OnOk, Option, Ordering, Result, Some}
pub use Rattle.std.proofs.Common.{[], ap, ap₂, arith, cond, false, inl, inr, is_some, length, map, max, nat_le, nat_lt, not, pos, refl}
pub use Rattle.std.proofs.Common.{subst, suc, sym, take, true, zero, zero-add, ℕ, ℤ, ◌&&◌, ◌++◌, ◌+◌, ◌-◌, ◌<◌, ◌==◌, ◌||◌, ◌∙◌, ◌∷◌, ◌≡◌}
pub use Rattle.std.proofs.Common.{◌≢◌, ◌≤◌}
pub use Rattle.std.proofs.lemmas.Bool.{and_from, and_left, and_parts, eq-eqb, eqb-false, eqb-true, ltb-false, ltb-true, or_parts}
pub use Rattle.std.proofs.lemmas.Cmp.{on_total, tied_itself}
pub use Rattle.std.proofs.lemmas.List.{append-nil, length-append, length-map, map-append}
pub use Rattle.std.proofs.lemmas.List.Elements.{All-from_recursion, filter-append, recursion_from_All}
pub use Rattle.std.proofs.lemmas.List.Sorted.{All-permutation, IsPermutation-cons, IsPermutation-filter_both, IsPermutation-map}
pub use Rattle.std.proofs.lemmas.List.Sorted.{IsPermutation-sym, IsPermutation-trans, length_permutation, list_any-IsPermutation}
pub use Rattle.std.proofs.lemmas.Map.Keys.{IsDistinct-IsPermutation, IsDistinct-cons, IsDistinct-from_sorted, IsDistinct-head}
pub use Rattle.std.proofs.lemmas.Map.Keys.{IsDistinct-tail}
pub use Rattle.std.proofs.lemmas.Map.Views.{any-filter_same}
pub use Rattle.std.proofs.lemmas.Result.{IfOk-from_err}
pub use Rattle.std.proofs.lemmas.Slice.Eq.{bytes_eq-Decides}
pub use Rattle.std.specs.Borrow.{Bor}
pub use Rattle.std.specs.Cmp.{IsEquivalence, IsTotalOrder, eq_by_cmp_equiv, int_cmp_is, nat_cmp_is, nat_cmp_total, nat_eq_equiv}
pub use Rattle.std.specs.Cmp.Lexicographic.{nat_list_cmp_total}
pub use Rattle.std.specs.List.{AllByRecursion, enumerate_from, filter, find, flat_map, list_all, list_any, position_from}
pub use Rattle.std.specs.List.Sorted.{IsPermutation, IsSorted}
pub use Rattle.std.specs.Ordering.{is_eq, is_gt, nat_cmp, on, ordering_then}
pub use Rattle.std.specs.Prelude.{IfSome, string_bytes, ◌⊎◌}
pub use Rattle.reg_line.specs.File.{end_of, file_text}
pub use Rattle.reg_model.proofs.Keys.{insert_again, owner_apart, owner_total, same_key, text_apart, ties_itself}
pub use Rattle.reg_model.proofs.Lists.{not_true, true_not_false}
pub use Rattle.reg_model.proofs.Members.{IsIn, all_in, any_in, distinct_from_map, each_in, filtered_passes, in_all, in_any, in_each}
pub use Rattle.reg_model.proofs.Members.{in_filter, in_last, in_map, in_permuted, map_in, map_same, none_in, none_pass, one_passes}
pub use Rattle.reg_model.specs.Crates.{file, versions}
pub use Rattle.reg_model.specs.Registry.{Account, Publication, Text, Token, change_at, mark_cmp, owner_cmp, text_cmp, with_id}
pub use Rattle.reg_model.specs.Sound.{Sound}
pub use Rattle.reg_tables_schema.proofs.MakeLemmas.{begun_keeps, refused_keeps}
pub use Rattle.reg_tables_schema.proofs.Permutes.{filter_map, free_without, one_row, put_permutes, put_replaces}
pub use Rattle.reg_tables_schema.proofs.Queries.{equals_int, maps_twice, same_filter}
pub use Rattle.reg_tables_schema.proofs.Writing.{refuses_after}
pub use Rattle.reg_tables_schema.specs.Changes.{Adds, AddsColumns, Removes, Replaces, Touches, is_at_one_of}
pub use Rattle.reg_tables_schema.specs.Greatest.{IsGreatest, row_of_id}
pub use Rattle.reg_tables_schema.specs.Rows.{IsInOrder, by_column, by_columns, sql_bool}
pub use Rattle.reg_tables_schema.specs.Schema.{our_tables, schema_of}
pub use Rattle.reg_tables_schema.specs.Statements.{IsReading}
pub use Rattle.reg_tables_schema.specs.States.{IsInside, IsOurs, IsReady, Refuses}
pub use Rattle.reg_tables_schema.specs.Steps.{LeavesSame, Within}
pub use Rattle.reg_tables_schema.specs.Tests.{is_owner, is_text, is_version, shows}
pub use Rattle.reg_tables_schema.specs.declared.edition.SchemaVersion.{SchemaVersion}
pub use Rattle.reg_tables_schema.specs.declared.edition.SchemaVersion.TheVariants.{Second}
pub use Rattle.reg_tables_sql.specs.Accounts.{account_columns}
pub use Rattle.reg_tables_sql.specs.Counts.{IsLastId}
pub use Rattle.reg_tables_sql.specs.Crates.{crate_columns}
pub use Rattle.reg_tables_sql.specs.Relations.{tree_of}
pub use Rattle.reg_tables_sql.specs.Reserved.{reserved_columns}
pub use Rattle.reg_tables_sql.specs.Scopes.{columns_of_scope}
pub use Rattle.reg_tables_sql.specs.Stems.{entries_text}
pub use Rattle.reg_tables_sql.specs.Summaries.{IsSummaryOf, columns_of_summary, summary_places, summary_row}
pub use Rattle.reg_tables_sql.specs.Updates.{KeepsWhereNone}
pub use Rattle.reg_tables_sql.specs.VersionMarks.{columns_of_mark, shows_mark}
pub use Rattle.reg_tables_sql.specs.Versions.{MarksYanked}
pub use Rattle.reg_tables_sql.specs.declared.crates.Crate.{Crate}
pub use Rattle.reg_tables_sql.specs.declared.summaries.Summary.{Summary}
pub use Rattle.reg_tables_sql.specs.declared.versions.VersionMark.{VersionMark}
pub use Rattle.reg_versions.proofs.TopPlace.{top_is_top}
pub use Rattle.reg_versions.specs.Precedence.{IsTop, Marked, top_place}
pub use Rattle.reg_versions.specs.Pushed.{place_after, takes_over}
pub use Rattle.reg_versions.specs.Versions.{parts_of}
pub use Rattle.sqlite.proofs.Callers.{unchanged_then}
pub use Rattle.sqlite.proofs.StateLemmas.{survives_then}
pub use Rattle.sqlite.specs.Effect.{Database}
pub use Rattle.sqlite.specs.Held.{Held, state}
pub use Rattle.sqlite.specs.Next.{HasMoved}
pub use Rattle.sqlite.specs.State.{Fails, HasCleanDisk, IsUnchanged, Shown, State, Survives}
pub use Rattle.sqlite.specs.Table.{Table}
pub use Rattle.sqlite.specs.declared.error.Error.{Error}
pub use Rattle.sqlite.specs.declared.rows.stream.Rows.{Rows}
pub use Rattle.sqlite.specs.declared.types.Value.{Value}
pub use Rattle.sqlite.specs.declared.types.Value.TheVariants.{Blob, Int}
pub use Rattle.sqlite_exec.proofs.PartitionLemmas.{ascending_from_sorted}
pub use Rattle.sqlite_keyed.proofs.SortLemmas.{sorted_unique}
pub use Rattle.sqlite_trees.proofs.ListLemmas.{IsPermutation-filter, IsPermutation-flat_map, IsPermutation-flat_map_each, ascending-filter}
pub use Rattle.sqlite_trees.proofs.ListLemmas.{flat_map-map}
pub use Rattle.sqlite_trees.specs.Tree.{has_rowid, put_row, without_rowid}
pub use Rattle.sqlite_trees.specs.declared.store.Store.{Ghosts}
pub use Rattle.sqlite_value.proofs.OrderLemmas.{value_cmp-Int, value_cmp-Text, value_cmp_total}
pub use Rattle.reg_tables_represent.specs.Additions.{AddsCrate, AddsVersion, KeepsAllBut}
pub use Rattle.reg_tables_represent.specs.Changes.{ids_with_crate, ids_with_version, mark_at, next_crate, next_version, told_of}
pub use Rattle.reg_tables_represent.specs.Entries.{entry_of_account, entry_of_crate, one_of}
pub use Rattle.reg_tables_represent.specs.FoundTokens.{IsRow}
pub use Rattle.reg_tables_represent.specs.Ids.{IsNext}
pub use Rattle.reg_tables_represent.specs.Marking.{IsOtherwise, id_unless}
pub use Rattle.reg_tables_represent.specs.Numbers.{IsNumbered}
pub use Rattle.reg_tables_represent.specs.Patterns.{GivesPatterns}
pub use Rattle.reg_tables_represent.specs.Relations.{related, with_related}
pub use Rattle.reg_tables_represent.specs.Stands.{HaveOwnRowids, StandsSoundBy, IdAssignment, StandAccounts, StandCrates, StandMarked, StandPairs}
pub use Rattle.reg_tables_represent.specs.Stands.{StandReserved, StandTokens, StandsBy, StoredCrate, StoredPair, StoredVersion}
pub use Rattle.reg_tables_represent.specs.Stands.{columns_of_stored, is_of, is_paired, next_of, row_of_account, row_of_archive, row_of_crate}
pub use Rattle.reg_tables_represent.specs.Stands.{row_of_token, row_of_version, scope_of, scopes_of, spelling_at}
pub use Rattle.reg_tables_represent.specs.Summaries.{ShownMark, StandSummaries, higher_of, highest_in, highest_of, id_among, is_marked}
pub use Rattle.reg_tables_represent.specs.Summaries.{its_versions, length_among, length_in, length_of, line_length, mark_shown, marked_of}
pub use Rattle.reg_tables_represent.specs.Summaries.{read_mark, row_among, shown_mark}
pub use Rattle.reg_tables_represent.specs.SummaryChanges.{AddsSummary, HasSummary, HasVersion, IsHigherMarked, IsMarkChange, IsVersionAt}
pub use Rattle.reg_tables_represent.specs.SummaryChanges.{PushesSummary, RemarksSummary}
pub use Rattle.reg_tables_represent.specs.Upgrades.{IsUpgrade}
pub use Rattle.reg_tables_represent.specs.Walks.{HasWalked, IsSpared}
