-- What many proofs here use, passed on to them.
pub use Rattle.std.proofs.Common.{Bool, List, None, Ok, OnOk, Option, Result, Some, [], ap, arith, codes, cond, false, length, map, not}
pub use Rattle.std.proofs.Common.{pos, refl, rules, slice_get, subst, sym, true, w64, ℕ, ℤ, ◌&&◌, ◌++◌, ◌+◌, ◌==◌, ◌∙◌, ◌∷◌, ◌≡◌}
pub use Rattle.std.proofs.Math.Facts.{to_z_pos}
pub use Rattle.std.proofs.lemmas.Int.{to_z-of_z}
pub use Rattle.std.proofs.lemmas.List.Sorted.{IsPermutation-sym}
pub use Rattle.std.specs.List.{filter, flat_map}
pub use Rattle.std.specs.List.Sorted.{IsPermutation}
pub use Rattle.std.specs.Option.{option_map}
pub use Rattle.std.specs.Ordering.{ordering_then}
pub use Rattle.std.specs.Prelude.{string_bytes}
pub use Rattle.std.specs.declared.alloc.Global.{Global}
pub use Rattle.reg_tables_schema.proofs.Counts.{counted}
pub use Rattle.reg_tables_schema.proofs.Edits.{replacing, step_of}
pub use Rattle.reg_tables_schema.proofs.Greatest.{greatest, greatest_of}
pub use Rattle.reg_tables_schema.proofs.Ordered.{all_ordered}
pub use Rattle.reg_tables_schema.proofs.Queries.{and_true, answers, equals_int, joined, plain, same_filter}
pub use Rattle.reg_tables_schema.proofs.Reading.{IsSelection, reads_as, selected}
pub use Rattle.reg_tables_schema.proofs.Selections.{matched, may_read, of_table, reading_survives}
pub use Rattle.reg_tables_schema.proofs.ShownRows.{any_shown, shown_exactly}
pub use Rattle.reg_tables_schema.proofs.Sorted.{in_order, in_order_of, then_equal}
pub use Rattle.reg_tables_schema.proofs.Statements.{adds, adds_columns, cast_int, cast_null, removes}
pub use Rattle.reg_tables_schema.proofs.TableMatches.{equals_first, matches_number, matches_text}
pub use Rattle.reg_tables_schema.proofs.WholeTables.{all_in_order, one_count}
pub use Rattle.reg_tables_schema.proofs.Writing.{err_of, writes_as}
pub use Rattle.reg_tables_schema.specs.Changes.{Adds, AddsColumns, Removes}
pub use Rattle.reg_tables_schema.specs.Rows.{IsInOrder, by_column, by_columns, sql_bool, number_columns, text_or_null}
pub use Rattle.reg_tables_schema.specs.Schema.{our_tables, ours}
pub use Rattle.reg_tables_schema.specs.Shown.{shown_of}
pub use Rattle.reg_tables_schema.specs.Statements.{IsRowWrite}
pub use Rattle.reg_tables_schema.specs.States.{IsInside, about_columns}
pub use Rattle.reg_tables_schema.specs.Tests.{is_number, is_text, is_version, shows}
pub use Rattle.reg_tables_schema.specs.declared.edition.SchemaVersion.TheVariants.{First, Second}
pub use Rattle.sqlite.proofs.Callers.{IsPlain, command_of, one_permutation}
pub use Rattle.sqlite.specs.Cast.{cast}
pub use Rattle.sqlite.specs.Clock.{timed}
pub use Rattle.sqlite.specs.Collation.TheVariants.{Binary}
pub use Rattle.sqlite.specs.Command.TheVariants.{Delete, Insert}
pub use Rattle.sqlite.specs.Effect.{Answers, Database}
pub use Rattle.sqlite.specs.Held.{state}
pub use Rattle.sqlite.specs.Listing.{IsSourceOf, reads_listing}
pub use Rattle.sqlite.specs.Ops.{binary, is_true}
pub use Rattle.sqlite.specs.Order.{Row, column, value_cmp}
pub use Rattle.sqlite.specs.Program.{overlay}
pub use Rattle.sqlite.specs.Query.{IsSureAnswer, Query, end, inner, matches}
pub use Rattle.sqlite.specs.Source.TheVariants.{Values}
pub use Rattle.sqlite.specs.State.{Executes, HasCleanDisk, IsUnchanged, State}
pub use Rattle.sqlite.specs.Table.{Table}
pub use Rattle.sqlite.specs.Term.{Term, col, eval_all, lit, op2}
pub use Rattle.sqlite.specs.Tree.{Trees}
pub use Rattle.sqlite.specs.Values.{bound}
pub use Rattle.sqlite.specs.declared.error.Error.{Error}
pub use Rattle.sqlite.specs.declared.types.Value.{Value}
pub use Rattle.sqlite.specs.declared.types.Value.TheVariants.{Blob, Int, Null, Text}
pub use Rattle.sqlite_rules.specs.Edit.{edited, next_rowid}
pub use Rattle.sqlite_schema.specs.declared.program.Program.{Program}
pub use Rattle.sqlite_sql.specs.declared.ops.BinaryOp.TheVariants.{Compare}
pub use Rattle.sqlite_sql.specs.declared.ops.CompareOp.TheVariants.{Eq}
pub use Rattle.sqlite_trees.specs.Tree.{has_rowid, put_row, without_rowid}
pub use Rattle.sqlite_value.specs.Keys.{ascending}
pub use Rattle.sqlite_value.specs.declared.keys.Key.{Key}
pub use Rattle.reg_tables_sql.specs.Abouts.{IsAboutOf}
pub use Rattle.reg_tables_sql.specs.Accounts.{account_columns}
pub use Rattle.reg_tables_sql.specs.Counts.{IsCount, IsLastId}
pub use Rattle.reg_tables_sql.specs.Pairs.{AreAccountsOf, ArePairs, IsPaired, columns_of_pair, is_pair, pair_columns}
pub use Rattle.reg_tables_sql.specs.Restricted.{is_restricted}
pub use Rattle.reg_tables_sql.specs.Rowids.{AreRowids, rowid_columns}
pub use Rattle.reg_tables_sql.specs.declared.accounts.Account.{Account}
pub use Rattle.reg_tables_sql.specs.declared.pairs.Pair.{Pair}
