-- What many proofs here use, passed on to them.
pub use Rattle.std.proofs.Common.{Bool, Equal, Err, Greater, IfOk, Less, List, None, Ok, OnErr, OnOk, Option, Result, Some, [], ap, arith}
pub use Rattle.std.proofs.Common.{cond, false, get_or, inl, inr, length, map, negsuc, not, pos, refl, rules, slice_get, subst, subst₂, suc}
pub use Rattle.std.proofs.Common.{sym, take, tests, true, zero, ℕ, ℤ, ◌&&◌, ◌++◌, ◌+◌, ◌||◌, ◌∙◌, ◌∷◌, ◌≡◌, ◌≤◌, ◌⊎◌}
pub use Rattle.std.proofs.lemmas.Iterator.{YieldsList-from_slice, YieldsList-from_zip, same_from_all}
pub use Rattle.std.proofs.lemmas.List.{length-map}
pub use Rattle.std.proofs.lemmas.List.Sorted.{IsPermutation-cons, IsPermutation-middle, IsPermutation-refl, IsPermutation-trans}
pub use Rattle.std.proofs.lemmas.List.Sorted.{length_permutation}
pub use Rattle.std.specs.List.{AllByRecursion, filter, flat_map, list_any}
pub use Rattle.std.specs.List.Sorted.{IsPermutation, IsSorted}
pub use Rattle.std.specs.Ordering.{is_eq, is_lt}
pub use Rattle.std.specs.Prelude.{IsTrue, MatchBool, drop}
pub use Rattle.std.specs.declared.cmp.Ordering.{Ordering}
pub use Rattle.sqlite.proofs.Callers.{IsPlain, command_of, one_permutation, runs_as, statement_of, through}
pub use Rattle.sqlite.proofs.StateLemmas.{survives_then, survives_weaker}
pub use Rattle.sqlite.specs.Cast.{cast}
pub use Rattle.sqlite.specs.Change.{created, next_tree}
pub use Rattle.sqlite.specs.Clock.{timed}
pub use Rattle.sqlite.specs.Collation.TheVariants.{Binary}
pub use Rattle.sqlite.specs.Command.TheVariants.{CreateTable, Delete, Insert, Update}
pub use Rattle.sqlite.specs.Does.{Tally, lacks_sequence}
pub use Rattle.sqlite.specs.Effect.{Answers, Database}
pub use Rattle.sqlite.specs.Held.{state}
pub use Rattle.sqlite.specs.Ops.{is_true}
pub use Rattle.sqlite.specs.Order.{Row, column}
pub use Rattle.sqlite.specs.Query.{IsAnswer, IsSureAnswer, Join, Output, Query, end, inner, matches, output, output_cmp}
pub use Rattle.sqlite.specs.Rows.{Gives, Then}
pub use Rattle.sqlite.specs.Schema.{Schema}
pub use Rattle.sqlite.specs.Source.TheVariants.{Values}
pub use Rattle.sqlite.specs.State.{Executes, HasCleanDisk, IsUnchanged, Shows, State, Survives, mode_of}
pub use Rattle.sqlite.specs.Table.{Table}
pub use Rattle.sqlite.specs.Term.{Env, Term, col, eval_all, lit}
pub use Rattle.sqlite.specs.Tree.{Trees}
pub use Rattle.sqlite.specs.declared.error.Error.{Error}
pub use Rattle.sqlite.specs.declared.types.Value.{Value}
pub use Rattle.sqlite.specs.declared.types.Value.TheVariants.{Int, Null, Text}
pub use Rattle.sqlite_exec.proofs.PartitionLemmas.{IsSorted-from_map}
pub use Rattle.sqlite_resolve.specs.declared.compiled.Compiled.{Compiled}
pub use Rattle.sqlite_resolve.specs.declared.error.CompileError.{CompileError}
pub use Rattle.sqlite_rules.specs.Calls.{ids_of}
pub use Rattle.sqlite_rules.specs.Edit.{next_rowid}
pub use Rattle.sqlite_schema.specs.declared.program.Program.{Program}
pub use Rattle.sqlite_sql.specs.declared.ops.BinaryOp.TheVariants.{Compare}
pub use Rattle.sqlite_sql.specs.declared.ops.CompareOp.TheVariants.{Eq}
pub use Rattle.sqlite_trees.specs.Tree.{has_rowid, put_row, rowid, without_rowid}
pub use Rattle.sqlite_value.specs.declared.keys.Key.{Key}
pub use Rattle.reg_tables_schema.specs.Changes.{AddsColumns}
pub use Rattle.reg_tables_schema.specs.Rows.{IsInOrder, capped}
pub use Rattle.reg_tables_schema.specs.Schema.{about, accounts, blank, crates, first_of_ours, old_schema, our_tables, ours, owners, readers}
pub use Rattle.reg_tables_schema.specs.Schema.{reserved, restricted, scopes, tokens, versions}
pub use Rattle.reg_tables_schema.specs.Statements.{IsReading, writes_rows}
pub use Rattle.reg_tables_schema.specs.States.{Grows, HasMade, IsInside, IsInsideWith, IsReady, IsUndone, Makes, OnlyReads, Refuses}
pub use Rattle.reg_tables_schema.specs.declared.texts.TheConstants.{ABOUT, RESERVED}
