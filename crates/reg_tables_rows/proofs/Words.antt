-- What many proofs here use, passed on to them.
pub use Rattle.std.proofs.Common.{List, SFits, Some, [], ap, arith, drop, false, get_or, length, map, pos, refl, rules, subst, sym, take}
pub use Rattle.std.proofs.Common.{w64, ℕ, ℤ, ◌+◌, ◌<◌, ◌∙◌, ◌∷◌, ◌≡◌}
pub use Rattle.std.proofs.lemmas.List.Sorted.{IsPermutation-sym}
pub use Rattle.std.proofs.lemmas.Result.{on_ok_weaker}
pub use Rattle.std.specs.Ordering.{int_cmp}
pub use Rattle.std.specs.Prelude.{nat_le, ◌↔◌}
pub use Rattle.reg_tables_represent.proofs.CrateCounts.{count_is, crates_are}
pub use Rattle.reg_tables_represent.proofs.NextId.{next_id}
pub use Rattle.reg_tables_represent.proofs.Readings.{fails, left, so_far, told_before, was_clean, ◌⨾◌}
pub use Rattle.reg_tables_represent.proofs.Results.{if_ok}
pub use Rattle.reg_tables_represent.specs.Stands.{HaveOwnRowids}
pub use Rattle.reg_tables_schema.specs.Places.{archives_tree, owners_tree, readers_tree, reserved_tree}
pub use Rattle.reg_tables_schema.specs.Rows.{by_column}
pub use Rattle.reg_tables_schema.specs.Statements.{rows_in}
pub use Rattle.reg_tables_schema.specs.Tests.{shows}
pub use Rattle.reg_tables_sql.specs.Crates.{AreCratesById}
pub use Rattle.reg_tables_sql.specs.Owners.{AreOwnerships}
pub use Rattle.reg_tables_sql.specs.Reserved.{AreReserved}
pub use Rattle.reg_tables_sql.specs.Restricted.{AreRestricted}
pub use Rattle.reg_tables_sql.specs.Rowids.{AreRowids, rowid_columns}
pub use Rattle.reg_tables_sql.specs.Stems.{columns_of_stem, entries_text}
pub use Rattle.reg_tables_sql.specs.Versions.{AreVersions}
pub use Rattle.sqlite.specs.Held.{state}
pub use Rattle.sqlite.specs.Order.{Row}
pub use Rattle.sqlite.specs.State.{HasCleanDisk}
pub use Rattle.sqlite.specs.Tree.{Trees}
pub use Rattle.sqlite.specs.declared.types.Value.TheVariants.{Int}
pub use Rattle.sqlite_trees.proofs.ListLemmas.{all-permutation}
pub use Rattle.sqlite_trees.specs.Tree.{rowid}
pub use Rattle.sqlite_value.proofs.OrderLemmas.{value_cmp-Int}
pub use Rattle.reg_tables_rows.specs.WholeRows.{HaveIds}
