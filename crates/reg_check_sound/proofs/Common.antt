-- The names that most proofs here cite, passed on from one place. Declares nothing.
pub use Rattle.std.proofs.Common.{[], ◌+◌, ◌==◌, ◌∙◌, ◌∷◌, ◌≡◌, ap, ap₂, arith, Bool, eqb-true, false, inl, inr, length, List, map, not, pos, refl, Some, subst, suc, sym, true, zero, ℕ}
pub use Rattle.std.proofs.lemmas.Bool.{and_from, and_parts, eq-eqb}
pub use Rattle.std.proofs.lemmas.List.Sorted.{IsPermutation-sym}
pub use Rattle.std.specs.Cmp.Lexicographic.{nat_list_cmp_total}
pub use Rattle.std.specs.List.{AllByRecursion, enumerate_from, list_all, list_any}
pub use Rattle.std.specs.List.Sorted.{IsPermutation}
pub use Rattle.std.specs.Ordering.{eq_by_cmp, nat_cmp}
pub use Rattle.std.specs.Prelude.{◌&&◌, ◌||◌, drop, filter, string_bytes}
pub use Rattle.std.specs.Str.{bytes_eq}
pub use Rattle.sqlite.specs.Order.{column, Row}
pub use Rattle.sqlite.specs.Tree.{Trees}
pub use Rattle.sqlite.specs.declared.types.Value.TheVariants.{Int, Null}
pub use Rattle.sqlite_sql.specs.Ops.{is_null}
pub use Rattle.sqlite_trees.proofs.ListLemmas.{all_weaker}
pub use Rattle.sqlite_trees.specs.Tree.{rowid}
pub use Rattle.reg_names.specs.Names.{canon, is_name}
pub use Rattle.reg_model.proofs.Lists.{list_any_map, not_true}
pub use Rattle.reg_model.proofs.Members.{all_in, any_in, each_in, in_all, in_any, in_each, in_map, in_permuted, IsIn, map_in}
pub use Rattle.reg_model.specs.Registry.{mark_cmp, Registry, Text}
pub use Rattle.reg_tables_schema.proofs.Queries.{maps_twice}
pub use Rattle.reg_tables_schema.specs.Rows.{by_column, IsInOrder}
pub use Rattle.reg_tables_schema.specs.Tests.{shows}
pub use Rattle.reg_tables_sql.specs.declared.crates.Crate.{Crate}
pub use Rattle.reg_tables_sql.specs.declared.versions.Version.{Version}
pub use Rattle.reg_tables_represent.proofs.AccountEntries.{heads, number_is, tails, words_are}
pub use Rattle.reg_tables_represent.proofs.CrateLemmas.{bytes_same, same_bytes}
pub use Rattle.reg_tables_represent.proofs.Standing.{same_number}
pub use Rattle.reg_tables_represent.specs.Entries.{entry_of_crate}
pub use Rattle.reg_tables_represent.specs.Stored.{IdAssignment, StoredCrate}
pub use Rattle.reg_tables_rows.specs.declared.all_rows.AllRows.{AllRows}
pub use Rattle.reg_audit.specs.Checks.{are_counted, has_account, has_crate}
