-- What many proofs here use, passed on to them.
pub use Rattle.std.proofs.Common.{Bool, Err, IfOk, List, None, Ok, Option, Result, Some, [], ap, arith, false, get_or, inl, inr, length}
pub use Rattle.std.proofs.Common.{map, refl, rules, subst, sym, take, true, ℕ, ◌++◌, ◌+◌, ◌<◌, ◌∙◌, ◌∷◌, ◌≡◌}
pub use Rattle.std.proofs.lemmas.Result.{IfOk-weaker}
pub use Rattle.std.proofs.lemmas.Slice.Eq.{bytes_eq-Decides}
pub use Rattle.std.specs.BTreeMap.{get}
pub use Rattle.std.specs.BTreeSet.{IsFromIterResult}
pub use Rattle.std.specs.List.{filter, list_all, position_from, slice_get}
pub use Rattle.std.specs.Option.{option_map}
pub use Rattle.std.specs.Ordering.{nat_cmp}
pub use Rattle.std.specs.Prelude.{IsTrue, if◌then◌else◌, is_some, string_bytes, ◌&&◌, ◌==◌, ◌↔◌}
pub use Rattle.std.specs.Str.{bytes_eq}
pub use Rattle.reg_line.specs.StemCheck.{IsStemOf}
pub use Rattle.reg_names.specs.Patterns.{pattern_of}
pub use Rattle.reg_tables.specs.Works.{seen}
pub use Rattle.reg_tables_rows.specs.declared.all_rows.AllRows.{AllRows}
pub use Rattle.reg_tables_sql.specs.Archives.{archives_with_id}
pub use Rattle.reg_versions.specs.Versions.{is_version, release_key_of}
pub use Rattle.sqlite.specs.Effect.{Database}
pub use Rattle.sqlite.specs.State.{HasCleanDisk, IsUnchanged}
pub use Rattle.reg_audit.specs.Checks.{IsFirstOf, IsGenuine, is_archive, shown_version}
