-- What many proofs here use, passed on to them.
pub use Rattle.std.proofs.Common.{Bool, Err, List, None, Ok, Option, Result, Some, [], ap, arith, cond, false, get_or, inl, inr, length}
pub use Rattle.std.proofs.Common.{map, not, pos, refl, rules, subst, suc, sym, take, true, zero, ℕ, ◌&&◌, ◌++◌, ◌+◌, ◌<◌, ◌==◌, ◌||◌, ◌∙◌}
pub use Rattle.std.proofs.Common.{◌∷◌, ◌≡◌, ◌≤◌, ◌⊎◌}
pub use Rattle.std.proofs.lemmas.Bool.{and_parts, eq-eqb, eqb-true}
pub use Rattle.std.proofs.lemmas.List.{length-map, map-append}
pub use Rattle.std.proofs.lemmas.List.Sorted.{IsPermutation-trans, list_any-IsPermutation}
pub use Rattle.std.proofs.lemmas.Result.{IfOk-from_err, err_from_is_err_and}
pub use Rattle.std.specs.Cmp.Lexicographic.{nat_list_eq_equiv}
pub use Rattle.std.specs.List.{AllByRecursion, filter, flat_map, list_all, list_any}
pub use Rattle.std.specs.List.Sorted.{IsPermutation}
pub use Rattle.std.specs.Option.{option_and_then, option_map}
pub use Rattle.std.specs.Ordering.{on}
pub use Rattle.std.specs.Prelude.{is_some, nat_eq, slice_get}
pub use Rattle.std.specs.Str.{bytes_eq}
pub use Rattle.reg_model.proofs.Canons.{canon-canon}
pub use Rattle.reg_model.proofs.Lists.{any_filter, any_same, list_any_map}
pub use Rattle.reg_model.proofs.Members.{IsIn, each_in, in_any, in_each, in_filter}
pub use Rattle.reg_model.specs.Crates.{sees}
pub use Rattle.reg_model.specs.Registry.{Registry, owner_cmp}
pub use Rattle.reg_model.specs.Search.{hit, occurs}
pub use Rattle.reg_names.specs.Names.{canon, is_name}
pub use Rattle.reg_tables_represent.proofs.CrateCounts.{crate_has}
pub use Rattle.reg_tables_represent.proofs.Gates.{each_gate}
pub use Rattle.reg_tables_represent.proofs.Walking.{walk_ends, walk_fails, walk_left, walked, walked_all}
pub use Rattle.reg_tables_represent.specs.Stands.{StandsSoundBy, IdAssignment, StoredCrate, StoredVersion, row_of_crate, row_of_version}
pub use Rattle.reg_tables_represent.specs.Summaries.{row_of_summary, top_of}
pub use Rattle.reg_tables_represent.specs.Walks.{HasWalked, IsRead}
pub use Rattle.reg_tables_schema.proofs.Queries.{and_true, answers, maps_twice}
pub use Rattle.reg_tables_schema.proofs.Reading.{IsSelection}
pub use Rattle.reg_tables_schema.specs.Rows.{number_columns}
pub use Rattle.reg_tables_schema.specs.Schema.{ours}
pub use Rattle.reg_tables_schema.specs.Statements.{rows_in}
pub use Rattle.reg_tables_schema.specs.declared.edition.SchemaVersion.TheVariants.{Second}
pub use Rattle.reg_versions.proofs.TopPlace.{top_is_top}
pub use Rattle.reg_versions.specs.Precedence.{Marked, top_place}
pub use Rattle.sqlite.specs.Collation.TheVariants.{Binary}
pub use Rattle.sqlite.specs.Held.{Held, state}
pub use Rattle.sqlite.specs.Ops.{is_true}
pub use Rattle.sqlite.specs.Order.{Row, column}
pub use Rattle.sqlite.specs.Program.{overlay}
pub use Rattle.sqlite.specs.Query.{IsSureAnswer, Query, counted, end, inner, left}
pub use Rattle.sqlite.specs.State.{HasCleanDisk}
pub use Rattle.sqlite.specs.Term.{Env, eval_all}
pub use Rattle.sqlite.specs.Tree.{Trees}
pub use Rattle.sqlite.specs.Values.{bound}
pub use Rattle.sqlite.specs.declared.error.Error.{Error}
pub use Rattle.sqlite.specs.declared.types.Value.TheVariants.{Blob, Int, Text}
pub use Rattle.sqlite_schema.specs.Rules.{equal}
pub use Rattle.sqlite_sql.specs.declared.ops.BinaryOp.TheVariants.{Instr}
pub use Rattle.sqlite_trees.proofs.ListLemmas.{map-flat_map}
pub use Rattle.sqlite_trees.specs.declared.store.Store.{Ghosts}
pub use Rattle.reg_search.specs.Rows.{AreHits, AreIdsOf, FindsIds, Hides, ShowsCrate, ShowsCrates, columns_of_hit, hit_of, id_of, is_hit}
pub use Rattle.reg_search.specs.Rows.{is_unseen}
pub use Rattle.reg_search.specs.declared.hidden.TheConstants.{HIDDEN_TEXT}
pub use Rattle.reg_search.specs.declared.hit.Hit.{Hit}
pub use Rattle.reg_search.specs.declared.numbered.Hits.{Hits}
pub use Rattle.reg_search.specs.declared.page.TheConstants.{HIT_TEXT}
pub use Rattle.reg_search.specs.declared.searching.TheConstants.{WALK_TEXT}
