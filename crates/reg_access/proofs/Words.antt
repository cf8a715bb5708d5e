-- What many proofs here use, passed on to them.
pub use Rattle.std.proofs.Common.{Bool, Err, List, None, Ok, Option, Result, Some, [], ap, append-nil, ap₂, arith, codes, cond, false}
pub use Rattle.std.proofs.Common.{get_or, inl, inr, is_some, length, map, not, pos, refl, rules, subst, suc, sym, take, true, zero, ℕ, ◌&&◌}
pub use Rattle.std.proofs.Common.{◌++◌, ◌+◌, ◌-◌, ◌==◌, ◌||◌, ◌∙◌, ◌∷◌, ◌≡◌, ◌⊎◌}
pub use Rattle.std.proofs.lemmas.Bool.{and_parts, eq-eqb, eqb-true}
pub use Rattle.std.proofs.lemmas.List.Sorted.{IsPermutation-map, list_any-IsPermutation}
pub use Rattle.std.specs.Fmt.{decimal}
pub use Rattle.std.specs.List.{AllByRecursion, enumerate_from, filter, find, flat_map, list_all, list_any}
pub use Rattle.std.specs.List.Sorted.{IsPermutation}
pub use Rattle.std.specs.Option.{option_map}
pub use Rattle.std.specs.Ordering.{is_lt, on}
pub use Rattle.std.specs.Prelude.{drop, string_bytes, unwrap_or}
pub use Rattle.std.specs.Str.{bytes_eq}
pub use Rattle.reg_model.proofs.Lists.{any_filter, any_same, is_some_find, list_any_map, not_true, true_not_false}
pub use Rattle.reg_model.proofs.Members.{IsIn, one_passes}
pub use Rattle.reg_model.specs.Actions.{Action, crate_of}
pub use Rattle.reg_model.specs.Actions.Action.{AddOwners, Download, Index, ListOwners, Publish, Read, RemoveOwners, Unyank, Yank}
pub use Rattle.reg_model.specs.Crates.{collides, exists, first, is_among, is_reserved_always, owners, same_release, versions}
pub use Rattle.reg_model.specs.Facts.{Access, lists}
pub use Rattle.reg_model.specs.Registry.{Account, Registry, Token, holds, is_enabled, token_of, with_id}
pub use Rattle.reg_model.specs.Rules.{has_endpoint}
pub use Rattle.reg_model.specs.Sound.{Sound, is_token}
pub use Rattle.reg_names.specs.Names.{canon, is_name, name_of}
pub use Rattle.reg_names.specs.Patterns.{covers}
pub use Rattle.reg_names.specs.declared.endpoint.Endpoint.{Endpoint}
pub use Rattle.reg_policy.specs.Views.{action_of, decision_of}
pub use Rattle.reg_tables.specs.Calling.{Queries}
pub use Rattle.reg_tables.specs.Works.{OnAnswer, IsActive, KeepsFrame, Unmoved, has_failed, rows_seen, seen}
pub use Rattle.reg_tables.specs.declared.work.StoreFault.{StoreFault}
pub use Rattle.reg_tables.specs.declared.work.Work.{Work}
pub use Rattle.reg_tables_represent.proofs.AccountEntries.{same_text}
pub use Rattle.reg_tables_represent.proofs.CrateLemmas.{bytes_same, same_bytes, same_crate, spelled_at}
pub use Rattle.reg_tables_represent.proofs.Numbered.{at_place, one_at}
pub use Rattle.reg_tables_represent.proofs.Standing.{none_row, same_number}
pub use Rattle.reg_tables_represent.specs.Calls.{FindsCrate}
pub use Rattle.reg_tables_represent.specs.Entries.{entry_of_account}
pub use Rattle.reg_tables_represent.specs.Stands.{StandsSoundBy, IdAssignment, StandCrates, StandsBy, StoredCrate, StoredVersion, row_of_account, row_of_token}
pub use Rattle.reg_tables_represent.specs.Stands.{row_of_version}
pub use Rattle.reg_tables_schema.proofs.Permutes.{one_row}
pub use Rattle.reg_tables_schema.proofs.Queries.{and_true, answers, equals_int, equals_text, maps_twice, plain, same_filter}
pub use Rattle.reg_tables_schema.proofs.Reading.{IsSelection, selected}
pub use Rattle.reg_tables_schema.proofs.Selections.{matched, of_table}
pub use Rattle.reg_tables_schema.specs.Rows.{sql_bool, number_columns}
pub use Rattle.reg_tables_schema.specs.Schema.{ours}
pub use Rattle.reg_tables_schema.specs.Shown.{shown_of}
pub use Rattle.reg_tables_schema.specs.States.{IsInside}
pub use Rattle.reg_tables_schema.specs.Tests.{shows}
pub use Rattle.reg_tables_sql.specs.Tokens.{columns_with_account, tokens_with_accounts}
pub use Rattle.reg_tables_sql.specs.declared.crates.Crate.{Crate}
pub use Rattle.reg_tables_sql.specs.declared.tokens.TokenRow.{TokenRow}
pub use Rattle.reg_versions.specs.Versions.{release_key_of}
pub use Rattle.sqlite.specs.Collation.TheVariants.{Binary}
pub use Rattle.sqlite.specs.Ops.{is_null}
pub use Rattle.sqlite.specs.Order.{Row, column}
pub use Rattle.sqlite.specs.Program.{overlay}
pub use Rattle.sqlite.specs.Query.{IsSureAnswer, Join, Query, end, inner, left, matches, or_nulls}
pub use Rattle.sqlite.specs.State.{HasCleanDisk, Shown}
pub use Rattle.sqlite.specs.Term.{Term, col, eval_all, op2}
pub use Rattle.sqlite.specs.Tree.{Trees}
pub use Rattle.sqlite.specs.declared.types.Value.{Value}
pub use Rattle.sqlite.specs.declared.types.Value.TheVariants.{Blob, Int, Null, Text}
pub use Rattle.sqlite_schema.specs.Rules.{equal}
pub use Rattle.sqlite_sql.specs.declared.ops.BinaryOp.TheVariants.{Compare}
pub use Rattle.sqlite_sql.specs.declared.ops.CompareOp.TheVariants.{Eq, Le, Lt}
pub use Rattle.sqlite_trees.proofs.ListLemmas.{flat_map-map, map-flat_map}
pub use Rattle.sqlite_trees.specs.declared.store.Store.{Ghosts}
pub use Rattle.reg_access.specs.Admitted.{IsIdOf, version_named}
pub use Rattle.reg_access.specs.Found.{AreFound, facts_found, number_or_null, rows_of}
pub use Rattle.reg_access.specs.Grants.{AreCandidates, Told, granted, is_candidate, is_free, is_right, reader_of, row_of_candidate, told_by}
pub use Rattle.reg_access.specs.Grants.{told_of}
pub use Rattle.reg_access.specs.JoinRows.{beside_all, crates_seen_by, is_at_most, is_below, is_mark_of, is_mark_set, is_pair_of, is_release}
pub use Rattle.reg_access.specs.JoinRows.{is_scope_over, is_shown, is_there, is_version, last_rows, named_rows, names_version, publishes}
pub use Rattle.reg_access.specs.JoinRows.{reserved_as, scopes_over, text_in, value_at, versions_of_release, versions_with_text}
pub use Rattle.reg_access.specs.Laws.{TellsCrate, TellsToken}
pub use Rattle.reg_access.specs.Verdict.{facts_in, is_always_reserved, is_seen, join_rows, needs_scope}
pub use Rattle.reg_access.specs.declared.finding.CrateFacts.{CrateFacts}
pub use Rattle.reg_access.specs.declared.found.CrateRow.{CrateRow}
pub use Rattle.reg_access.specs.declared.granting.TheConstants.{FIND_CANDIDATES_TEXT}
