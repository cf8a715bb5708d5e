-- What many proofs here use, passed on to them.
pub use Rattle.std.proofs.Common.{Bool, Equal, Greater, Less, List, None, Option, Some, [], ap, ap₂, arith, eqb-true, false, inl, inr}
pub use Rattle.std.proofs.Common.{length, map, not, pos, refl, subst, suc, sym, true, zero, ℕ, ◌++◌, ◌+◌, ◌<◌, ◌==◌, ◌∙◌, ◌∷◌, ◌≡◌, ◌≤◌}
pub use Rattle.std.proofs.lemmas.Bool.{and_from, and_parts, eq-eqb, eqb-false, ne_eqb, not-true}
pub use Rattle.std.proofs.lemmas.List.{length-map}
pub use Rattle.std.proofs.lemmas.List.Folds.{list_all-map}
pub use Rattle.std.proofs.lemmas.List.Sorted.{IsPermutation-map, IsPermutation-sym, IsPermutation-trans, list_any-IsPermutation}
pub use Rattle.std.proofs.lemmas.Map.Keys.{IsDistinct-IsPermutation}
pub use Rattle.std.proofs.lemmas.Map.Text.{is_eq-slice_cmp}
pub use Rattle.std.specs.List.{AllByRecursion, enumerate_from, find, flat_map, list_all, list_any}
pub use Rattle.std.specs.List.Sorted.{IsPermutation}
pub use Rattle.std.specs.Option.{option_map}
pub use Rattle.std.specs.Ordering.{is_eq, nat_cmp, on}
pub use Rattle.std.specs.Prelude.{codes, cond, drop, filter, if◌then◌else◌, is_some, nat_eq, nat_lt, string_bytes, ◌&&◌, ◌||◌}
pub use Rattle.std.specs.declared.cmp.Ordering.{Ordering}
pub use Rattle.reg_audit.specs.Checks.{accounts_pass, are_counted, are_placed, crate_of, follow, has_account, has_crate, is_account}
pub use Rattle.reg_audit.specs.Checks.{is_archive, is_reserved, is_scope, is_summary, is_token, its_versions, tokens_pass}
pub use Rattle.reg_audit.specs.declared.check.Check.TheVariants.{C1, C2, C3, C4, C5, C6, C7, C8}
pub use Rattle.reg_line.specs.Base.{is_base}
pub use Rattle.reg_line.specs.StemCheck.{IsStemOf}
pub use Rattle.reg_model.proofs.Alike.{both_all}
pub use Rattle.reg_model.proofs.Keys.{mark_apart, mark_total, owner_apart, owner_total, same_key, text_apart, ties_itself}
pub use Rattle.reg_model.proofs.Lists.{not_true, or_left, or_right, or_split, true_not_false}
pub use Rattle.reg_model.proofs.Members.{IsIn, any_in, distinct_from_map, each_in, in_all, in_any, in_each, in_filter, in_map, map_in}
pub use Rattle.reg_model.proofs.Members.{map_same, one_of, one_passes}
pub use Rattle.reg_model.specs.Registry.{Publication, mark_cmp, owner_cmp, text_cmp, with_id}
pub use Rattle.reg_names.specs.Patterns.{is_pattern}
pub use Rattle.reg_names.specs.Ranges.{range_of}
pub use Rattle.reg_tables_represent.proofs.AccountEntries.{heads, same_text, tails, words_are}
pub use Rattle.reg_tables_represent.proofs.CrateLemmas.{apart_by, bytes_same, is_published, same_bytes}
pub use Rattle.reg_tables_represent.proofs.Selected.{column_total, each_part, number_below, same_head, same_tail, shown_in_turn}
pub use Rattle.reg_tables_represent.proofs.SummaryRows.{highest_same, length_same}
pub use Rattle.reg_tables_represent.specs.Entries.{entry_of_account}
pub use Rattle.reg_tables_represent.specs.Stands.{HaveOwnRowids, StandsSoundBy, StandPairs, StandsBy, columns_of_stored, is_paired, row_of_account}
pub use Rattle.reg_tables_represent.specs.Stands.{row_of_archive, row_of_crate, row_of_token, row_of_version, scope_of, scopes_of}
pub use Rattle.reg_tables_represent.specs.Stored.{IdAssignment, StoredCrate, StoredPair, StoredVersion}
pub use Rattle.reg_tables_represent.specs.Summaries.{StandSummaries, highest_in, length_in, mark_shown, row_of_summary}
pub use Rattle.reg_tables_rows.specs.WholeRows.{AreAllRows}
pub use Rattle.reg_tables_schema.proofs.Permutes.{filter_map}
pub use Rattle.reg_tables_schema.specs.Rows.{IsInOrder, by_column, by_columns, number_columns}
pub use Rattle.reg_tables_schema.specs.Schema.{our_tables, ours, refers}
pub use Rattle.reg_tables_schema.specs.States.{about_columns}
pub use Rattle.reg_tables_schema.specs.Tests.{is_number, shows}
pub use Rattle.reg_tables_schema.specs.declared.edition.SchemaVersion.TheVariants.{Second}
pub use Rattle.reg_tables_sql.specs.Accounts.{account_columns}
pub use Rattle.reg_tables_sql.specs.Archives.{archive_places, archives_with_id}
pub use Rattle.reg_tables_sql.specs.Crates.{crate_columns}
pub use Rattle.reg_tables_sql.specs.Pairs.{columns_of_pair}
pub use Rattle.reg_tables_sql.specs.Reserved.{reserved_columns}
pub use Rattle.reg_tables_sql.specs.Scopes.{columns_of_scope}
pub use Rattle.reg_tables_sql.specs.Summaries.{columns_of_summary}
pub use Rattle.reg_tables_sql.specs.Tokens.{columns_of_token}
pub use Rattle.reg_tables_sql.specs.Versions.{columns_of_version}
pub use Rattle.reg_tables_sql.specs.declared.accounts.Account.{Account}
pub use Rattle.reg_tables_sql.specs.declared.pairs.Pair.{Pair}
pub use Rattle.reg_tables_sql.specs.declared.scopes.Scope.{Scope}
pub use Rattle.reg_tables_sql.specs.declared.summaries.Summary.{Summary}
pub use Rattle.reg_tables_sql.specs.declared.tokens.Token.{Token}
pub use Rattle.reg_versions.specs.Versions.{release_key_of}
pub use Rattle.sha2.specs.Sha256.{sha256}
pub use Rattle.sqlite.specs.Order.{Row, column, value_cmp}
pub use Rattle.sqlite.specs.declared.types.Value.{Value}
pub use Rattle.sqlite.specs.declared.types.Value.TheVariants.{Blob, Int, Null, Real, Text}
pub use Rattle.sqlite_schema.specs.Rules.{Obeys, agree, clashes, differ, has_parent}
pub use Rattle.sqlite_schema.specs.declared.schema.Constraint.TheVariants.{Datatype, NotNull}
pub use Rattle.sqlite_trees.proofs.ListLemmas.{all-map, all-permutation, all_from_map, all_weaker, ascending-map}
pub use Rattle.sqlite_trees.specs.Tree.{IsAscending}
pub use Rattle.sqlite_value.proofs.OrderLemmas.{value_cmp_total}
pub use Rattle.sqlite_value.specs.Keys.{plain}
pub use Rattle.reg_check_sound.specs.Opening.{AuditLaw, PassAll}
pub use Rattle.reg_check_sound.specs.RegistryFrom.{account_from, canon_from, ids_from, mark_from, name_from, pair_from, patterns_of}
pub use Rattle.reg_check_sound.specs.RegistryFrom.{publication_from, registry_from, spelling, token_from, version_from}
pub use Rattle.reg_check_sound.specs.Rules.{AreUnique, AreUniqueBy, IsKeyed, IsWhole, KeepsRules, RefersTo, same_at, same_value}
