-- What many proofs here use, passed on to them.
pub use Rattle.std.proofs.Common.{Bool, Err, List, None, Ok, Option, Result, Some, [], ap, append-nil, append_assoc, arith, cond, drop}
pub use Rattle.std.proofs.Common.{false, get_or, is_none, length, map, not, refl, rules, subst, suc, sym, take, true, zero, ℕ, ◌&&◌, ◌++◌}
pub use Rattle.std.proofs.Common.{◌+◌, ◌-◌, ◌<◌, ◌==◌, ◌||◌, ◌∙◌, ◌∷◌, ◌≡◌}
pub use Rattle.std.proofs.lemmas.Bool.{ne_eqb}
pub use Rattle.std.proofs.lemmas.Grind.{flat_map-append}
pub use Rattle.std.proofs.lemmas.List.{take_all, take_more}
pub use Rattle.std.proofs.lemmas.List.Folds.{flat_map-map}
pub use Rattle.std.specs.Fmt.{decimal}
pub use Rattle.std.specs.List.{cons_option, enumerate_from, filter, find, flat_map, list_all, list_any}
pub use Rattle.std.specs.List.Sorted.{IsStrictlySortedBy}
pub use Rattle.std.specs.Option.{option_and_then, option_map}
pub use Rattle.std.specs.Prelude.{String, Vec, codes, nat_le, slice_get, string_bytes, unwrap_or}
pub use Rattle.std.specs.Str.{bytes_eq}
pub use Rattle.std.specs.declared.alloc.Global.{Global}
pub use Rattle.reg_access.proofs.Questions.{asks_after, asks_both, asks_failed, asks_made, asks_nothing}
pub use Rattle.reg_body.specs.declared.limits.Limits.{Limits}
pub use Rattle.reg_line.specs.File.{file_text}
pub use Rattle.reg_model.proofs.CanonLists.{canons_listed}
pub use Rattle.reg_model.proofs.Canons.{canon-canon}
pub use Rattle.reg_model.proofs.Lists.{list_any_map}
pub use Rattle.reg_model.specs.Crates.{exists, first, has_crate, is_reserved_always, versions}
pub use Rattle.reg_model.specs.Effects.{replied}
pub use Rattle.reg_model.specs.Events.{Answer, Command}
pub use Rattle.reg_model.specs.Events.Answer.{Done, Refused}
pub use Rattle.reg_model.specs.Events.Command.{Access, CrateOpen, CrateRestrict, Crates, OwnerAdd, ReaderAdd, ReaderRemove, Reserve}
pub use Rattle.reg_model.specs.Events.Command.{TokenAdd, TokenRevoke, Tokens, Unreserve, UserAdd, UserDisable, UserEnable, Users}
pub use Rattle.reg_model.specs.Events.Event.{Order}
pub use Rattle.reg_model.specs.Refusals.{patterns_given}
pub use Rattle.reg_model.specs.Registry.{Registry, Text, id_of_login, text_cmp, with_id}
pub use Rattle.reg_model.specs.Reports.{crate_line, token_line, user_line, with_commas}
pub use Rattle.reg_model.specs.Steps.{Outcome, outcome, unless_refused}
pub use Rattle.reg_model.specs.Trail.{command_words, line_of, name_words, unless_some}
pub use Rattle.reg_model.specs.declared.rule.AdminRefusal.{AdminRefusal}
pub use Rattle.reg_names.specs.Names.{canon, is_name, name_of, path_of}
pub use Rattle.reg_names.specs.Patterns.{is_pattern}
pub use Rattle.reg_policy.specs.Events.{reply_of}
pub use Rattle.reg_policy.specs.declared.event.AdminReply.{AdminReply}
pub use Rattle.reg_service_steps.proofs.Afterwards.{line_is}
pub use Rattle.reg_service_steps.proofs.Names.{is_given, is_not, named_there}
pub use Rattle.reg_service_steps.proofs.Running.{asks_as, runs_asked, runs_nothing, runs_then, runs_told, runs_whole}
pub use Rattle.reg_service_steps.specs.Named.{FindsNamed}
pub use Rattle.reg_service_steps.specs.Reads.{entry_of_version}
pub use Rattle.reg_service_steps.specs.Telling.{line_if}
pub use Rattle.reg_tables.specs.Calling.{Queries}
pub use Rattle.reg_tables.specs.Works.{rows_seen}
pub use Rattle.reg_tables.specs.declared.work.StoreFault.{StoreFault}
pub use Rattle.reg_tables.specs.declared.work.Work.{Work}
pub use Rattle.reg_tables_represent.specs.Calls.{AddsToken, Counted, FindsAccount, FindsToken, ListsAccounts, ListsCrates, ListsVersions}
pub use Rattle.reg_tables_represent.specs.Calls.{Tells, TellsLive}
pub use Rattle.reg_tables_represent.specs.Changes.{told_of}
pub use Rattle.reg_tables_represent.specs.Entries.{entry_of_account, shown_version, version_shown}
pub use Rattle.reg_tables_represent.specs.Stands.{IdAssignment, Stands, spelling_at}
pub use Rattle.reg_tables_schema.proofs.Queries.{maps_twice}
pub use Rattle.reg_tables_sql.specs.declared.accounts.Account.{Account}
pub use Rattle.reg_tables_sql.specs.declared.crates.Crate.{Crate}
pub use Rattle.reg_tables_sql.specs.declared.scopes.Scope.{Scope}
pub use Rattle.reg_tables_sql.specs.declared.tokens.Token.{Token}
pub use Rattle.reg_tables_sql.specs.declared.versions.Version.{Version}
pub use Rattle.reg_versions.specs.Precedence.{IsTop, Marked}
pub use Rattle.sqlite.specs.Tree.{Trees}
pub use Rattle.sqlite_trees.specs.declared.store.Store.{Ghosts}
pub use Rattle.reg_service_commands.specs.Exported.{AddsFiles, file_of, texts_of}
pub use Rattle.reg_service_commands.specs.Orders.{FindsPair, HasOutcome, Reply, enabling, first_ground, restricting}
pub use Rattle.reg_service_commands.specs.ReportedCrates.{HasLines, IsCrate, highest_among, line_of_crate, read_version}
pub use Rattle.reg_service_commands.specs.ReportedTokens.{AreTokens, line_among, login_among, pattern_of, with_patterns}
pub use Rattle.reg_service_commands.specs.Reports.{Reports, line_of_grant, line_of_reader}
pub use Rattle.reg_service_commands.specs.Telling.{IsDoneTold, enabled_word, restricted_word}
pub use Rattle.reg_service_commands.specs.declared.told.TracedOrder.{TracedOrder}
