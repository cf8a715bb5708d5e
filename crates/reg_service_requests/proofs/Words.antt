-- What many proofs here use, passed on to them.
pub use Rattle.std.proofs.Common.{Bool, Err, List, None, Ok, Option, Result, Some, [], ap, arith, cond, drop, false, get_or, length, map}
pub use Rattle.std.proofs.Common.{not, refl, rules, subst, sym, take, true, ℕ, ◌++◌, ◌+◌, ◌<◌, ◌∙◌, ◌∷◌, ◌≡◌}
pub use Rattle.std.proofs.lemmas.Bool.{and_parts}
pub use Rattle.std.proofs.lemmas.List.{drop_all, take_more}
pub use Rattle.std.proofs.lemmas.Slice.Eq.{bytes_eq-Decides}
pub use Rattle.std.specs.Fmt.{decimal}
pub use Rattle.std.specs.List.{enumerate_from, filter, find, list_all, list_any}
pub use Rattle.std.specs.Option.{option_map}
pub use Rattle.std.specs.Prelude.{String, Vec, codes, is_some, string_bytes, unwrap_or, ◌&&◌, ◌||◌}
pub use Rattle.std.specs.Str.{bytes_eq}
pub use Rattle.std.specs.declared.alloc.Global.{Global}
pub use Rattle.reg_access.proofs.Calls.{called_ok}
pub use Rattle.reg_access.proofs.GrantLaw.{first_canon}
pub use Rattle.reg_access.proofs.Questions.{asks_made, asks_nothing}
pub use Rattle.reg_access.specs.Admitted.{IsCrateOf, IsFoundOf, IsIdOf, version_named}
pub use Rattle.reg_access.specs.Verdict.{IsPolicy}
pub use Rattle.reg_access.specs.declared.admission.Principal.{Principal}
pub use Rattle.reg_access.specs.declared.admission.FoundCrate.{FoundCrate}
pub use Rattle.reg_api_replies.specs.Replies.{Says}
pub use Rattle.reg_api_replies.specs.declared.head.Kind.TheVariants.{Json}
pub use Rattle.reg_api_replies.specs.declared.reply.Reply.{Reply}
pub use Rattle.reg_api_replies.specs.declared.reply.Reply.TheVariants.{Denied}
pub use Rattle.reg_body.specs.declared.limits.Limits.{Limits}
pub use Rattle.reg_model.proofs.Cleared.{not_denied}
pub use Rattle.reg_model.proofs.IndexPaths.{not_false}
pub use Rattle.reg_model.proofs.Lists.{any_filter, is_some_find, list_any_map, not_true, true_not_false}
pub use Rattle.reg_model.specs.Actions.{crate_of}
pub use Rattle.reg_model.specs.Crates.{collides, owners, owns, versions, viewer}
pub use Rattle.reg_model.specs.Effects.{account_of, caller, served}
pub use Rattle.reg_model.specs.Events.{Asked, action_of, fault_of}
pub use Rattle.reg_model.specs.Events.Asked.{AddOwners, Download, Malformed, Index, ListOwners, Publish, Read, RemoveOwners, Unyank, Yank}
pub use Rattle.reg_model.specs.Events.Event.{Ask}
pub use Rattle.reg_model.specs.Events.Reading.{Config, Search}
pub use Rattle.reg_model.specs.Facts.{has_login, lists}
pub use Rattle.reg_model.specs.Refusals.{or_else}
pub use Rattle.reg_model.specs.Registry.{Publication, Registry, Text, holds, id_of_login, is_enabled, is_known}
pub use Rattle.reg_model.specs.Reports.{with_commas}
pub use Rattle.reg_model.specs.Rules.{broken, is_access_rule, order}
pub use Rattle.reg_model.specs.Sound.{Sound, has_version}
pub use Rattle.reg_model.specs.Steps.{Outcome, outcome, unless_denied}
pub use Rattle.reg_model.specs.Trail.{line_of, only_if, request_words, spelled, unless, unless_some}
pub use Rattle.reg_model.specs.declared.rule.Rule.{Rule}
pub use Rattle.reg_names.specs.Names.{canon, is_name, name_of}
pub use Rattle.reg_policy.specs.Events.{asked_of, publication_of}
pub use Rattle.reg_service_steps.proofs.Names.{crate_found, first_as, spelled_as}
pub use Rattle.reg_service_steps.proofs.Running.{asks_as, runs_after, runs_as, runs_asked, runs_ended, runs_failed, runs_nothing}
pub use Rattle.reg_service_steps.proofs.Running.{runs_refused, runs_stopped}
pub use Rattle.reg_service_steps.specs.Named.{IsSpelled}
pub use Rattle.reg_service_steps.specs.Reads.{owner_of_account}
pub use Rattle.reg_service_steps.specs.Telling.{TellsIf, TellsLine, line_if}
pub use Rattle.reg_tables.specs.Calling.{Updates}
pub use Rattle.reg_tables.specs.Works.{rows_seen}
pub use Rattle.reg_tables.specs.declared.work.StoreFault.{StoreFault}
pub use Rattle.reg_tables.specs.declared.work.Work.{Work}
pub use Rattle.reg_tables_represent.specs.Calls.{AddsFirst, AddsNext, FindsSummary, ListsOwners, Tells}
pub use Rattle.reg_tables_represent.specs.Changes.{told_of}
pub use Rattle.reg_tables_represent.specs.Entries.{entry_of_account}
pub use Rattle.reg_tables_represent.specs.Stands.{StandsSoundBy, IdAssignment, Stands, StandsBy, spelling_at}
pub use Rattle.reg_tables_schema.proofs.Queries.{maps_twice}
pub use Rattle.reg_tables_sql.specs.Archives.{IsArchiveWithId}
pub use Rattle.reg_tables_sql.specs.declared.accounts.Account.{Account}
pub use Rattle.reg_tables_sql.specs.declared.archives.Archive.{Archive}
pub use Rattle.sqlite.specs.Tree.{Trees}
pub use Rattle.sqlite_trees.specs.declared.store.Store.{Ghosts}
pub use Rattle.reg_service_requests.specs.Granted.{IsPrincipal, IsCrate, IsAuthorized, marking}
pub use Rattle.reg_service_requests.specs.Owning.{AreLeaving, DoesOwning, FindsAllKnown, FindsKnown, FindsOwners, SetsOwner, SetsSome}
pub use Rattle.reg_service_requests.specs.Owning.{entries_of, id_among, leaving_rule, owning, with_owners}
pub use Rattle.reg_service_requests.specs.Serves.{Serves}
pub use Rattle.reg_service_requests.specs.Telling.{changes, mark_word, owners_word}
pub use Rattle.reg_service_requests.specs.declared.served.Served.{Served}
pub use Rattle.reg_service_requests.specs.declared.served.Served.TheVariants.{Done, Seeks, Sends, ReadOnly}
