-- What many proofs here use, passed on to them.
pub use Rattle.std.proofs.Common.{Bool, Err, IsTrue, List, None, Ok, Option, Result, Some, [], ap, arith, false, get_or, inl, inr, length}
pub use Rattle.std.proofs.Common.{map, refl, rules, subst, sym, take, true, ℕ, ◌++◌, ◌+◌, ◌<◌, ◌∙◌, ◌∷◌, ◌≡◌, ◌⊎◌}
pub use Rattle.std.proofs.lemmas.Bool.{false≢true}
pub use Rattle.std.proofs.lemmas.List.{take_all}
pub use Rattle.std.specs.Option.{option_map}
pub use Rattle.std.specs.Prelude.{string_bytes}
pub use Rattle.std.specs.declared.alloc.Global.{Global}
pub use Rattle.reg_api_replies.specs.declared.reply.Reply.{Reply}
pub use Rattle.reg_api_replies.specs.declared.reply.Reply.TheVariants.{Denied}
pub use Rattle.reg_api_requests.specs.Requests.{request_of}
pub use Rattle.reg_audit.specs.declared.check.Check.{Check}
pub use Rattle.reg_body.specs.declared.limits.Limits.{Limits}
pub use Rattle.reg_model.specs.Events.{Answer, Asked, Event}
pub use Rattle.reg_model.specs.Events.Event.{Ask, Order}
pub use Rattle.reg_model.specs.Laws.{StepsKeepSound}
pub use Rattle.reg_model.specs.Registry.{Registry, Text}
pub use Rattle.reg_model.specs.Steps.{IsFit, Outcome, Step, unavailable, outcome}
pub use Rattle.reg_model.specs.declared.rule.AdminRefusal.{AdminRefusal}
pub use Rattle.reg_policy.specs.Events.{command_of, reply_of}
pub use Rattle.reg_search.specs.Rows.{hit_of}
pub use Rattle.reg_service_commands.specs.Telling.{line_of_answer}
pub use Rattle.reg_service_index.specs.Found.{FilesAreRows}
pub use Rattle.reg_service_index.specs.declared.found.FoundFile.{FoundFile}
pub use Rattle.reg_service_requests.specs.Serves.{Serves}
pub use Rattle.reg_service_requests.specs.Telling.{line_with}
pub use Rattle.reg_service_requests.specs.declared.served.Served.TheVariants.{Done, Seeks, Sends, ReadOnly}
pub use Rattle.reg_service_requests.specs.declared.told.TracedReply.{TracedReply}
pub use Rattle.reg_tables.proofs.Looking.{call_looks}
pub use Rattle.reg_tables.specs.Ends.{Begins, IsCommitted, IsDropped, IsEnded, IsRefused, SeesAll}
pub use Rattle.reg_tables.specs.Looks.{Looks}
pub use Rattle.reg_tables.specs.Works.{AreOurs, IsLeft, edition_in, has_failed, held, is_stopped, rows_seen, seen, shown}
pub use Rattle.reg_tables.specs.declared.tables.Tables.{Tables}
pub use Rattle.reg_tables.specs.declared.work.Work.{Work}
pub use Rattle.reg_tables_represent.proofs.Results.{if_ok}
pub use Rattle.reg_tables_represent.specs.Stands.{Stands}
pub use Rattle.reg_tables_represent.specs.Upgrades.{AreBegun}
pub use Rattle.reg_tables_schema.specs.States.{HasSchema, IsOurs, IsUndone, LeavesCommit, LeavesOurs, Refuses}
pub use Rattle.reg_tables_schema.specs.declared.edition.SchemaVersion.{SchemaVersion}
pub use Rattle.reg_tables_schema.specs.declared.edition.SchemaVersion.TheVariants.{First, Second}
pub use Rattle.sqlite.proofs.StateLemmas.{survives_weaker}
pub use Rattle.sqlite.specs.Effect.{Database}
pub use Rattle.sqlite.specs.Held.{Held, state}
pub use Rattle.sqlite.specs.State.{HasCleanDisk, State, Survives}
pub use Rattle.sqlite.specs.Tree.{Trees}
pub use Rattle.sqlite_trees.specs.declared.store.Store.{Ghosts}
pub use Rattle.reg_service.specs.Traced.{ActsTo, IsActed}
pub use Rattle.reg_service.specs.Answered.{Answers, StandsSound, AreUpToDate, Halts, LeavesAlone, StandsIn, Stays, WasClean}
pub use Rattle.reg_service.specs.Handled.{RepliesTo, Sought}
pub use Rattle.reg_service.specs.Looked.{Looked}
pub use Rattle.reg_service.specs.Registries.{AreChecked, IsFirstFailing, MayBeUpgraded, limits_of, tables_of}
pub use Rattle.reg_service.specs.Sequences.{HasAnswered}
pub use Rattle.reg_service.specs.Streamed.{Finds}
pub use Rattle.reg_service.specs.declared.opening.OpenFault.{OpenFault}
pub use Rattle.reg_service.specs.declared.opening.OpenFault.TheVariants.{BadBase, Damaged, Storage, UnknownSchema}
