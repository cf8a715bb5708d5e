-- What many proofs here use, passed on to them.
pub use Rattle.std.proofs.Common.{Bool, Err, List, Ok, Option, Result, [], ap, append-nil, append_assoc, arith, drop, false, inl, inr}
pub use Rattle.std.proofs.Common.{length, nat_lt, refl, subst, sym, take, true, ℕ, ◌++◌, ◌+◌, ◌-◌, ◌<◌, ◌==◌, ◌||◌, ◌∙◌, ◌∷◌, ◌≡◌, ◌≤◌, ◌⊎◌}
pub use Rattle.std.proofs.KnownBytes.{Appends-nil, Appends-trans}
pub use Rattle.std.specs.Io.KnownBytes.{Appends}
pub use Rattle.std.specs.Option.{option_map}
pub use Rattle.std.specs.Prelude.{string_bytes}
pub use Rattle.reg_api_requests.specs.Requests.{request_from}
pub use Rattle.reg_api_requests.specs.Views.{event_of}
pub use Rattle.reg_body.specs.Counting.{CountedEnd}
pub use Rattle.reg_body.specs.Sent.{Sink}
pub use Rattle.reg_body.specs.declared.limits.Limits.{Limits}
pub use Rattle.reg_http_read.specs.Heads.{Facts}
pub use Rattle.reg_http_read.specs.Owned.{facts_owned}
pub use Rattle.reg_http_read.specs.Reads.{facts_of}
pub use Rattle.reg_http_read.specs.Taking.{Takes}
pub use Rattle.reg_http_read.specs.Turns.{Sends, SpendsFor, SpendsSome, tally, writes_of}
pub use Rattle.reg_http_read.specs.declared.fault.StreamFault.{StreamFault}
pub use Rattle.reg_http_read.specs.declared.fault.StreamFault.TheVariants.{Memory, ReadFault, StoreFault, TooManyTurns, WriteFault}
pub use Rattle.reg_http_read.specs.declared.owned.OwnedHead.{OwnedHead}
pub use Rattle.reg_http_routes.specs.Routing.{routing_of}
pub use Rattle.reg_model.specs.Events.{Answer, Event}
pub use Rattle.reg_model.specs.Registry.{Text}
pub use Rattle.reg_model.specs.Steps.{IsFit}
pub use Rattle.reg_model.specs.declared.rule.Rule.{Rule}
pub use Rattle.reg_service.specs.Traced.{HasLine}
pub use Rattle.reg_service.specs.Answered.{Answers, StandsIn}
pub use Rattle.reg_service.specs.Registries.{Running, limits_of, tables_of}
pub use Rattle.reg_service.specs.Sequences.{Ran}
pub use Rattle.reg_service.specs.Streamed.{Finds}
pub use Rattle.reg_tables.specs.Works.{shown}
pub use Rattle.reg_tables.specs.declared.tables.Tables.{Tables}
pub use Rattle.sqlite_trees.specs.declared.store.Store.{Ghosts}
pub use Rattle.reg_http.specs.Answering.{AnswersRequest, GoesOn, Replies}
pub use Rattle.reg_http.specs.Exchanges.{Exchange, IsOfFile, Outcome, answers_in, events_in}
pub use Rattle.reg_http.specs.Exchanges.Outcome.{Answered, NoMethod, NoRoom, NoRoute, Unread}
pub use Rattle.reg_http.specs.Serving.{ServesStreamTraced, SpendsLent}
pub use Rattle.reg_http.specs.Streams.{HaveExchanged, HasRun, IsOpen, closing_text, told, trail_in}
pub use Rattle.reg_http.specs.Trails.{IsTrailed, Tail, TrailEnd, Trails, tail}
