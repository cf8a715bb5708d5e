-- One request is answered.
use Rattle.std.specs.Prelude.{◌≡◌, ◌<◌, ◌++◌, ℕ, Bool, length, OnOk, Option, Result, Err}
use Rattle.std.specs.Io.KnownBytes.{Appends}
use Rattle.std.specs.Option.{option_map}
use Rattle.sqlite.specs.State.{HasCleanDisk}
use Rattle.sqlite_trees.specs.declared.store.Store.{Ghosts}
use Rattle.reg_body.specs.Counting.{CountedEnd}
use Rattle.reg_body.specs.declared.limits.Limits.{Limits}
use Rattle.reg_http_read.specs.Heads.{Facts}
use Rattle.reg_model.specs.declared.rule.Rule.TheVariants as rule
use Rattle.reg_model.specs.Registry as model
use Rattle.reg_model.specs.Steps.{IsFit}
use Rattle.reg_model.specs.Registry.{Text}
use Rattle.reg_model.specs.Trail.{told}
use Rattle.reg_http_read.specs.Turns.{Sends, SpendsTurns, writes_of}
use Rattle.reg_http_read.specs.declared.fault.StreamFault.{StreamFault}
use Rattle.reg_http_read.specs.declared.fault.StreamFault.TheVariants.{StoreFault}
use Rattle.reg_api_requests.specs.Requests.{request_from}
use Rattle.reg_api_requests.specs.Views.{event_of}
use Rattle.reg_api_requests.specs.Wants.{Wants, wants_of}
use Rattle.reg_api_requests.specs.declared.request.ApiRequest.{ApiRequest}
use Rattle.reg_service.specs.Answered.{Answers, StandsIn}
use Rattle.reg_service.specs.Registries.{Running, limits_of, tables_of}
use Rattle.reg_service.specs.Streamed.{Finds}
use Rattle.reg_service_index.specs.declared.found.FoundFile.{FoundFile}
use Rattle.reg_tables.specs.declared.tables.Tables.{Tables}
use Rattle.reg_tables.specs.Works.{shown}
use Rattle.reg_http.specs.Exchanges.{IsOfFile, IsOutcome, Outcome, outcome_text}
use Rattle.reg_http.specs.Exchanges.Outcome.{Answered}
use Rattle.reg_http.specs.Trails.{IsTrailed, Tail, TrailEnd, Trails, tail}
use Rattle.reg_http_routes.specs.Routing.{Routing, routing_of}
use Rattle.reg_http_routes.specs.Routing.Routing.{Wants as to_wants}
use Rattle.reg_http_routes.specs.declared.fault.RouteFault.{RouteFault}
use Rattle.reg_http_routes.specs.declared.fault.RouteFault.TheVariants.{Memory, Method, NoRoute}
use Rattle.reg_api_replies.specs.declared.reply.Reply.{Reply}
use Rattle.reg_api_replies.specs.declared.reply.Reply.TheVariants.{Denied, Method as to_methods}

-- the tables and the trail move with the outcome: an event that is fit is answered by them, and
-- told, and else they stay
abbrev pub Moves : {S : Type 0} → Ghosts S → Limits → model.Registry → Facts → Outcome → Tables S
    → Tables S → Tail → Tail → Type 0
Moves g limits s f (Answered w a) old new k0 k1 =
    let e = event_of (request_from limits f.token w) in
    IsFit e × Answers g limits s e a old new × Trails k0 k1 (told limits s e a)
Moves g limits s f o old new k0 k1 = (new ≡ old) × (k1 ≡ k0)

-- some of the text was appended, and not all of it
pub record AppendsSome (text : Text) (old new : Option Text) : Type 0 where
  pub front : Text
  pub rest : Text
  pub whole : text ≡ front ++ rest
  pub some : 0 < length front
  pub unsent : 0 < length rest
  pub appends : Appends old new front

-- What sending the text of an outcome did. The rows of an index file may fail to be read once its
-- reply was begun.
abbrev pub Streams : Outcome → Text → Option Text → Option Text → Result (Unit {0}) StreamFault
    → Type 0
Streams o text w0 w1 (Err StoreFault) = IsOfFile o × AppendsSome text w0 w1
Streams o text w0 w1 r = Sends text w0 w1 r

-- The request is answered by one of its outcomes, whose reply was sent, or a front of it.
pub record Replies {S : Type 0} (g : Ghosts S) (limits : Limits) (f : Facts) (there : Routing)
    (close : Bool) (s : model.Registry) (old new : Tables S) (k0 k1 : Tail)
    (w0 w1 : Option Text) (r : Result (Unit {0}) StreamFault) : Type 0 where
  pub outcome : Outcome
  pub leads : IsOutcome there outcome
  pub moves : Moves g limits s f outcome old new k0 k1
  pub sends : Streams outcome (outcome_text limits f close outcome) w0 w1 r

-- it is so whatever registry the tables held
abbrev pub IsReplied : {S : Type 0} → Ghosts S → Limits → Facts → Routing → Bool → Tables S
    → Tables S → Tail → Tail → Option Text → Option Text → Result (Unit {0}) StreamFault → Type 0
IsReplied g limits f there close old new k0 k1 w0 w1 r =
    HasCleanDisk (shown g new) → (s : model.Registry) → StandsIn s (shown g old)
    → Replies g limits f there close s old new k0 k1 w0 w1 r

-- what is wanted of a request is replied so, whatever else its head tells
abbrev pub IsRequestReplied : {S : Type 0} → Ghosts S → Limits → ApiRequest → Bool → Tables S
    → Tables S → Tail → Tail → Option Text → Option Text → Result (Unit {0}) StreamFault → Type 0
IsRequestReplied g limits request close old new k0 k1 w0 w1 r =
    (f : Facts) → f.token ≡ option_map (λ t. t.now) request.token
    → IsReplied g limits f (to_wants (wants_of request.call)) close old new k0 k1 w0 w1 r

-- whatever was wanted where this index file was found, it is replied so, and nothing is told
abbrev pub IsFileReplied : {S : Type 0} → Ghosts S → FoundFile → Bool → Tables S → Tables S → Tail
    → Option Text → Option Text → Result (Unit {0}) StreamFault → Type 0
IsFileReplied {S = S} g file close found new k w0 w1 r =
    HasCleanDisk (shown g new) → (limits : Limits) (f : Facts) (w : Wants) (s : model.Registry)
    (old : Tables S) → let asks = request_from limits f.token w in
    Finds g limits s asks.digest asks.asked file old found
    → Replies g limits f (to_wants w) close s old new k k w0 w1 r

-- the message is routed, and replied so
abbrev pub IsMessageReplied : {S : Type 0} → Ghosts S → Limits → Facts → Text → Bool → Tables S
    → Tables S → Tail → Tail → Option Text → Option Text → Result (Unit {0}) StreamFault → Type 0
IsMessageReplied g limits f body close old new k0 k1 w0 w1 r =
    IsReplied g limits f (routing_of f body) close old new k0 k1 w0 w1 r

-- the registry goes on: its limits are the same
pub record GoesOn {S : Type 0} (g : Ghosts S) (old new : Running S) : Type 0 where
  pub clean : HasCleanDisk (shown g (tables_of new)) → HasCleanDisk (shown g (tables_of old))
  pub limits : limits_of new ≡ limits_of old

-- One request was answered so. Each call was a turn, and an answer takes at least one. Whatever is
-- wrong with the store, the trail got a text, and the registry goes on.
pub record AnswersRequest {S T W : Type 0} (g : Ghosts S)
    (IsSo : Tables S → Tables S → Tail → Tail → Option Text → Option Text
    → Result (Unit {0}) StreamFault → Type 0)
    (told_of : T → Option Text) (held : W → Option Text) (old new : Running S)
    (k0 k1 : TrailEnd T) (w0 w1 : CountedEnd W) (had left : ℕ)
    (r : Result (Unit {0}) StreamFault) : Type 0 where
  pub replied : IsSo (tables_of old) (tables_of new) (tail (told_of k0.end.inner) k0)
      (tail (told_of k1.end.inner) k1) (held w0.inner) (held w1.inner) r
  pub spends : SpendsTurns had left (writes_of w0) (writes_of w1) r
  pub fewer : OnOk r (left < had)
  pub told : IsTrailed (tail (told_of k0.end.inner) k0) (tail (told_of k1.end.inner) k1)
  pub keeps : GoesOn g old new

-- the reply where there is no route, no such method, or no room to route the request
abbrev pub fault_reply : RouteFault → Reply
fault_reply NoRoute = Denied rule.H6
fault_reply (Method m) = to_methods m
fault_reply Memory = Denied rule.S1
