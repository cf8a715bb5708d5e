-- What a request came to, by what the registry told.
use Rattle.reg_http.proofs.Words.{◌≡◌, ◌<◌, ◌⊎◌, ℕ, Bool, true, false, nat_lt, [], inl, inr, refl, sym, ap, subst, arith, Option, Result}
use Rattle.reg_http.proofs.Words.{Ok, Err, string_bytes, option_map, Ghosts, CountedEnd, Limits, Facts, Answer, Event, Rule, Text, IsFit}
use Rattle.reg_http.proofs.Words.{Sends, StreamFault, Memory, ReadFault, StoreFault, TooManyTurns, WriteFault, request_from, event_of, Sink}
use Rattle.reg_http.proofs.Words.{HasLine, Answers, Running, Finds, Tables, AnswersRequest, Replies, IsOfFile, Outcome, Answered, NoMethod}
use Rattle.reg_http.proofs.Words.{NoRoom, NoRoute, Unread, Tail, TrailEnd, Trails}
use Rattle.std.proofs.Common.{cond, None, Some}
use Rattle.std.specs.Prelude.{String, unwrap_or}
use Rattle.std.specs.declared.alloc.Global.{Global}
use Rattle.reg_model.specs.declared.rule.Rule.TheVariants as rule
use Rattle.reg_model.specs.Events.{Asked}
use Rattle.reg_model.specs.Events.Asked.{AddOwners as to_add, Index as to_index, Read as to_read, RemoveOwners as to_remove}
use Rattle.reg_model.specs.Events.Event.{Ask}
use Rattle.reg_model.specs.Events.Reading.{Search as to_search}
use Rattle.reg_model.specs.Refusals.{denied}
use Rattle.reg_model.specs.Registry as model
use Rattle.reg_model.specs.Registry.{Publication}
use Rattle.reg_model.specs.Trail.{has_no_room, line, line_of, or_nothing, told, unless_some, with_asker}
use Rattle.reg_api_replies.specs.Replies.{Says}
use Rattle.reg_api_replies.specs.declared.reply.Reply.{Reply}
use Rattle.reg_api_replies.specs.declared.reply.Reply.TheVariants.{Denied}
use Rattle.reg_api_requests.specs.Owners.{logins_named}
use Rattle.reg_api_requests.specs.Publish.{publish_of}
use Rattle.reg_api_requests.specs.Requests.{asked_from, or_malformed, published, text_in}
use Rattle.reg_api_requests.specs.Search.{page_of}
use Rattle.reg_api_requests.specs.Wants.{Wants}
use Rattle.reg_api_requests.specs.Wants.Wants.{Config, Index, Download, ListOwners, Publish, Yank, Unyank, AddOwners, RemoveOwners, Search}
use Rattle.reg_api_requests.specs.declared.request.ApiRequest.{ApiRequest}
use Rattle.reg_http_routes.specs.Routing.Routing.{Wants as to_wants}
use Rattle.reg_api_replies.specs.Texts.{answer_text, refusal_text, reply_text}
use Rattle.reg_service.specs.Streamed.{IsFileAnswer, StreamsTo}
use Rattle.reg_service_index.specs.declared.fault.IndexFault.{IndexFault}
use Rattle.reg_service_index.specs.declared.fault.IndexFault.TheVariants.{Spent, Store, Write}
use Rattle.reg_service_index.specs.declared.found.FoundFile.{FoundFile}
use Rattle.reg_http.specs.Answering.{IsReplied, IsRequestReplied, Streams, fault_reply}
use Rattle.reg_http.proofs.Trails.{trails_if, trails_nothing}
use Rattle.reg_http_read.specs.Begun.{is_head_only}
use Rattle.reg_http_routes.specs.Routed.{IsRouted}
use Rattle.reg_http_routes.specs.Routing.{Routing}
use Rattle.reg_http_routes.specs.declared.fault.RouteFault.{RouteFault}
use Rattle.reg_http_routes.specs.declared.fault.RouteFault.TheVariants as route

-- a text that was sent is one whose sending may stop for the store too
pub streams_of : (o : Outcome) (text : Text) (old new : Option Text) (r : Result (Unit {0}) StreamFault) → Sends text old new r → Streams o text old new r
streams_of o text old new (Ok u) x = x
streams_of o text old new (Err WriteFault) x = x
streams_of o text old new (Err TooManyTurns) x = x
streams_of o text old new (Err ReadFault) x = absurd x
streams_of o text old new (Err StoreFault) x = absurd x
streams_of o text old new (Err Memory) x = absurd x

-- what asks for an index file wants one
not_asked : {A : Type 0} (r : Rule) (ask : A → Asked) (o : Option A) (path : Text) → ((a : A) → ask a ≡ to_index path → ⊥) → or_malformed r ask o ≡ to_index path → ⊥
not_asked r ask None path never e = cc
not_asked r ask (Some a) path never e = never a e

not_published : (r : Result Publication Rule) (path : Text) → published r ≡ to_index path → ⊥
not_published (Ok p) path e = cc
not_published (Err r) path e = cc

file_is : (limits : Limits) (w : Wants) (path : Text) (a : Answer) → asked_from limits w ≡ to_index path → IsFileAnswer a → IsOfFile (Answered w a)
file_is limits (Index p) path a e file = file
file_is limits Config path a e file = absurd cc
file_is limits (Download n v) path a e file = absurd cc
file_is limits (ListOwners n) path a e file = absurd cc
file_is limits (Publish body) path a e file = absurd (not_published (publish_of limits body) path e)
file_is limits (Yank n v) path a e file = absurd cc
file_is limits (Unyank n v) path a e file = absurd cc
file_is limits (AddOwners n body) path a e file = absurd (not_asked rule.O1 (to_add (text_in n)) (logins_named limits body) path (λ logins it. cc) e)
file_is limits (RemoveOwners n body) path a e file = absurd (not_asked rule.O1 (to_remove (text_in n)) (logins_named limits body) path (λ logins it. cc) e)
file_is limits (Search q per_page) path a e file = absurd (not_asked rule.Q1 (λ most. to_read (to_search (unwrap_or q []) most)) (page_of per_page) path (λ most it. cc) e)

-- a request for an index file changes nothing
file_line : (limits : Limits) (s : model.Registry) (digest : Option Text) (path : Text) → line limits s (Ask digest (to_index path)) ≡ None
unfolding line
file_line limits s digest path = by (denied limits s digest (to_index path))
  where
    by : (o : Option Rule) → option_map (λ words. line_of (with_asker s (Ask digest (to_index path)) words)) (unless_some o None) ≡ None
    by None = refl
    by (Some r) = refl

nothing : (b : Bool) (t : Text) → t ≡ [] → cond b [] t ≡ []
nothing true t e = refl
nothing false t e = e

file_told : (limits : Limits) (s : model.Registry) (digest : Option Text) (asked : Asked) (path : Text) → asked ≡ to_index path → (a : Answer) → told limits s (Ask digest asked) a ≡ []
file_told limits s digest asked path is a =
    subst (λ it. told limits s (Ask digest it) a ≡ []) (sym is) (nothing (has_no_room a) (or_nothing (line limits s (Ask digest (to_index path)))) (ap or_nothing (file_line limits s digest path)))

module _ {S : Type 0} (g : Ghosts S) (limits : Limits) (s : model.Registry) (f : Facts) (token : Option Text) (same : f.token ≡ token) (close : Bool) (old new : Tables S) (k0 k1 : Tail) (w0 w1 : Option Text) (r : Result (Unit {0}) StreamFault) where
  pub answered : (w : Wants) → IsFit (event_of (request_from limits token w)) → (a : Answer) → Answers g limits s (event_of (request_from limits token w)) a old new
      → Trails k0 k1 (told limits s (event_of (request_from limits token w)) a)
      → Streams (Answered w a) (answer_text (asked_from limits w) a close) w0 w1 r → Replies g limits f (to_wants w) close s old new k0 k1 w0 w1 r
  answered w fit a it tells sends = record {
    outcome = Answered w a;
    leads = refl;
    moves = (
      subst (λ t. IsFit (event_of (request_from limits t w))) (sym same) fit,
      subst (λ t. Answers g limits s (event_of (request_from limits t w)) a old new) (sym same) it,
      subst (λ t. Trails k0 k1 (told limits s (event_of (request_from limits t w)) a)) (sym same) tells,
    );
    sends = sends;
  }

  -- what was told as a reply, behind its line
  pub handled : ((asked : Asked) (a : Answer) (reply : Reply) (close : Bool) → Says asked a reply → reply_text reply close false ≡ answer_text asked a close)
      → (w : Wants) (reply : Reply) (found : Option (String Global))
      → IsFit (event_of (request_from limits token w)) ⊎ (((reply ≡ Denied rule.S1) × (found ≡ None)) × (new ≡ old))
      → (a : Answer) → Says (asked_from limits w) a reply → Answers g limits s (event_of (request_from limits token w)) a old new
      → HasLine (nat_lt 0 k0.left) limits s (event_of (request_from limits token w)) a found
      → Trails k0 k1 (or_nothing (option_map string_bytes found)) → (found ≡ None → k1 ≡ k0)
      → Sends (reply_text reply close false) w0 w1 r → Replies g limits f (to_wants w) close s old new k0 k1 w0 w1 r
  handled law w reply found (inl fit) a says it lined tells stays sends =
      answered w fit a it (trails_if k0 k1 (or_nothing (option_map string_bytes found)) (told limits s (event_of (request_from limits token w)) a) lined tells)
      (subst (λ t. Streams (Answered w a) t w0 w1 r) (law (asked_from limits w) a reply close says) (streams_of (Answered w a) (reply_text reply close false) w0 w1 r sends))
  handled law w reply found (inr ((denied, none), kept)) a says it lined tells stays sends = record {
    outcome = Unread w;
    leads = refl;
    moves = (kept, stays none);
    sends = subst (λ it. Streams (Unread w) (reply_text it close false) w0 w1 r) denied (streams_of (Unread w) (reply_text reply close false) w0 w1 r sends);
  }

-- an index file that was found, as it was sent
module _ {S : Type 0} (g : Ghosts S) (limits : Limits) (s : model.Registry) (f : Facts) (w : Wants) (file : FoundFile) (close : Bool) (old found new : Tables S) (k : Tail) (writes : ℕ) (before after : Sink)
    (finds : Finds g limits s (request_from limits f.token w).digest (asked_from limits w) file old found) where
  abbrev e : Event
  e = event_of (request_from limits f.token w)

  abbrev Told : Result ℕ IndexFault → Type 0
  Told r = StreamsTo g limits s (request_from limits f.token w).digest (asked_from limits w) close r writes old new before after

  abbrev IsSo : Result (Unit {0}) StreamFault → Type 0
  IsSo r = Replies g limits f (to_wants w) close s old new k k before.contents after.contents r

  so : (a : Answer) (r : Result (Unit {0}) StreamFault) → Answers g limits s e a old new → Streams (Answered w a) (answer_text (asked_from limits w) a close) before.contents after.contents r → IsSo r
  so a r it sends =
      let fit : IsFit e = subst (λ asked. IsFit (Ask (request_from limits f.token w).digest asked)) (sym finds.asks) tt in
      let untold : Trails k k (told limits s e a) = subst (Trails k k) (sym (file_told limits s (request_from limits f.token w).digest (asked_from limits w) finds.path finds.asks a)) (trails_nothing k) in
      answered g limits s f f.token refl close old new k k before.contents after.contents r w fit a it untold sends

  pub file_sent : (used : ℕ) → Told (Ok used) → IsSo (Ok tt)
  file_sent used (a, sends, it) = so a (Ok tt) it sends.sends.all

  pub file_failed : Told (Err Write) → IsSo (Err WriteFault)
  file_failed (a, sends, it) = so a (Err WriteFault) it sends.sends.front

  pub file_spent : Told (Err Spent) → IsSo (Err TooManyTurns)
  file_spent (a, sends, it) = so a (Err TooManyTurns) it sends.sends.front

  pub file_broken : before.calls < after.calls → Told (Err Store) → IsSo (Err StoreFault)
  file_broken begun (a, sends, it) =
      so a (Err StoreFault) it (
        file_is limits w finds.path a finds.asks (sends.of_file refl),
        record {
          front = sends.sends.front;
          rest = sends.sends.rest;
          whole = sends.sends.whole;
          some = sends.sends.sends.sent (omega (arith, sends.sends.sends.calls, begun));
          unsent = sends.sends.unsent (omega (arith, sends.sends.sends.calls, begun));
          appends = sends.sends.sends.all;
        },
      )

-- the request is routed, and replied as what is wanted of it
pub routed : {S T W : Type 0} {g : Ghosts S} {told_of : T → Option Text} {held : W → Option Text} {old new : Running S} {k0 k1 : TrailEnd T} {w0 w1 : CountedEnd W} {had left : ℕ} {r : Result (Unit {0}) StreamFault}
    (limits : Limits) (f : Facts) (there : Routing) (close : Bool) (request : ApiRequest) (routing : Result ApiRequest RouteFault) → routing ≡ Ok request → IsRouted f.token there routing
    → AnswersRequest g (IsRequestReplied g limits request close) told_of held old new k0 k1 w0 w1 had left r → AnswersRequest g (IsReplied g limits f there close) told_of held old new k0 k1 w0 w1 had left r
routed limits f there close request routing is leads it =
    let (token, same) = rw is at leads in
    record { replied = λ clean s shows. rw same (it.replied f (sym token) clean s shows); spends = it.spends; fewer = it.fewer; told = it.told; keeps = it.keeps }

-- the request is not routed
pub unrouted : {S : Type 0} (g : Ghosts S) (limits : Limits) (s : model.Registry) (f : Facts) (token : Option Text) (there : Routing) (close : Bool) (now : Tables S) (k : Tail) (w0 w1 : Option Text) (r : Result (Unit {0}) StreamFault)
    → (fault : RouteFault) → IsRouted token there (Err fault) → Sends (reply_text (fault_reply fault) close (is_head_only f)) w0 w1 r → Replies g limits f there close s now now k k w0 w1 r
unrouted g limits s f token there close now k w0 w1 r route.NoRoute is sends = record { outcome = NoRoute; leads = is; moves = (refl, refl); sends = streams_of NoRoute (refusal_text rule.H6 None close (is_head_only f)) w0 w1 r sends }
unrouted g limits s f token there close now k w0 w1 r (route.Method m) is sends = record { outcome = NoMethod m; leads = is; moves = (refl, refl); sends = streams_of (NoMethod m) (refusal_text rule.H7 (Some m) close (is_head_only f)) w0 w1 r sends }
unrouted g limits s f token there close now k w0 w1 r route.Memory is sends = record { outcome = NoRoom; leads = tt; moves = (refl, refl); sends = streams_of NoRoom (refusal_text rule.S1 None close (is_head_only f)) w0 w1 r sends }
