-- A request on a stream and what it is replied (RFC 9112, section 9.3; RFC 9110, section 15).
use Rattle.std.specs.Prelude.{◌≡◌, ◌+◌, ◌==◌, ◌||◌, ℕ, Bool, false, List, [], ◌∷◌, length, drop, map, None, Some}
use Rattle.std.specs.List.{flat_map}
use Rattle.reg_body.specs.declared.limits.Limits.{Limits}
use Rattle.reg_http_read.specs.Heads.{Facts, IsHeadAt}
use Rattle.reg_model.specs.declared.rule.Rule.TheVariants as rule
use Rattle.reg_model.specs.Events.{Answer, Event}
use Rattle.reg_model.specs.Registry.{Text}
use Rattle.reg_api_replies.specs.declared.head.Methods.{Methods}
use Rattle.reg_api_requests.specs.Requests.{asked_from, request_from}
use Rattle.reg_api_requests.specs.Views.{event_of}
use Rattle.reg_api_requests.specs.Wants.{Wants}
use Rattle.reg_api_requests.specs.Wants.Wants.{Index}
use Rattle.reg_service.specs.Streamed.{IsFileAnswer}
use Rattle.reg_http_routes.specs.Routing.{Routing, routing_of}
use Rattle.reg_http_routes.specs.Routing.Routing.{NoRoute as to_no_route, NoMethod as to_no_method, Wants as to_wants}
use Rattle.reg_http_read.specs.Begun.{is_head_only}
use Rattle.reg_api_replies.specs.Texts.{answer_text, refusal_text}

-- what a request came to
pub data Outcome : Type 0 where
  -- what it wants, and the answer
  Answered : Wants → Answer → Outcome
  -- its path is no route, or that has other methods
  NoRoute : Outcome
  NoMethod : Methods → Outcome
  -- there was no room to route it, or to read what it wants
  NoRoom : Outcome
  Unread : Wants → Outcome

-- it is an index file, which was asked for
abbrev pub IsOfFile : Outcome → Type 0
IsOfFile (Answered (Index path) a) = IsFileAnswer a
IsOfFile _ = ⊥

-- a request, what its head tells, and what it came to
pub record Exchange : Type 0 where
  pub message : Text
  pub facts : Facts
  pub outcome : Outcome

-- what follows the head
abbrev pub body_in : Exchange → Text
body_in x = drop x.facts.len x.message

-- the route leads to this outcome
abbrev pub IsOutcome : Routing → Outcome → Type 0
IsOutcome routing (Answered w a) = routing ≡ to_wants w
IsOutcome routing NoRoute = routing ≡ to_no_route
IsOutcome routing (NoMethod m) = routing ≡ to_no_method m
IsOutcome routing NoRoom = Unit {0}
IsOutcome routing (Unread w) = routing ≡ to_wants w

-- the message is one request, its head and its whole body, and nothing else
pub record IsExchange (limits : Limits) (x : Exchange) : Type 0 where
  pub head : IsHeadAt limits x.message x.facts
  pub whole : length x.message ≡ x.facts.len + x.facts.body_len
  pub outcome : IsOutcome (routing_of x.facts (body_in x)) x.outcome

-- the event that a request is, with its answer, if it is one
abbrev pub event_in : Limits → Facts → Outcome → List (Event × Answer)
event_in limits f (Answered w a) = (event_of (request_from limits f.token w), a) ∷ []
event_in limits f _ = []

abbrev pub steps_in : Limits → List Exchange → List (Event × Answer)
steps_in limits xs = flat_map (λ x. event_in limits x.facts x.outcome) xs

abbrev pub events_in : Limits → List Exchange → List Event
events_in limits xs = map (λ p. p.0) (steps_in limits xs)

abbrev pub answers_in : Limits → List Exchange → List Answer
answers_in limits xs = map (λ p. p.1) (steps_in limits xs)

-- the reply, of which the last tells that the connection closes
abbrev pub outcome_text : Limits → Facts → Bool → Outcome → Text
outcome_text limits f close (Answered w a) = answer_text (asked_from limits w) a close
outcome_text limits f close NoRoute = refusal_text rule.H6 None close (is_head_only f)
outcome_text limits f close (NoMethod m) = refusal_text rule.H7 (Some m) close (is_head_only f)
outcome_text limits f close NoRoom = refusal_text rule.S1 None close (is_head_only f)
outcome_text limits f close (Unread w) = refusal_text rule.S1 None close false

abbrev pub reply_of : Limits → Bool → Exchange → Text
reply_of limits close x = outcome_text limits x.facts close x.outcome

-- whether the connection closes after the reply of this number
abbrev pub closes : Limits → Facts → ℕ → Bool
closes limits f number = f.close || number == limits.replies
