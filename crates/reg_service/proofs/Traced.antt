-- The lines of requests and commands that were answered.
use Rattle.reg_service.proofs.Words.{◌≡◌, ◌⊎◌, inl, inr, true, false, Bool, Option, None, Err, sym, ap, subst, ◌∙◌, string_bytes, Global}
use Rattle.reg_service.proofs.Words.{option_map, Trees, Ghosts, Limits, AdminRefusal, Answer, Asked, Event, Ask, Order, Registry, Text}
use Rattle.reg_service.proofs.Words.{Step, unavailable, outcome, reply_of, Reply, Denied, Tables, ActsTo, Answers, StandsSound, RepliesTo, line_with}
use Rattle.reg_service.proofs.Words.{line_of_answer, TracedReply}
use Rattle.std.specs.Prelude.{String}
use Rattle.reg_model.specs.declared.rule.Rule.TheVariants as rule
use Rattle.reg_model.specs.Events.{Command}
use Rattle.reg_model.specs.Events.Answer.{Refused as to_refused}
use Rattle.reg_model.specs.Trail.{IsPassed, line, or_nothing, told}
use Rattle.reg_api_replies.specs.Replies.{Says}
use Rattle.reg_service.specs.Traced.{Orders}
use Rattle.reg_service_steps.specs.Telling.{TellsIf}
use Rattle.reg_service_commands.specs.declared.told.TracedOrder.{TracedOrder}
use Rattle.reg_service_commands.proofs.AnswerLines.{answer_told, refusal_told}
use Rattle.reg_service_requests.proofs.ReplyLines.{reply_told}

-- the line that was told, if one was wanted
pub tells_line : (limits : Limits) (s : Registry) (e : Event) (traced : Bool) (db : Trees) (found : Option (String Global)) → TellsIf traced limits e db found → StandsSound s db → traced ≡ true → IsPassed limits s e → line limits s e ≡ option_map string_bytes found
tells_line limits s e true db found tells are t = tells are.0 s are.1
tells_line limits s e false db found tells are t = absurd cc

step_of : (limits : Limits) (s : Registry) (e : Event) (a : Answer) (t : Registry) → Step limits s e a t → (a ≡ (outcome limits s e).0) ⊎ (a ≡ unavailable e)
step_of limits s e a t (inl is) = inl is.0
step_of limits s e a t (inr room) = inr room.0

module _ {S : Type 0} (g : Ghosts S) (limits : Limits) (s : Registry) (traced : Bool) (digest : Option Text) (asked : Asked) (old new : Tables S) where
  abbrev e : Event
  e = Ask digest asked

  -- a reply with the line that was told
  pub acts : (reply : Reply) (it : TracedReply) (found : Option (String Global)) → RepliesTo g limits s digest asked reply old new → it.reply ≡ reply → option_map string_bytes it.line ≡ line_with reply found → (traced ≡ true → IsPassed limits s e → line limits s e ≡ option_map string_bytes found)
      → ActsTo g limits s traced digest asked it old new
  acts reply it found replies same line_is tells =
      let a = replies.0 in
      let answers = replies.2 in (
        a,
        subst (Says asked a) (sym same) replies.1,
        answers,
        λ t. ap or_nothing line_is ∙ reply_told limits s digest asked a reply found replies.1 (step_of limits s e a answers.after answers.step) (tells t),
      )

  -- there was no room, and there is no line
  pub untold : (it : TracedReply) → RepliesTo g limits s digest asked (Denied rule.S1) old new → it.reply ≡ Denied rule.S1 → it.line ≡ None → ActsTo g limits s traced digest asked it old new
  untold it replies same none =
      let a = replies.0 in (
        a,
        subst (Says asked a) (sym same) replies.1,
        replies.2,
        λ t. ap (λ o. or_nothing (option_map string_bytes o)) none ∙ sym (ap (told limits s e) replies.1),
      )

  -- without its line
  pub replied : (it : TracedReply) → ActsTo g limits s traced digest asked it old new → RepliesTo g limits s digest asked it.reply old new
  replied it acts = (acts.0, acts.1, acts.2)

module _ {S : Type 0} (g : Ghosts S) (limits : Limits) (s : Registry) (traced : Bool) (c : Command) (old new : Tables S) where
  abbrev o : Event
  o = Order c

  -- an answer with the line that was told
  pub orders : (it : TracedOrder) → Answers g limits s o (reply_of it.answer) old new → option_map string_bytes it.line ≡ line_of_answer it.answer it.line → (traced ≡ true → IsPassed limits s o → line limits s o ≡ option_map string_bytes it.line)
      → Orders g limits s traced c it old new
  orders it answers line_is tells = (
    answers,
    λ t. ap or_nothing line_is ∙ answer_told limits s c it.answer it.line (step_of limits s o (reply_of it.answer) answers.after answers.step) (tells t),
  )

  -- a refusal has no line
  pub unordered : (r : AdminRefusal) (it : TracedOrder) → Answers g limits s o (to_refused r) old new → it.answer ≡ Err r → it.line ≡ None → Orders g limits s traced c it old new
  unordered r it answers same none =
      let is = ap reply_of same in (
        subst (λ a. Answers g limits s o a old new) (sym is) answers,
        λ t. ap (λ l. or_nothing (option_map string_bytes l)) none ∙ refusal_told limits s c r (step_of limits s o (to_refused r) answers.after answers.step) ∙ ap (told limits s o) (sym is),
      )
