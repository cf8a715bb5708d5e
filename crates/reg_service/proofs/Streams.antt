-- From an index file that was found to the answer.
use Rattle.reg_service.proofs.Words.{◌≡◌, ◌⊎◌, ◌++◌, ◌∙◌, ℕ, Bool, inl, inr, refl, sym, ap, subst, List, Option, Result, Global}
use Rattle.reg_service.proofs.Words.{HasCleanDisk, Ghosts, Limits, Answer, Asked, Event, Ask, Registry, Text, Outcome, Step, Denied}
use Rattle.reg_service.proofs.Words.{FoundFile, Tables, AreOurs, IsLeft, shown, Answers, Halts, RepliesTo, Finds}
use Rattle.std.specs.Prelude.{Vec}
use Rattle.sqlite.specs.Order.{Row}
use Rattle.reg_body.specs.Sent.{Sink}
use Rattle.reg_model.specs.declared.rule.Rule.TheVariants as rule
use Rattle.reg_model.specs.Events.Answer.{Denied as to_denied, File}
use Rattle.reg_api_replies.specs.Texts.{answer_text, file_head}
use Rattle.reg_api_replies.specs.declared.head.Kind.TheVariants as kind
use Rattle.reg_api_replies.specs.declared.reply.Reply.TheVariants.{Done}
use Rattle.reg_service_index.specs.Files.{AreRows, IsFileText, SendsFile, SendsNoRoom, rows_text}
use Rattle.reg_service_index.specs.Lines.{lines_in}
use Rattle.reg_service_index.specs.Streams.{Streams}
use Rattle.reg_service_index.specs.declared.fault.IndexFault.{IndexFault}
use Rattle.reg_service.specs.Streamed.{StreamsTo}
use Rattle.reg_service.proofs.Frames as frame

module _ {S : Type 0} (g : Ghosts S) (limits : Limits) (s : Registry) (digest : Option Text) (asked : Asked) (f : FoundFile) (old at new : Tables S) (finds : Finds g limits s digest asked f old at) (again : AreOurs g at) (left : IsLeft g at new) (clean : HasCleanDisk (shown g new)) where
  abbrev pub e : Event
  e = Ask digest asked

  answered : (a : Answer) → Step limits s e a s → Answers g limits s e a old new
  answered a step = frame.stayed g limits s e a old new finds.goes_on step (frame.left_on g limits s e a at new again finds.stays.shows clean old finds.stays left)

  unavailable : Answers g limits s e (to_denied rule.S1) old new
  unavailable = answered (to_denied rule.S1) (inr (refl, refl))

  is_file : Answers g limits s e (File finds.text) old new
  is_file = answered (File finds.text) (inl (ap (λ (o : Outcome). o.0) (sym finds.answer), ap (λ (o : Outcome). o.1) (sym finds.answer)))

  lines_are : (rows : List Row) → AreRows g f at rows → lines_in rows ≡ finds.text
  lines_are rows are = finds.lines are.is_open rows are.are

  -- it was read, or there was no room
  pub file_told : (body : Vec ℕ Global) → IsFileText g f at body.items → RepliesTo g limits s digest asked (Done kind.Text body) old new
  file_told body (rows, are, same) = (File finds.text, (refl, refl, same ∙ lines_are rows are), is_file)

  pub no_room_told : RepliesTo g limits s digest asked (Denied rule.S1) old new
  no_room_told = (to_denied rule.S1, refl, unavailable)

  -- it was sent, or there was no room
  pub file_streamed : (close : Bool) (r : Result ℕ IndexFault) (writes : ℕ) (u v : Sink) → SendsNoRoom close r writes u v ⊎ SendsFile g f close r writes at u v → StreamsTo g limits s digest asked close r writes old new u v
  file_streamed close r writes u v (inl none) = (to_denied rule.S1, record { sends = none.sends; of_file = λ broken. absurd (none.never broken) }, unavailable)
  file_streamed close r writes u v (inr it) =
      let same = lines_are it.rows it.of_file in
      let text_is : rows_text (file_head f.length close) it.rows ≡ answer_text asked (File finds.text) close = λ i. file_head (finds.len i) close ++ same i in
      (File finds.text, record { sends = subst (λ t. Streams r t writes u v) text_is it.sends; of_file = λ broken. tt }, is_file)

-- whether it has stopped is told as before
pub halts_on : {R : Type 0} (old at new : Bool) → new ≡ at → Halts old at ⊥ → Halts old new R
halts_on old at new same h = record { stopped = λ was. absurd (h.stopped was); stays = λ was. absurd (h.stopped was); stops = λ stop. absurd (h.stops (sym same ∙ stop)) }
