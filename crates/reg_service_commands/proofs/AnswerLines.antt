-- The line of a command, from its answer.
use Rattle.reg_service_commands.proofs.Words.{◌≡◌, false, cond, List, [], Option, Some, None, Result, Ok, Err, refl, sym, ap, ◌∙◌, String}
use Rattle.reg_service_commands.proofs.Words.{string_bytes, Global, option_map, Limits, AdminRefusal, replied, Command, UserAdd}
use Rattle.reg_service_commands.proofs.Words.{UserDisable, UserEnable, TokenAdd, TokenRevoke, Reserve, Unreserve, OwnerAdd, Access, Users}
use Rattle.reg_service_commands.proofs.Words.{Tokens, Crates, CrateRestrict, CrateOpen, ReaderAdd, ReaderRemove, Order, AdminReply}
use Rattle.reg_service_commands.proofs.Words.{reply_of, Registry, Text, outcome, unless_refused, command_words, line_of, unless_some}
use Rattle.std.proofs.Common.{◌⊎◌, inl, inr}
use Rattle.reg_model.specs.declared.rule.AdminRefusal.TheVariants as refusal
use Rattle.reg_model.specs.Effects.{commanded}
use Rattle.reg_model.specs.Events.{Event}
use Rattle.reg_model.specs.Events.Answer.{Refused as to_refused}
use Rattle.reg_model.specs.Refusals.{refused}
use Rattle.reg_model.specs.Steps.{unavailable}
use Rattle.reg_model.specs.Trail.{IsPassed, has_no_room, line, or_nothing, told, with_asker}
use Rattle.reg_service_commands.specs.Telling.{line_of_answer}
use Rattle.reg_service_steps.proofs.Afterwards.{nothing}

replied_room : (s : Registry) (c : Command) (g : AdminRefusal) → replied s c ≡ to_refused g → ⊥
replied_room s (UserAdd login name) g e = cc
replied_room s (UserDisable login) g e = cc
replied_room s (UserEnable login) g e = cc
replied_room s (TokenAdd login words patterns digest) g e = cc
replied_room s (TokenRevoke id) g e = cc
replied_room s (Reserve n) g e = cc
replied_room s (Unreserve n) g e = cc
replied_room s (OwnerAdd n login) g e = cc
replied_room s (Access n) g e = cc
replied_room s Users g e = cc
replied_room s Tokens g e = cc
replied_room s Crates g e = cc
replied_room s (CrateRestrict n) g e = cc
replied_room s (CrateOpen n) g e = cc
replied_room s (ReaderAdd n login) g e = cc
replied_room s (ReaderRemove n login) g e = cc

reply_room : (r : AdminReply) → has_no_room (reply_of (Ok r)) ≡ false
reply_room AdminReply.Done = refl
reply_room (AdminReply.Id n) = refl
reply_room (AdminReply.Text t) = refl

reply_not : (r : AdminReply) (g : AdminRefusal) → reply_of (Ok r) ≡ to_refused g → ⊥
reply_not AdminReply.Done g e = cc
reply_not (AdminReply.Id n) g e = cc
reply_not (AdminReply.Text t) g e = cc

module _ (limits : Limits) (s : Registry) (c : Command) where
  abbrev o : Event
  o = Order c

  abbrev in_order : List Text → Text
  in_order words = line_of (with_asker s o words)

  pub refused_untold : (g : AdminRefusal) → to_refused g ≡ (outcome limits s o).0 → line limits s o ≡ None
  unfolding line
  refused_untold g e = by (refused limits s c) refl
    where
      by : (r : Option AdminRefusal) → refused limits s c ≡ r → option_map in_order (unless_some (refused limits s c) (command_words s c)) ≡ None
      by (Some q) d = ap (λ r. option_map in_order (unless_some r (command_words s c))) d
      by None d = absurd (replied_room s c g (sym (e ∙ ap (λ r. (unless_refused s r (replied s c, commanded s c)).0) d)))

  -- a refusal has no line
  pub refusal_told : (g : AdminRefusal) → (to_refused g ≡ (outcome limits s o).0) ⊎ (to_refused g ≡ unavailable o) → [] ≡ told limits s o (to_refused g)
  refusal_told g (inl is) = sym (nothing (has_no_room (to_refused g)) (or_nothing (line limits s o)) (ap or_nothing (refused_untold g is)))
  refusal_told g (inr room) = sym (ap (told limits s o) room)

  -- what is told of the event that a command's answer answers
  pub answer_told : (answer : Result AdminReply AdminRefusal) (found : Option (String Global)) → (reply_of answer ≡ (outcome limits s o).0) ⊎ (reply_of answer ≡ unavailable o) → (IsPassed limits s o → line limits s o ≡ option_map string_bytes found) → or_nothing (line_of_answer answer found) ≡ told limits s o (reply_of answer)
  answer_told (Err g) found step tells = refusal_told g step
  answer_told (Ok r) found (inr room) tells = absurd (reply_not r refusal.G10 room)
  answer_told (Ok r) found (inl is) tells = by (refused limits s c) refl
    where
      by : (x : Option AdminRefusal) → refused limits s c ≡ x → or_nothing (option_map string_bytes found) ≡ told limits s o (reply_of (Ok r))
      by (Some q) d = absurd (reply_not r q (is ∙ ap (λ r. (unless_refused s r (replied s c, commanded s c)).0) d))
      by None d = sym (ap (λ b. cond b [] (or_nothing (line limits s o))) (reply_room r) ∙ ap or_nothing (tells d))
