-- The line of a request, from its reply.
use Rattle.reg_service_requests.proofs.Words.{◌≡◌, ℕ, true, false, cond, [], Option, Some, None, refl, sym, ap, ◌∙◌, String, string_bytes}
use Rattle.reg_service_requests.proofs.Words.{unwrap_or, Global, option_map, Limits, Rule, caller, served, Asked, Malformed, Read, Index}
use Rattle.reg_service_requests.proofs.Words.{Download, ListOwners, Publish, Yank, Unyank, AddOwners, RemoveOwners, Config, Search, Ask}
use Rattle.reg_service_requests.proofs.Words.{Registry, Text, outcome, unless_denied, Says, Reply, Denied, line_of, request_words}
use Rattle.reg_service_requests.proofs.Words.{unless_some, Trees, TellsLine}
use Rattle.std.proofs.Common.{◌⊎◌, inl, inr}
use Rattle.reg_model.specs.declared.rule.Rule.TheVariants as rule
use Rattle.reg_model.specs.Effects.{done}
use Rattle.reg_model.specs.Events.{Answer, Event}
use Rattle.reg_model.specs.Events.Answer.{Denied as to_denied}
use Rattle.reg_model.specs.Refusals.{denied}
use Rattle.reg_model.specs.Steps.{unavailable}
use Rattle.reg_api_replies.specs.Heads.{refusal_of}
use Rattle.reg_api_replies.specs.declared.reply.Reply.TheVariants.{Done, Method}
use Rattle.reg_model.specs.Trail.{IsPassed, has_no_room, line, or_nothing, told, with_asker}
use Rattle.reg_service_steps.proofs.Afterwards.{nothing}
use Rattle.reg_service_requests.specs.Telling.{line_with}

-- an answer that denies nothing had room
has_room : (a : Answer) → refusal_of a ≡ None → (r : Rule) → a ≡ to_denied r → ⊥
has_room a h r e = let k : ◌≡◌ {A = Option Rule} (Some r) None = ap refusal_of (sym e) ∙ h in cc

-- what is served denies nothing, but for what is faulty
served_untold : (s : Registry) (who : Option ℕ) (asked : Asked) (r : Rule) → served s who asked ≡ to_denied r → request_words s asked ≡ None
served_untold s who (Malformed q) r e = refl
served_untold s who (Read what) r e = refl
served_untold s who (Index p) r e = refl
served_untold s who (Download n v) r e = refl
served_untold s who (ListOwners n) r e = refl
served_untold s who (Publish p) r e = absurd cc
served_untold s who (Yank n v) r e = absurd cc
served_untold s who (Unyank n v) r e = absurd cc
served_untold s who (AddOwners n logins) r e = absurd cc
served_untold s who (RemoveOwners n logins) r e = absurd cc

-- a request that is answered by a denial has no line
denied_untold : (limits : Limits) (s : Registry) (digest : Option Text) (asked : Asked) (r : Rule) → to_denied r ≡ (outcome limits s (Ask digest asked)).0 → line limits s (Ask digest asked) ≡ None
unfolding line
denied_untold limits s digest asked r e = by (denied limits s digest asked) refl
  where
    by : (o : Option Rule) → denied limits s digest asked ≡ o → option_map (λ words. line_of (with_asker s (Ask digest asked) words)) (unless_some (denied limits s digest asked) (request_words s asked)) ≡ None
    by (Some q) d = ap (λ o. option_map (λ words. line_of (with_asker s (Ask digest asked) words)) (unless_some o (request_words s asked))) d
    by None d =
        let is : served s (caller s digest) asked ≡ to_denied r = sym (e ∙ ap (λ o. (unless_denied s o (served s (caller s digest) asked, done s (unwrap_or (caller s digest) 0) asked)).0) d) in
        ap (λ o. option_map (λ words. line_of (with_asker s (Ask digest asked) words)) (unless_some o (request_words s asked))) d ∙ ap (option_map (λ words. line_of (with_asker s (Ask digest asked) words))) (served_untold s (caller s digest) asked r is)

served_room : (s : Registry) (who : Option ℕ) (asked : Asked) → refusal_of (served s who asked) ≡ None → has_no_room (served s who asked) ≡ false
served_room s who (Malformed q) e = absurd cc
served_room s who (Read Config) e = refl
served_room s who (Read (Search q most)) e = refl
served_room s who (Index p) e = refl
served_room s who (Download n v) e = refl
served_room s who (ListOwners n) e = refl
served_room s who (Publish p) e = refl
served_room s who (Yank n v) e = refl
served_room s who (Unyank n v) e = refl
served_room s who (AddOwners n logins) e = refl
served_room s who (RemoveOwners n logins) e = refl

module _ (limits : Limits) (s : Registry) (digest : Option Text) (asked : Asked) (a : Answer) where
  abbrev e : Event
  e = Ask digest asked

  no_line : line limits s e ≡ None → [] ≡ told limits s e a
  no_line none = sym (nothing (has_no_room a) (or_nothing (line limits s e)) (ap or_nothing none))

  -- a request that is not denied has the line that is told of what passes
  done_told : (found : Option (String Global)) → refusal_of a ≡ None → a ≡ (outcome limits s e).0 → (IsPassed limits s e → line limits s e ≡ option_map string_bytes found) → or_nothing (option_map string_bytes found) ≡ told limits s e a
  done_told found none is tells = by (denied limits s digest asked) refl
    where
      by : (o : Option Rule) → denied limits s digest asked ≡ o → or_nothing (option_map string_bytes found) ≡ told limits s e a
      by (Some q) d = absurd (has_room a none q (is ∙ ap (λ o. (unless_denied s o (served s (caller s digest) asked, done s (unwrap_or (caller s digest) 0) asked)).0) d))
      by None d =
          let it : a ≡ served s (caller s digest) asked = is ∙ ap (λ o. (unless_denied s o (served s (caller s digest) asked, done s (unwrap_or (caller s digest) 0) asked)).0) d in
          let room : has_no_room a ≡ false = ap has_no_room it ∙ served_room s (caller s digest) asked (ap refusal_of (sym it) ∙ none) in
          sym (ap (λ b. cond b [] (or_nothing (line limits s e))) room ∙ ap or_nothing (tells d))

  -- what is told of the event that a reply answers
  pub reply_told : (reply : Reply) (found : Option (String Global)) → Says asked a reply → (a ≡ (outcome limits s e).0) ⊎ (a ≡ unavailable e) → (IsPassed limits s e → line limits s e ≡ option_map string_bytes found) → or_nothing (line_with reply found) ≡ told limits s e a
  reply_told (Done kind body) found says (inl is) tells = done_told found says.0 is tells
  reply_told (Done kind body) found says (inr room) tells = absurd (has_room a says.0 rule.S1 room)
  reply_told (Denied r) found says (inl is) tells = no_line (denied_untold limits s digest asked r (sym says ∙ is))
  reply_told (Denied r) found says (inr room) tells = sym (ap (told limits s e) room)
  reply_told (Method m) found says step tells = absurd says

-- without a token there is no line
nobody : (limits : Limits) (s : Registry) (asked : Asked) → denied limits s None asked ≡ None → ⊥
unfolding denied
nobody limits s asked ok = absurd cc

pub nobody_told : (limits : Limits) (asked : Asked) (db : Trees) → TellsLine limits (Ask None asked) db None
nobody_told limits asked db = λ ids s h ok. absurd (nobody limits s asked ok)
