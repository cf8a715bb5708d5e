-- What a message came to, as the steps of a run.
use Rattle.std.proofs.Common.{◌≡◌, ◌∙◌, ℕ, List, [], ◌∷◌, inl, inr, refl, sym, ap, subst, Option, Some, Result, Ok, Err}
use Rattle.std.specs.Prelude.{true, if◌then◌else◌, option_and_then}
use Rattle.std.specs.Option.{option_map}
use Rattle.sqlite.specs.State.{HasCleanDisk}
use Rattle.sqlite_trees.specs.declared.store.Store.{Ghosts}
use Rattle.reg_body.specs.declared.limits.Limits.{Limits}
use Rattle.reg_model.specs.Events.{Answer, Command}
use Rattle.reg_model.specs.Events.Event.{Order}
use Rattle.reg_model.specs.Registry as model
use Rattle.reg_model.specs.Registry.{Text}
use Rattle.reg_policy.specs.Events.{reply_of}
use Rattle.reg_tables.specs.declared.tables.Tables.{Tables}
use Rattle.reg_tables.specs.Works.{shown}
use Rattle.reg_service.specs.Answered.{StandsIn}
use Rattle.reg_service.specs.Registries.{Running, limits_of, tables_of}
use Rattle.reg_http.specs.Trails.{Tail, TrailEnd, Trails, tail}
use Rattle.reg_http.proofs.Exchanged.{EventsGoOn}
use Rattle.reg_http.proofs.Kept.{still}
use Rattle.reg_http.proofs.Trails.{trailed_nothing, trails_nothing}
use Rattle.reg_cli_run.specs.declared.message.MessageReply.{MessageReply}
use Rattle.reg_cli_run.specs.declared.message.MessageReply.TheVariants.{Paused, Said}
use Rattle.reg_cli_run.specs.declared.ordering.OrderFault.{OrderFault}
use Rattle.reg_cli_run.specs.declared.ordering.OrderFault.TheVariants.{Memory, Refused, Unreadable}
use Rattle.reg_cli_run.specs.Messages.{AnswersMessage, IsAnswered, IsCut, IsHeard, IsMessage, IsReplied, IsUnargued, arguments_in, is_pause, message_order, paused_text, refused_text, reply_to, said, unreadable_text, wanted_by, wanted_in}
use Rattle.reg_cli_run.specs.Messages.Wanted.{Ordered, Pause}
use Rattle.reg_cli_run.specs.Setups.{Obeys}
use Rattle.reg_cli_run.specs.Steps.{RunsTold, Step}
use Rattle.reg_cli_run.proofs.Orders.{RunsBegin}

module _ {S : Type 0} (g : Ghosts S) (begins : RunsBegin g) (law : EventsGoOn g) (limits : Limits) (s : model.Registry) (old : Tables S) (h : StandsIn s (shown g old)) (k0 : Tail) where
  -- nothing was done
  nothing : {Says : List Step → Type 0} (new : Tables S) (k1 : Tail) → (new ≡ old) × (k1 ≡ k0) → Says [] → RunsTold g limits s old new k0 k1 Says
  nothing {Says} new k1 (same, kept) it =
      subst (λ t. RunsTold g limits s old t k0 k1 Says) (sym same) (subst (λ k. RunsTold g limits s old old k0 k Says) (sym kept)
      (record { steps = []; after = s; run = begins limits s old h; said = it; told = trails_nothing k0 }))

  -- a command was answered
  one : {Says : List Step → Type 0} (new : Tables S) (k1 : Tail) → HasCleanDisk (shown g new) → (ordered : Option Command) (a : Answer) → (o : Obeys g limits ordered a old new k0 k1) → Says ((Order o.command, a) ∷ []) → RunsTold g limits s old new k0 k1 Says
  one new k1 clean ordered a o it =
      let (answers, told) = o.answers clean s h in
      record {
        steps = (Order o.command, a) ∷ [];
        after = answers.after;
        run = law.run limits s old [] [] s (Order o.command) a old new o.fit (begins limits s old h) answers;
        said = it;
        told = subst (Trails k0 k1) (sym (law.one limits s (Order o.command) a)) told;
      }

  module _ (read : Text) (left : Option Text) (failed : ℕ) where
    -- a message was read, and answered
    pub heard : (new : Tables S) (k1 : Tail) → HasCleanDisk (shown g new) → IsMessage read left 0 failed → (result : Result MessageReply OrderFault) → IsAnswered g limits (wanted_in read) old new k0 k1 result
        → RunsTold g limits s old new k0 k1 (IsHeard read left failed (reply_to result))
    heard new k1 clean whole (Ok Paused) (wanted, same, kept) =
        nothing new k1 (same, kept) (inl (whole, subst (λ w. IsReplied w [] paused_text) (sym wanted) (refl, refl)))
    heard new k1 clean whole (Ok (Said reply)) (ordered, wanted, o) =
        one new k1 clean ordered (reply_of (Ok reply)) o
        (inl (whole, subst (λ w. IsReplied w ((Order o.command, reply_of (Ok reply)) ∷ []) (said reply)) (sym (wanted ∙ ap (option_map Ordered) o.is)) (Ok reply, refl, refl)))
    heard new k1 clean whole (Err (Refused r)) (ordered, wanted, o) =
        one new k1 clean ordered (reply_of (Err r)) o
        (inl (whole, subst (λ w. IsReplied w ((Order o.command, reply_of (Err r)) ∷ []) (refused_text r)) (sym (wanted ∙ ap (option_map Ordered) o.is)) (Err r, refl, refl)))
    heard new k1 clean whole (Err Unreadable) (none, same, kept) =
        nothing new k1 (same, kept) (inl (whole, subst (λ w. IsReplied w [] unreadable_text) (sym none) (refl, refl)))
    heard new k1 clean whole (Err Memory) same = nothing new k1 same (inr (inr (refl, refl)))

    -- it was not read whole
    pub unheard : (was : ℕ) → was ≡ 0 → (fault : OrderFault) → IsCut read was failed fault → RunsTold g limits s old old k0 k0 (IsHeard read left failed (reply_to (Err fault)))
    unheard was none (Refused r) not = absurd not
    unheard was none Unreadable cause = nothing old k0 (refl, refl) (inr (inl (subst (λ w. IsCut read w failed Unreadable) none cause, refl, refl)))
    unheard was none Memory u = nothing old k0 (refl, refl) (inr (inr (refl, refl)))

by_words : {S : Type 0} (g : Ghosts S) (limits : Limits) (bytes : Text) (t : Tables S) (k : Tail) (f : OrderFault) → IsUnargued (arguments_in bytes) f → IsAnswered g limits (wanted_in bytes) t t k k (Err f)
by_words g limits bytes t k (Refused r) not = absurd not
by_words g limits bytes t k Unreadable none = (ap (option_and_then wanted_by) none, refl, refl)
by_words g limits bytes t k Memory u = (refl, refl)

module _ {S T : Type 0} {g : Ghosts S} {told_of : T → Option Text} {bytes : Text} {r : Running S} {k : TrailEnd T} where
  -- the bytes alone are no message, or memory was refused
  pub unanswered : (f : OrderFault) → IsUnargued (arguments_in bytes) f → AnswersMessage g bytes told_of r r k k (Err f)
  unanswered f not = record { answered = by_words g (limits_of r) bytes (tables_of r) (tail (told_of k.end.inner) k) f not; told = trailed_nothing (tail (told_of k.end.inner) k); keeps = still }

  -- it asks that the server pauses
  pub paused : (words : List Text) → arguments_in bytes ≡ Some words → is_pause words ≡ true → AnswersMessage g bytes told_of r r k k (Ok Paused)
  paused words args is = record {
    answered = (ap (option_and_then wanted_by) args ∙ ap (λ b. if b then Some Pause else option_map Ordered (message_order words)) is, refl, refl);
    told = trailed_nothing (tail (told_of k.end.inner) k);
    keeps = still;
  }
