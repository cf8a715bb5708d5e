-- One more order behind those that were done.
use Rattle.std.proofs.Common.{◌≡◌, ◌≢◌, ◌<◌, ◌+◌, ◌++◌, ◌||◌, ℕ, false, List, [], ◌∷◌, inl, inr, refl, sym, ap, ap₂, ◌∙◌, subst, arith, append-nil, length, length-append, map, take, Option, Some, None, IsSomeAnd, Result, Ok, Err}
use Rattle.std.specs.Prelude.{nat_lt, string_bytes}
use Rattle.std.specs.List.{list_any}
use Rattle.std.specs.Option.{option_map}
use Rattle.std.proofs.Math.ListN.{get_or}
use Rattle.std.proofs.lemmas.List.{map-append, take_more}
use Rattle.std.proofs.lemmas.List.Folds.{list_any-append}
use Rattle.std.proofs.lemmas.Option.{slice_get-get_or}
use Rattle.sqlite.specs.State.{HasCleanDisk}
use Rattle.sqlite_trees.specs.declared.store.Store.{Ghosts}
use Rattle.reg_body.specs.declared.limits.Limits.{Limits}
use Rattle.reg_model.specs.Events.{Answer, Command}
use Rattle.reg_model.specs.Events.Answer.{Refused as to_refused}
use Rattle.reg_model.specs.Events.Event.{Order}
use Rattle.reg_model.specs.Registry as model
use Rattle.reg_model.specs.Registry.{Text}
use Rattle.reg_model.specs.Steps.{IsFit, unavailable}
use Rattle.reg_model.specs.Trail.{or_nothing, told as line_told, trail}
use Rattle.reg_tables.specs.declared.tables.Tables.{Tables}
use Rattle.reg_tables.specs.Works.{shown}
use Rattle.reg_service.specs.Traced.{IsOrdered}
use Rattle.reg_service.specs.Answered.{Answers, LeavesAlone, StandsIn}
use Rattle.reg_service.specs.Registries.{Running, limits_of, tables_of}
use Rattle.reg_service.specs.Sequences.{Ran}
use Rattle.reg_service_commands.specs.declared.told.TracedOrder.{TracedOrder}
use Rattle.reg_http.specs.Trails.{Tail, TrailEnd, Trails, tail}
use Rattle.reg_http.proofs.Exchanged.{EventsGoOn}
use Rattle.reg_http.proofs.Kept.{still}
use Rattle.reg_http.proofs.Trails.{trailed_nothing, trails_both, trails_if, trails_nothing}
use Rattle.reg_model.specs.declared.rule.AdminRefusal.{AdminRefusal}
use Rattle.reg_policy.specs.declared.event.AdminReply.{AdminReply}
use Rattle.reg_policy.specs.declared.event.AdminReply.TheVariants.{Done, Id, Text as Told}
use Rattle.reg_policy.specs.Events.{reply_of}
use Rattle.reg_cli_run.specs.declared.ordering.OrderFault.{OrderFault}
use Rattle.reg_cli_run.specs.declared.ordering.OrderFault.TheVariants.{Memory, Refused, Unreadable}
use Rattle.reg_cli_run.specs.LineOrders.{IsUnread, line_order}
use Rattle.reg_cli_run.specs.Setups.{HasDone, HasDoneAlone, HasDoneTold, IsDoneTold, IsObeyed, IsSetUpTraced, MakesOf, Obeys, ObeysOrder, is_refused}

abbrev pub RunsBegin : {S : Type 0} → Ghosts S → Type 0
RunsBegin g = (limits : Limits) (s : model.Registry) (t : Tables _) → StandsIn s (shown g t) → Ran g limits s t [] [] s t

-- what had no room is refused
not_refused : (c : Command) (a : Answer) → is_refused a ≡ false → a ≢ unavailable (Order c)
not_refused c a is same = absurd cc (sym is ∙ ap is_refused same)

reply_stands : (r : AdminReply) → is_refused (reply_of (Ok r)) ≡ false
reply_stands Done = refl
reply_stands (Id n) = refl
reply_stands (Told t) = refl

module _ {S : Type 0} (g : Ghosts S) (limits : Limits) (c : Command) (old new : Tables S) (k0 k1 : Tail) where
  -- a command that was answered is an order that was done or refused
  made : (reply : Result AdminReply AdminRefusal) (result : Result AdminReply OrderFault) → IsFit (Order c) → IsDoneTold g limits c (reply_of reply) old new k0 k1 → MakesOf reply result
      → IsObeyed g limits (Some c) old new k0 k1 result
  made (Ok r) result fit answers is =
      subst (IsObeyed g limits (Some c) old new k0 k1) (sym is) (record { command = c; is = refl; fit = fit; answers = answers })
  made (Err f) result fit answers is =
      subst (IsObeyed g limits (Some c) old new k0 k1) (sym is) (record { command = c; is = refl; fit = fit; answers = answers })

  -- and its line was told
  pub obeys : (it : TracedOrder) (result : Result AdminReply OrderFault) → IsFit (Order c) → IsOrdered g limits (nat_lt 0 k0.left) c it old new
      → Trails k0 k1 (or_nothing (option_map string_bytes it.line)) → MakesOf it.answer result → IsObeyed g limits (Some c) old new k0 k1 result
  obeys it result fit answers tells is =
      made it.answer result fit (λ clean s shows.
      (let (does, lined) = answers clean s shows in
      (does, trails_if k0 k1 (or_nothing (option_map string_bytes it.line)) (line_told limits s (Order c) (reply_of it.answer)) lined tells))) is

unread_obeyed : {S : Type 0} (g : Ghosts S) (limits : Limits) (ordered : Option Command) (t : Tables S) (k : Tail) (f : OrderFault) → IsUnread ordered f → IsObeyed g limits ordered t t k k (Err f)
unread_obeyed g limits ordered t k (Refused r) not = absurd not
unread_obeyed g limits ordered t k Unreadable none = (none, refl, refl)
unread_obeyed g limits ordered t k Memory u = (refl, refl)

module _ {S T : Type 0} {g : Ghosts S} {o : Option Command} {told_of : T → Option Text} where
  -- where the words alone failed, nothing was done
  pub unread : {r : Running S} {k : TrailEnd T} (f : OrderFault) → IsUnread o f → ObeysOrder g o told_of r r k k (Err f)
  unread {r} {k} f not = record {
    obeyed = unread_obeyed g (limits_of r) o (tables_of r) (tail (told_of k.end.inner) k) f not;
    told = trailed_nothing (tail (told_of k.end.inner) k);
    keeps = still;
  }

  -- this was the order
  pub ordered_as : {p : Option Command} {old new : Running S} {k0 k1 : TrailEnd T} {result : Result AdminReply OrderFault} → o ≡ p → ObeysOrder g p told_of old new k0 k1 result → ObeysOrder g o told_of old new k0 k1 result
  ordered_as {old = old} {new = new} {k0 = k0} {k1 = k1} {result = result} same it = subst (λ o. ObeysOrder g o told_of old new k0 k1 result) (sym same) it

module _ {S : Type 0} (g : Ghosts S) (limits : Limits) (s : model.Registry) (entry : Tables S) (lines : List Text) where
  pub begun : (k : Tail) → RunsBegin g → StandsIn s (shown g entry) → HasDoneTold g limits s entry lines entry k k 0
  begun k begins shows = (
    record {
      done = record { after = s; commands = []; told = []; ordered = refl; none_refused = refl; count_is = refl; ran = begins limits s entry shows };
      alone = λ lt. absurd (omega (arith, lt));
    },
    trails_nothing k,
  )

  module _ (law : EventsGoOn g) (count : ℕ) (old new : Tables S) (k0 k1 k2 : Tail) (so_far : HasDoneTold g limits s entry lines old k0 k1 count) (clean : HasCleanDisk (shown g new))
      (line : Text) (less : count < length lines) (at : get_or lines count line ≡ line) where
    abbrev h : HasDoneAlone g limits s entry lines old count
    h = so_far.0

    before : map line_order (take count lines) ≡ map Some h.done.commands
    before = subst (λ n. map line_order (take n lines) ≡ map Some h.done.commands) (ap length (append-nil h.done.told) ∙ h.done.count_is) h.done.ordered

    module _ (a : Answer) (o : Obeys g limits (line_order line) a old new k1 k2) where
      answers : Answers g limits h.done.after (Order o.command) a old new
      answers = (o.answers clean h.done.after h.done.ran.shows).0

      abbrev commands : List Command
      commands = h.done.commands ++ o.command ∷ []

      ran : Ran g limits s entry (map Order commands) (h.done.told ++ a ∷ []) answers.after new
      ran = subst (λ es. Ran g limits s entry es (h.done.told ++ a ∷ []) answers.after new) (sym (map-append Order h.done.commands (o.command ∷ [])))
          (subst (λ xs. Ran g limits s entry (map Order h.done.commands ++ Order o.command ∷ []) (xs ++ a ∷ []) answers.after new) (append-nil h.done.told)
          (law.run limits s entry (map Order h.done.commands) (h.done.told ++ []) h.done.after (Order o.command) a old new o.fit h.done.ran answers))

      leaves : Trails k0 k2 (trail limits s (map Order commands) (h.done.told ++ a ∷ []))
      leaves =
          let es = map Order h.done.commands in
          let xs = h.done.told ++ [] in
          let joined : trail limits s (es ++ Order o.command ∷ []) (xs ++ a ∷ []) ≡ trail limits s es xs ++ line_told limits h.done.after (Order o.command) a =
          law.join limits s h.done.after es (Order o.command ∷ []) xs (a ∷ []) h.done.ran.run ∙ ap (λ l. trail limits s es xs ++ l) (law.one limits h.done.after (Order o.command) a) in
          subst (λ es. Trails k0 k2 (trail limits s es (h.done.told ++ a ∷ []))) (sym (map-append Order h.done.commands (o.command ∷ [])))
          (subst (λ xs. Trails k0 k2 (trail limits s (map Order h.done.commands ++ Order o.command ∷ []) (xs ++ a ∷ []))) (append-nil h.done.told)
          (subst (Trails k0 k2) (sym joined)
          (trails_both k0 k1 k2 (trail limits s es xs) (line_told limits h.done.after (Order o.command) a) so_far.1 (o.answers clean h.done.after h.done.ran.shows).1)))

      ordered : (n : ℕ) → n ≡ count + 1 → map line_order (take n lines) ≡ map Some commands
      ordered n is = ap (λ m. map line_order (take m lines)) is ∙ ap (map line_order) (take_more lines count line less)
          ∙ map-append line_order (take count lines) (get_or lines count line ∷ [])
          ∙ ap₂ (λ xs x. xs ++ x ∷ []) before (ap line_order at ∙ o.is)
          ∙ sym (map-append Some h.done.commands (o.command ∷ []))

      told_is : length (h.done.told ++ a ∷ []) ≡ count + 1
      told_is = length-append h.done.told (a ∷ []) ∙ ap (λ n. n + 1) h.done.count_is

      alone : is_refused a ≡ false → LeavesAlone answers.after (shown g new)
      alone is = elim answers.kept [ inl none ↦ absurd (not_refused o.command a is none) | inr it ↦ it ]

      -- it was done
      pub next : is_refused a ≡ false → HasDoneTold g limits s entry lines new k0 k2 (count + 1)
      next is = (
        record {
          done = record {
            after = answers.after;
            commands = commands;
            told = h.done.told ++ a ∷ [];
            ordered = ordered (length ((h.done.told ++ a ∷ []) ++ [])) (ap length (append-nil (h.done.told ++ a ∷ [])) ∙ told_is);
            none_refused = list_any-append is_refused h.done.told (a ∷ []) ∙ ap (λ b. b || list_any is_refused (a ∷ [])) h.done.none_refused ∙ ap (λ b. b || false) is;
            count_is = told_is;
            ran = subst (λ xs. Ran g limits s entry (map Order commands) xs answers.after new) (sym (append-nil (h.done.told ++ a ∷ []))) ran;
          };
          alone = λ some. alone is;
        },
        subst (λ xs. Trails k0 k2 (trail limits s (map Order commands) xs)) (sym (append-nil (h.done.told ++ a ∷ []))) leaves,
      )

      -- it was the last
      abbrev last : HasDone g limits s entry lines new count (a ∷ [])
      last = record {
        after = answers.after;
        commands = commands;
        told = h.done.told;
        ordered = ordered (length (h.done.told ++ a ∷ [])) told_is;
        none_refused = h.done.none_refused;
        count_is = h.done.count_is;
        ran = ran;
      }

    stays : (new ≡ old) × (k2 ≡ k1) → HasDoneTold g limits s entry lines new k0 k2 count
    stays (same, kept) = subst (λ k. HasDoneTold g limits s entry lines new k0 k count) (sym kept) (subst (λ t. HasDoneTold g limits s entry lines t k0 k1 count) (sym same) so_far)

    was_done : (r : AdminReply) → IsObeyed g limits (line_order line) old new k1 k2 (Ok r) → HasDoneTold g limits s entry lines new k0 k2 (count + 1)
    was_done r o = next (reply_of (Ok r)) o (reply_stands r)

    was_not_done : (f : OrderFault) → IsObeyed g limits (line_order line) old new k1 k2 (Err f) → IsSetUpTraced g limits s entry lines new k0 k2 (Err f)
    was_not_done (Refused r) o = ((count, less, last (to_refused r) o), leaves (to_refused r) o)
    was_not_done Unreadable (none, same, kept) =
        let it = stays (same, kept) in
        ((count, subst (λ l. IsSomeAnd l (λ text. line_order text ≡ None)) (sym (slice_get-get_or lines count line less ∙ ap Some at)) none, it.0), it.1)
    was_not_done Memory same = let it = stays same in ((count, omega (arith, less), it.0), it.1)

    module _ (was : Limits) (same : was ≡ limits) where
      -- a line was done
      pub obeyed : (r : AdminReply) → IsObeyed g was (line_order line) old new k1 k2 (Ok r) → HasDoneTold g limits s entry lines new k0 k2 (count + 1)
      obeyed r it = was_done r (subst (λ l. IsObeyed g l (line_order line) old new k1 k2 (Ok r)) same it)

      -- a line was not done
      pub failed : (f : OrderFault) → IsObeyed g was (line_order line) old new k1 k2 (Err f) → IsSetUpTraced g limits s entry lines new k0 k2 (Err f)
      failed f it = was_not_done f (subst (λ l. IsObeyed g l (line_order line) old new k1 k2 (Err f)) same it)
