-- One more exchange behind those that were done.
use Rattle.reg_http.proofs.Words.{◌≡◌, ◌+◌, ◌++◌, ◌==◌, ℕ, false, List, [], ◌∷◌, refl, sym, ap, ◌∙◌, subst, arith, append_assoc, append-nil}
use Rattle.reg_http.proofs.Words.{Ghosts, Limits, Answer, Event, Text, IsFit, Answers, Ran, Tables, request_from, event_of, Exchange}
use Rattle.reg_http.proofs.Words.{Outcome, answers_in, events_in, Answered, NoMethod, NoRoom, NoRoute, Unread, HaveExchanged, HasRun, IsOpen, told}
use Rattle.reg_http.proofs.Words.{trail_in, Tail, Trails}
use Rattle.std.proofs.Common.{◌≢◌, length-append, map}
use Rattle.std.proofs.lemmas.Bool.{eqb-false}
use Rattle.std.proofs.lemmas.Grind.{flat_map-append}
use Rattle.std.proofs.lemmas.List.{map-append}
use Rattle.std.proofs.lemmas.List.Elements.{All-push}
use Rattle.reg_model.specs.Registry as model
use Rattle.reg_model.specs.Trail.{told as line_told, trail}
use Rattle.reg_model.specs.TrailLaws.{TrailOfOne, TrailsJoin}
use Rattle.reg_http.specs.Answering.{Moves}
use Rattle.reg_http.specs.Exchanges.{event_in, steps_in}
use Rattle.reg_http.specs.Streams.{asked, replied}
use Rattle.reg_http.proofs.Trails.{trails_both}

not_last : (m n : ℕ) → (m == n) ≡ false → m ≢ n
not_last m n differ = eqb-false m n differ

asked-push : (xs : List Exchange) (x : Exchange) → asked (xs ++ x ∷ []) ≡ asked xs ++ x.message
asked-push xs x = flat_map-append _ xs (x ∷ []) ∙ ap (λ l. asked xs ++ l) (append-nil x.message)

replied-push : (limits : Limits) (xs : List Exchange) (x : Exchange) → replied limits (xs ++ x ∷ []) ≡ replied limits xs ++ told limits false x
replied-push limits xs x = flat_map-append _ xs (x ∷ []) ∙ ap (λ l. replied limits xs ++ l) (append-nil (told limits false x))

steps-push : (limits : Limits) (xs : List Exchange) (x : Exchange) → steps_in limits (xs ++ x ∷ []) ≡ steps_in limits xs ++ event_in limits x.facts x.outcome
steps-push limits xs x = flat_map-append _ xs (x ∷ []) ∙ ap (λ l. steps_in limits xs ++ l) (append-nil (event_in limits x.facts x.outcome))

module _ (limits : Limits) (done : List Exchange) (read written rest : Text) (count : ℕ) (goes : HaveExchanged limits done read written rest count) where
  -- more was read
  pub goes_read : (bytes : Text) → HaveExchanged limits done (read ++ bytes) written (rest ++ bytes) count
  goes_read bytes = record {
    reads = ap (λ l. l ++ bytes) goes.reads ∙ append_assoc (asked done) rest bytes;
    wrote = goes.wrote;
    count_is = goes.count_is;
    each = goes.each;
    before_last = goes.before_last;
  }

  -- the same of an equal rest
  pub goes_front : (front : Text) → rest ≡ front → HaveExchanged limits done read written front count
  goes_front front same = subst (λ l. HaveExchanged limits done read written l count) same goes

  -- one more exchange, which is not the last
  pub goes_push : (x : Exchange) (later : Text) → IsOpen limits x → rest ≡ x.message ++ later → (count + 1 == limits.replies) ≡ false
      → HaveExchanged limits (done ++ x ∷ []) read (written ++ told limits false x) later (count + 1)
  goes_push x later is_open front more = record {
    reads = goes.reads ∙ ap (λ l. asked done ++ l) front ∙ sym (append_assoc (asked done) x.message later) ∙ ap (λ l. l ++ later) (sym (asked-push done x));
    wrote = ap (λ l. l ++ told limits false x) goes.wrote ∙ sym (replied-push limits done x);
    count_is = omega (arith, goes.count_is, length-append done (x ∷ []));
    each = All-push (IsOpen limits) done x goes.each is_open;
    before_last = λ le. goes.before_last (omega (arith, le, not_last (count + 1) limits.replies more));
  }

-- one more event behind a run, and its line behind the trail
pub record EventsGoOn {S : Type 0} (g : Ghosts S) : Type 0 where
  pub run : (limits : Limits) (s : model.Registry) (entry : Tables S) (es : List Event) (xs : List Answer) (t : model.Registry) (e : Event) (a : Answer) (old new : Tables S)
      → IsFit e → Ran g limits s entry es xs t old → (it : Answers g limits t e a old new) → Ran g limits s entry (es ++ e ∷ []) (xs ++ a ∷ []) it.after new
  pub one : TrailOfOne
  pub join : TrailsJoin

module _ {S : Type 0} (g : Ghosts S) (limits : Limits) (s : model.Registry) (entry : Tables S) (law : EventsGoOn g) (done : List Exchange) (x : Exchange) (old new : Tables S) (k0 k1 k2 : Tail) where
  abbrev steps : List (Event × Answer)
  steps = steps_in limits done

  -- the run and the trail go on by the exchange
  abbrev HaveGoneOn : Type 0
  HaveGoneOn = HasRun g limits s entry new (done ++ x ∷ []) × Trails k0 k2 (trail_in limits s (done ++ x ∷ []))

  pushed : (t : model.Registry) (more : List (Event × Answer)) → event_in limits x.facts x.outcome ≡ more
      → Ran g limits s entry (map (λ p. p.0) steps ++ map (λ p. p.0) more) (map (λ p. p.1) steps ++ map (λ p. p.1) more) t new
      → Trails k0 k2 (trail limits s (map (λ p. p.0) steps ++ map (λ p. p.0) more) (map (λ p. p.1) steps ++ map (λ p. p.1) more))
      → HaveGoneOn
  pushed t more is ran tells =
      let same : steps_in limits (done ++ x ∷ []) ≡ steps ++ more = steps-push limits done x ∙ ap (λ l. steps ++ l) is in
      let first = ap (λ l. map (λ p. p.0) l) same ∙ map-append (λ p. p.0) steps more in
      let second = ap (λ l. map (λ p. p.1) l) same ∙ map-append (λ p. p.1) steps more in (
        (t, subst (λ es. Ran g limits s entry es (answers_in limits (done ++ x ∷ [])) t new) (sym first) (subst (λ xs. Ran g limits s entry (map (λ p. p.0) steps ++ map (λ p. p.0) more) xs t new) (sym second) ran)),
        subst (λ es. Trails k0 k2 (trail limits s es (answers_in limits (done ++ x ∷ [])))) (sym first) (subst (λ xs. Trails k0 k2 (trail limits s (map (λ p. p.0) steps ++ map (λ p. p.0) more) xs)) (sym second) tells),
      )

  module _ (t : model.Registry) (ran : Ran g limits s entry (events_in limits done) (answers_in limits done) t old) (tells : Trails k0 k1 (trail_in limits s done)) where
    stays : (new ≡ old) × (k2 ≡ k1) → event_in limits x.facts x.outcome ≡ [] → HaveGoneOn
    stays (same, kept) is =
        let es = sym (append-nil (events_in limits done)) in
        let xs = sym (append-nil (answers_in limits done)) in
        pushed t [] is
        (subst (λ l. Ran g limits s entry (events_in limits done ++ []) l t new) xs (subst (λ l. Ran g limits s entry l (answers_in limits done) t new) es (subst (λ it. Ran g limits s entry (events_in limits done) (answers_in limits done) t it) (sym same) ran)))
        (subst (λ l. Trails k0 k2 (trail limits s (events_in limits done ++ []) l)) xs (subst (λ l. Trails k0 k2 (trail limits s l (answers_in limits done))) es (subst (λ k. Trails k0 k (trail limits s (events_in limits done) (answers_in limits done))) (sym kept) tells)))

    run_by : (o : Outcome) → x.outcome ≡ o → Moves g limits t x.facts o old new k1 k2 → HaveGoneOn
    run_by (Answered w a) is (fit, it, more) =
        let e = event_of (request_from limits x.facts.token w) in
        let es = events_in limits done in
        let xs = answers_in limits done in
        pushed it.after ((e, a) ∷ []) (ap (event_in limits x.facts) is) (law.run limits s entry es xs t e a old new fit ran it)
        (subst (Trails k0 k2) (sym (law.join limits s t es (e ∷ []) xs (a ∷ []) ran.run ∙ ap (λ l. trail limits s es xs ++ l) (law.one limits t e a)))
        (trails_both k0 k1 k2 (trail limits s es xs) (line_told limits t e a) tells more))
    run_by NoRoute is same = stays same (ap (event_in limits x.facts) is)
    run_by (NoMethod m) is same = stays same (ap (event_in limits x.facts) is)
    run_by NoRoom is same = stays same (ap (event_in limits x.facts) is)
    run_by (Unread w) is same = stays same (ap (event_in limits x.facts) is)

    pub run_on : Moves g limits t x.facts x.outcome old new k1 k2 → HaveGoneOn
    run_on moves = run_by x.outcome refl moves
