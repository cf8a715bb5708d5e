-- One turn of a stream after the exchanges so far.
use Rattle.reg_http.proofs.Words.{◌≡◌, ◌≤◌, ◌+◌, ◌++◌, ◌||◌, ◌==◌, ℕ, Bool, true, false, List, [], ◌∷◌, inl, inr, refl, sym, ap, ◌∙◌, subst}
use Rattle.reg_http.proofs.Words.{arith, append_assoc, length, take, drop, Option, Result, Ok, Err, Appends, Appends-trans, Appends-nil}
use Rattle.reg_http.proofs.Words.{Ghosts, Limits, Facts, Rule, Text, facts_owned, Takes, CountedEnd, Sends, SpendsFor, SpendsSome, tally}
use Rattle.reg_http.proofs.Words.{writes_of, StreamFault, Memory, ReadFault, StoreFault, TooManyTurns, WriteFault, OwnedHead, routing_of}
use Rattle.reg_http.proofs.Words.{StandsIn, Ran, Tables, shown, Replies, Exchange, IsOfFile, answers_in, events_in, HaveExchanged, HasRun, IsOpen}
use Rattle.reg_http.proofs.Words.{closing_text, told, trail_in, Tail, Trails}
use Rattle.std.proofs.Common.{take-append-drop}
use Rattle.std.proofs.lemmas.Bool.{or_parts}
use Rattle.std.proofs.lemmas.List.{length-take-le, take-take}
use Rattle.std.proofs.lemmas.List.Elements.{All-nil}
use Rattle.std.specs.Io.KnownBytes.{Consumes}
use Rattle.std.proofs.KnownBytes.{Consumes-trans, Consumes-nil}
use Rattle.reg_http_read.specs.Heads.{IsHeadAt}
use Rattle.reg_model.specs.Registry as model
use Rattle.reg_http_read.specs.Begun.{IsBegun, interim_of}
use Rattle.reg_http_read.specs.Taking.{IsCutOff}
use Rattle.reg_http_read.specs.declared.taking.Taken.TheVariants as taken
use Rattle.reg_body.specs.Sent.{AppendsFront}
use Rattle.reg_http.specs.Answering.{AppendsSome}
use Rattle.reg_http.specs.Exchanges.{IsExchange, closes, outcome_text, reply_of}
use Rattle.reg_http.specs.Streams.{AreServed, IsEnded, IsStopped, ServesTraced}
use Rattle.reg_http.proofs.Trails.{trails_nothing}
use Rattle.reg_http.proofs.Exchanged.{EventsGoOn, goes_front, goes_push, goes_read, run_on}

-- the exchanges so far, between two states of a reader and of a writer
pub record HoldsSoFar {S : Type 0} (g : Ghosts S) (limits : Limits) (s : model.Registry) (entry : Tables S) (k0 k1 : Tail) (r0 r1 w0 w1 : Option Text) (rest : Text) (count : ℕ) (now : Tables S) : Type 0 where
  pub read : Text
  pub written : Text
  pub consumed : Consumes r0 r1 read
  pub appended : Appends w0 w1 written
  pub done : List Exchange
  pub goes : HaveExchanged limits done read written rest count
  pub run : HasRun g limits s entry now done
  pub tells : Trails k0 k1 (trail_in limits s done)

-- a head needs its own bytes alone, and stays one whatever follows
abbrev pub HeadsStandAlone : Type 0
HeadsStandAlone = (limits : Limits) (b : Text) (f : Facts) → IsHeadAt limits b f → IsHeadAt limits (take f.len b) f

abbrev pub HeadsStay : Type 0
HeadsStay = (limits : Limits) (b more : Text) (f : Facts) → IsHeadAt limits b f → IsHeadAt limits (b ++ more) f

module _ {S : Type 0} (g : Ghosts S) (limits : Limits) (s : model.Registry) (entry : Tables S) where
  pub holds_start : (k : Tail) (r w : Option Text) (now : Tables S) → Ran g limits s entry [] [] s now → HoldsSoFar g limits s entry k k r r w w [] 0 now
  holds_start k r w now ran = record {
    read = [];
    written = [];
    consumed = Consumes-nil r;
    appended = Appends-nil w;
    done = [];
    goes = record { reads = refl; wrote = refl; count_is = refl; each = All-nil (IsOpen limits); before_last = λ le. omega (arith, le) };
    run = (s, ran);
    tells = trails_nothing k;
  }

  -- memory was refused before the first read
  pub untouched : (k : Tail) (r w : Option Text) (now : Tables S) → Ran g limits s entry [] [] s now → ServesTraced g limits s entry now k k r r w w (Err Memory)
  untouched k r w now ran = ([], (s, ran), ([], [], Consumes-nil r, Appends-nil w, record { nothing_read = refl; nothing_written = refl; nothing_done = refl }), trails_nothing k)

  module _ (k0 k1 : Tail) (r0 r1 w0 w1 : Option Text) (rest : Text) (count : ℕ) (now : Tables S) (h : HoldsSoFar g limits s entry k0 k1 r0 r1 w0 w1 rest count now) (r2 w2 : Option Text) where
    -- what was read since
    module _ (bytes : Text) (consumed : Consumes r1 r2 bytes) where
      consumes : Consumes r0 r2 (h.read ++ bytes)
      consumes = Consumes-trans r0 r1 r2 h.read bytes h.consumed consumed

      goes : HaveExchanged limits h.done (h.read ++ bytes) h.written (rest ++ bytes) count
      goes = goes_read limits h.done h.read h.written rest count h.goes bytes

      appends : (more : Text) → Appends w1 w2 more → Appends w0 w2 (h.written ++ more)
      appends more a = Appends-trans w0 w1 w2 h.written more h.appended a

      ended : (more : Text) → IsBegun limits (rest ++ bytes) more → IsEnded limits h.done (h.read ++ bytes) (h.written ++ more) count
      ended more begun = record {
        rest = rest ++ bytes;
        before = h.written;
        more = more;
        goes = goes;
        begun = begun;
        wrote = refl;
      }

      cut : (f : Facts) → IsHeadAt limits (rest ++ bytes) f → (a : AppendsFront (interim_of f) w1 w2) → IsStopped limits h.done (h.read ++ bytes) (h.written ++ a.front)
      cut f head a = record {
        done = h.done;
        rest = rest ++ bytes;
        before = h.written;
        front = a.front;
        back = a.rest;
        number = count;
        goes = goes;
        next = inr (inl (f, head, sym a.whole, refl));
        wrote = refl;
      }

    -- nothing was answered since
    so_far : (w : Option Text) (result : Result ℕ StreamFault) → AreServed limits h.done r0 r2 w0 w result → ServesTraced g limits s entry now k0 k1 r0 r2 w0 w result
    so_far w result served = (h.done, h.run, served, h.tells)

    -- no request was taken
    pub taking_ended : (waits : Text) → Takes r1 r2 rest waits w1 w2 limits (Ok taken.End) → ServesTraced g limits s entry now k0 k1 r0 r2 w0 w2 (Ok count)
    taking_ended waits ((bytes, c, (more, a, begun)), end) =
        so_far w2 (Ok count) (h.read ++ bytes, h.written ++ more, consumes bytes c, appends bytes c more a, inl (ended bytes c more begun, end))

    taking_cut : IsCutOff r1 r2 rest [] w1 w2 limits → (written : Text) × Appends w0 w2 written × ((read : Text) × Consumes r0 r2 read × IsStopped limits h.done read written)
    taking_cut (bytes, c, (f, head, a)) =
        (h.written ++ a.front, appends bytes c a.front a.appends, (h.read ++ bytes, consumes bytes c, cut bytes c f head a))

    pub taking_failed : (waits : Text) (fault : StreamFault) → Takes r1 r2 rest waits w1 w2 limits (Err fault) → ServesTraced g limits s entry now k0 k1 r0 r2 w0 w2 (Err fault)
    taking_failed waits ReadFault (bytes, c, (more, a, begun)) =
        so_far w2 (Err ReadFault) (h.read ++ bytes, h.written ++ more, consumes bytes c, appends bytes c more a, (count, ended bytes c more begun))
    taking_failed waits TooManyTurns (inl (bytes, c, (more, a, begun))) =
        so_far w2 (Err TooManyTurns) (h.read ++ bytes, h.written ++ more, consumes bytes c, appends bytes c more a, inl (count, ended bytes c more begun))
    taking_failed waits TooManyTurns (inr x) =
        let (written, a, (read, c, stopped)) = taking_cut x in so_far w2 (Err TooManyTurns) (read, written, c, a, inr stopped)
    taking_failed waits WriteFault x =
        let (written, a, (read, c, stopped)) = taking_cut x in so_far w2 (Err WriteFault) (read, written, c, a, stopped)
    taking_failed waits StoreFault x = absurd x
    taking_failed waits Memory x = absurd x

    -- the rest is refused, and the refusal is sent
    module _ (waits : Text) (broken : Rule) (head_only : Bool) (takes : Takes r1 r2 rest waits w1 w2 limits (Ok (taken.Refused broken head_only))) (w3 : Option Text) where
      pub refusal_sent : Appends w2 w3 (closing_text broken head_only) → ServesTraced g limits s entry now k0 k1 r0 r2 w0 w3 (Ok (count + 1))
      refusal_sent sent =
          let (bytes, c, (more, a, refused)) = takes in
          so_far w3 (Ok (count + 1)) (
            h.read ++ bytes,
            h.written ++ (more ++ closing_text broken head_only),
            consumes bytes c,
            subst (Appends w0 w3) (append_assoc h.written more (closing_text broken head_only)) (Appends-trans w0 w2 w3 (h.written ++ more) (closing_text broken head_only) (appends bytes c more a) sent),
            inr (inr (record {
              rest = rest ++ bytes;
              before = h.written;
              more = more;
              broken = broken;
              head_only = head_only;
              number = count;
              goes = goes bytes c;
              refused = refused;
              wrote = refl;
              count_is = refl;
            })),
          )

      refusal_cut : AppendsFront (closing_text broken head_only) w2 w3
          → (read : Text) × (written : Text) × Consumes r0 r2 read × Appends w0 w3 written × IsStopped limits h.done read written
      refusal_cut cut_off =
          let (bytes, c, (more, a, refused)) = takes in
          let front = more ++ cut_off.front in
          let whole : more ++ closing_text broken head_only ≡ front ++ cut_off.rest = ap (λ l. more ++ l) cut_off.whole ∙ sym (append_assoc more cut_off.front cut_off.rest) in (
            h.read ++ bytes,
            h.written ++ front,
            consumes bytes c,
            subst (Appends w0 w3) (append_assoc h.written more cut_off.front) (Appends-trans w0 w2 w3 (h.written ++ more) cut_off.front (appends bytes c more a) cut_off.appends),
            record {
              done = h.done;
              rest = rest ++ bytes;
              before = h.written;
              front = front;
              back = cut_off.rest;
              number = count;
              goes = goes bytes c;
              next = inr (inr (more, broken, head_only, refused, sym whole, refl));
              wrote = refl;
            },
          )

      pub refusal_failed : (fault : StreamFault) → Sends (closing_text broken head_only) w2 w3 {A = Unit {0}} (Err fault) → ServesTraced g limits s entry now k0 k1 r0 r2 w0 w3 (Err fault)
      refusal_failed WriteFault x = so_far w3 (Err WriteFault) (refusal_cut x)
      refusal_failed TooManyTurns x = let (read, written, c, a, stopped) = refusal_cut x in so_far w3 (Err TooManyTurns) (read, written, c, a, inr stopped)
      refusal_failed ReadFault x = absurd x
      refusal_failed StoreFault x = absurd x
      refusal_failed Memory x = absurd x

    -- a request is there whole, its interim line was sent, and it is answered
    module _ (alone : HeadsStandAlone) (stay : HeadsStay) (law : EventsGoOn g) (waits : Text) (b : OwnedHead) (there : IsHeadAt limits waits (facts_owned b)) (le : b.len + b.body_len ≤ length waits)
        (bytes : Text) (consumed : Consumes r1 r2 bytes) (same : waits ≡ rest ++ bytes) (asked_on : Appends w1 w2 (interim_of (facts_owned b)))
        (close : Bool) (close_is : close ≡ closes limits (facts_owned b) (count + 1)) (new : Tables S) (k2 : Tail) (w3 : Option Text) where
      abbrev f : Facts
      f = facts_owned b

      abbrev message : Text
      message = take (b.len + b.body_len) waits

      abbrev later : Text
      later = drop (b.len + b.body_len) waits

      -- the head of the message tells the same
      pub head : IsHeadAt limits message f
      head =
          let own : take f.len message ≡ take f.len waits = take-take f.len (b.len + b.body_len) waits (omega arith) in
          subst (λ l. IsHeadAt limits l f) (ap (λ l. l ++ drop f.len message) (sym own) ∙ take-append-drop f.len message)
          (stay limits (take f.len waits) (drop f.len message) f (alone limits waits f there))

      goes_whole : HaveExchanged limits h.done (h.read ++ bytes) h.written (message ++ later) count
      goes_whole =
          goes_front limits h.done (h.read ++ bytes) h.written (rest ++ bytes) count (goes bytes consumed) (message ++ later)
          (sym same ∙ sym (take-append-drop (b.len + b.body_len) waits))

      module _ (t : model.Registry) (result : Result (Unit {0}) StreamFault) (ran : Ran g limits s entry (events_in limits h.done) (answers_in limits h.done) t now)
          (replies : Replies g limits f (routing_of f (drop f.len message)) close t now new k1 k2 w2 w3 result) where
        abbrev this : Exchange
        this = record { message = message; facts = f; outcome = replies.outcome }

        exchange : IsExchange limits this
        exchange = record {
          head = head;
          whole = length-take-le (b.len + b.body_len) waits le;
          outcome = replies.leads;
        }

        abbrev done : List Exchange
        done = h.done ++ this ∷ []

        run : HasRun g limits s entry new done × Trails k0 k2 (trail_in limits s done)
        run = run_on g limits s entry law h.done this now new k0 k1 k2 t ran h.tells replies.moves

        -- it is the last one
        at_last : (end : Result ℕ StreamFault) → AreServed limits done r0 r2 w0 w3 end → ServesTraced g limits s entry new k0 k2 r0 r2 w0 w3 end
        at_last end served = (done, run.0, served, run.1)

        sends_all : Appends w2 w3 (outcome_text limits f close replies.outcome) → Appends w0 w3 (h.written ++ told limits close this)
        sends_all sent =
            subst (Appends w0 w3) (append_assoc h.written (interim_of f) (outcome_text limits f close replies.outcome))
            (Appends-trans w0 w2 w3 (h.written ++ interim_of f) (outcome_text limits f close replies.outcome) (appends bytes consumed (interim_of f) asked_on) sent)

        -- the connection goes on
        answered : Appends w2 w3 (outcome_text limits f close replies.outcome) → close ≡ false → HoldsSoFar g limits s entry k0 k2 r0 r2 w0 w3 later (count + 1) new
        answered sent stays =
            let parts = or_parts f.close (count + 1 == limits.replies) (sym close_is ∙ stays) in record {
              read = h.read ++ bytes;
              written = h.written ++ told limits false this;
              consumed = consumes bytes consumed;
              appended = subst (λ c. Appends w0 w3 (h.written ++ told limits c this)) stays (sends_all sent);
              done = done;
              goes = goes_push limits h.done (h.read ++ bytes) h.written (message ++ later) count goes_whole this later (record { exchange = exchange; goes_on = parts.0 }) refl parts.1;
              run = run.0;
              tells = run.1;
            }

        -- the connection is closed
        closed : Appends w2 w3 (outcome_text limits f close replies.outcome) → close ≡ true → ServesTraced g limits s entry new k0 k2 r0 r2 w0 w3 (Ok (count + 1))
        closed sent ends = at_last (Ok (count + 1)) (
          h.read ++ bytes,
          h.written ++ told limits true this,
          consumes bytes consumed,
          subst (λ c. Appends w0 w3 (h.written ++ told limits c this)) ends (sends_all sent),
          inr (inl (record {
            done = h.done;
            last = this;
            later = later;
            before = h.written;
            number = count;
            goes = goes_whole;
            exchange = exchange;
            closing = sym close_is ∙ ends;
            wrote = refl;
            count_is = refl;
            whole = refl;
          })),
        )

        -- the reply was cut off
        reply_cut : AppendsFront (outcome_text limits f close replies.outcome) w2 w3
            → (read : Text) × (written : Text) × Consumes r0 r2 read × Appends w0 w3 written × IsStopped limits done read written
        reply_cut cut_off =
            let front = interim_of f ++ cut_off.front in
            let whole : told limits close this ≡ front ++ cut_off.rest = ap (λ l. interim_of f ++ l) cut_off.whole ∙ sym (append_assoc (interim_of f) cut_off.front cut_off.rest) in (
              h.read ++ bytes,
              h.written ++ front,
              consumes bytes consumed,
              subst (Appends w0 w3) (append_assoc h.written (interim_of f) cut_off.front)
                  (Appends-trans w0 w2 w3 (h.written ++ interim_of f) cut_off.front (appends bytes consumed (interim_of f) asked_on) cut_off.appends),
              record {
                done = h.done;
                rest = message ++ later;
                before = h.written;
                front = front;
                back = cut_off.rest;
                number = count;
                goes = goes_whole;
                next = inl (this, later, refl, exchange, sym whole ∙ ap (λ c. told limits c this) close_is, refl);
                wrote = refl;
              },
            )

        -- the reply of an index file was broken off
        reply_broken : IsOfFile replies.outcome → AppendsSome (outcome_text limits f close replies.outcome) w2 w3 → ServesTraced g limits s entry new k0 k2 r0 r2 w0 w3 (Err StoreFault)
        reply_broken file begun = at_last (Err StoreFault) (
          h.read ++ bytes,
          h.written ++ (interim_of f ++ begun.front),
          consumes bytes consumed,
          subst (Appends w0 w3) (append_assoc h.written (interim_of f) begun.front)
              (Appends-trans w0 w2 w3 (h.written ++ interim_of f) begun.front (appends bytes consumed (interim_of f) asked_on) begun.appends),
          record {
            done = h.done;
            last = this;
            later = later;
            before = h.written;
            front = begun.front;
            back = begun.rest;
            number = count;
            goes = goes_whole;
            exchange = exchange;
            of_file = file;
            reply = ap (λ c. reply_of limits c this) (sym close_is) ∙ begun.whole;
            some = begun.some;
            unsent = begun.unsent;
            wrote = refl;
            whole = refl;
          },
        )

      -- what the registry replied, whatever it held
      abbrev IsReplying : Result (Unit {0}) StreamFault → Type 0
      IsReplying result = (t : model.Registry) → StandsIn t (shown g now) → Replies g limits f (routing_of f (drop f.len message)) close t now new k1 k2 w2 w3 result

      -- the run so far, which is h's
      abbrev t0 : model.Registry
      t0 = h.run.0

      pub reply_sent : (u : Unit {0}) → IsReplying (Ok u) → close ≡ false → HoldsSoFar g limits s entry k0 k2 r0 r2 w0 w3 later (count + 1) new
      reply_sent u all stays = let it = all t0 h.run.1.shows in answered t0 (Ok u) h.run.1 it it.sends stays

      pub last_sent : (u : Unit {0}) → IsReplying (Ok u) → close ≡ true → ServesTraced g limits s entry new k0 k2 r0 r2 w0 w3 (Ok (count + 1))
      last_sent u all ends = let it = all t0 h.run.1.shows in closed t0 (Ok u) h.run.1 it it.sends ends

      pub reply_failed : (fault : StreamFault) → IsReplying (Err fault) → ServesTraced g limits s entry new k0 k2 r0 r2 w0 w3 (Err fault)
      reply_failed WriteFault all = let it = all t0 h.run.1.shows in at_last t0 (Err WriteFault) h.run.1 it (Err WriteFault) (reply_cut t0 (Err WriteFault) h.run.1 it it.sends)
      reply_failed StoreFault all = let it = all t0 h.run.1.shows in reply_broken t0 (Err StoreFault) h.run.1 it it.sends.0 it.sends.1
      reply_failed TooManyTurns all =
          let it = all t0 h.run.1.shows in
          let (read, written, c, a, stopped) = reply_cut t0 (Err TooManyTurns) h.run.1 it it.sends in
          at_last t0 (Err TooManyTurns) h.run.1 it (Err TooManyTurns) (read, written, c, a, inr stopped)
      reply_failed ReadFault all = absurd (all t0 h.run.1.shows).sends
      reply_failed Memory all = absurd (all t0 h.run.1.shows).sends

    -- the same as the taking and the answering tell it
    module _ (alone : HeadsStandAlone) (stay : HeadsStay) (law : EventsGoOn g) (waits : Text) (b : OwnedHead) (takes : Takes r1 r2 rest waits w1 w2 limits (Ok (taken.Whole b))) (close : Bool)
        (close_is : close ≡ (b.close || count + 1 == limits.replies)) (new : Tables S) (k2 : Tail) (w3 : Option Text) where
      abbrev Replied : Result (Unit {0}) StreamFault → Type 0
      Replied result = (t : model.Registry) → StandsIn t (shown g now)
          → Replies g limits (facts_owned b) (routing_of (facts_owned b) (drop b.len (take (b.len + b.body_len) waits))) close t now new k1 k2 w2 w3 result

      there_is : IsHeadAt limits waits (facts_owned b)
      there_is = subst (λ l. IsHeadAt limits l (facts_owned b)) (sym takes.2.0) takes.2.1

      fits : b.len + b.body_len ≤ length waits
      fits = omega (arith, takes.2.2, ap (λ l. length l) takes.2.0)

      pub whole_sent : (u : Unit {0}) → Replied (Ok u) → close ≡ false → HoldsSoFar g limits s entry k0 k2 r0 r2 w0 w3 (drop (b.len + b.body_len) waits) (count + 1) new
      whole_sent u all = reply_sent alone stay law waits b there_is fits takes.0 takes.1 takes.2.0 takes.2.3 close close_is new k2 w3 u all

      pub whole_last : (u : Unit {0}) → Replied (Ok u) → close ≡ true → ServesTraced g limits s entry new k0 k2 r0 r2 w0 w3 (Ok (count + 1))
      whole_last u all = last_sent alone stay law waits b there_is fits takes.0 takes.1 takes.2.0 takes.2.3 close close_is new k2 w3 u all

      pub whole_failed : (fault : StreamFault) → Replied (Err fault) → ServesTraced g limits s entry new k0 k2 r0 r2 w0 w3 (Err fault)
      whole_failed fault all = reply_failed alone stay law waits b there_is fits takes.0 takes.1 takes.2.0 takes.2.3 close close_is new k2 w3 fault all

-- turns that writes took, beside a reader that stays
module _ {R W : Type 0} (r : CountedEnd R) (w0 w1 : CountedEnd W) (had left : ℕ) where
  pub wrote_some : SpendsSome had left (writes_of w0) (writes_of w1) → SpendsSome had left (tally r w0) (tally r w1)
  wrote_some it = record {
    turns = omega (arith, it.turns);
    reads = omega arith;
    writes = it.writes;
    failed_reads = refl;
    failed_writes = it.failed_writes;
  }

  pub wrote_for : (f : StreamFault) → SpendsFor had left (writes_of w0) (writes_of w1) f → SpendsFor had left (tally r w0) (tally r w1) f
  wrote_for ReadFault it = absurd (omega (arith, it.reads_are))
  wrote_for WriteFault it = record { turns = omega (arith, it.turns); reads_are = omega arith; writes_are = it.writes_are }
  wrote_for StoreFault it = record { turns = omega (arith, it.turns); begun = it.begun; failed_reads = refl; failed_writes = it.failed_writes }
  wrote_for TooManyTurns it = record { turns = omega (arith, it.turns); failed_reads = refl; failed_writes = it.failed_writes }
  wrote_for Memory it = absurd it
