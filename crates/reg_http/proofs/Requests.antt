-- The requests of a stream that were answered, and what comes of the next.
use Rattle.reg_http.proofs.Words.{◌≡◌, ◌≤◌, ◌+◌, ◌||◌, ◌==◌, ◌∙◌, ℕ, Bool, true, false, sym, ap, subst, drop, length, take, Option, Result}
use Rattle.reg_http.proofs.Words.{Ok, Err, Appends, Ghosts, CountedEnd, Limits, Facts, facts_owned, Takes, Sends, SpendsFor, SpendsSome}
use Rattle.reg_http.proofs.Words.{tally, writes_of, StreamFault, OwnedHead, Rule, Text, StandsIn, limits_of, tables_of, Running, shown}
use Rattle.reg_http.proofs.Words.{AnswersRequest, GoesOn, ServesStreamTraced, SpendsLent, closing_text, IsTrailed, TrailEnd, tail}
use Rattle.std.proofs.Common.{IsErrAnd}
use Rattle.sqlite.specs.State.{HasCleanDisk}
use Rattle.reg_http_read.proofs.Adding.{spends_for, spends_some}
use Rattle.reg_http_read.specs.declared.taking.Taken.{Taken}
use Rattle.reg_http_read.specs.declared.taking.Taken.TheVariants as taken
use Rattle.reg_model.specs.Registry as model
use Rattle.reg_http.specs.Answering.{IsMessageReplied}
use Rattle.reg_http.proofs.Exchanged.{EventsGoOn}
use Rattle.reg_http.proofs.Kept.{goes_on}
use Rattle.reg_http.proofs.Steps.{HeadsStandAlone, HeadsStay, HoldsSoFar, refusal_failed, refusal_sent, taking_ended, taking_failed, whole_failed, whole_last, whole_sent, wrote_for, wrote_some}
use Rattle.reg_http.proofs.Trails.{trailed_on}

module _ {S R W T : Type 0} (g : Ghosts S) (read : R → Option Text) (held : W → Option Text)
    (told_of : T → Option Text) (old : Running S) (r0 : CountedEnd R) (w0 : CountedEnd W) (e0 : TrailEnd T) where
  -- they were answered, and the rest was read beyond them
  pub record Answered (now : Running S) (e : TrailEnd T) (r : CountedEnd R) (w : CountedEnd W) (rest : Text)
      (count left : ℕ) : Type 0 where
    pub keeps : GoesOn g old now
    pub holds : HasCleanDisk (shown g (tables_of now)) → (s : model.Registry) → StandsIn s (shown g (tables_of old))
        → HoldsSoFar g (limits_of old) s (tables_of old) (tail (told_of e0.end.inner) e0) (tail (told_of e.end.inner) e)
        (read r0.inner) (read r.inner) (held w0.inner) (held w.inner) rest count (tables_of now)
    pub spends : SpendsSome (limits_of old).turns left (tally r0 w0) (tally r w)
    pub told : IsTrailed (tail (told_of e0.end.inner) e0) (tail (told_of e.end.inner) e)

  -- one more is there whole, and this is its message
  pub record Asked (now : Running S) (e : TrailEnd T) (r2 : CountedEnd R) (w2 : CountedEnd W)
      (count left2 : ℕ) (waits : Text) (b : OwnedHead) (close : Bool) (facts : Facts) (body : Text) (shut : Bool) : Type 0 where
    pub alone : HeadsStandAlone
    pub stay : HeadsStay
    pub law : EventsGoOn g
    pub r : CountedEnd R
    pub w : CountedEnd W
    pub rest : Text
    pub left : ℕ
    pub so_far : Answered now e r w rest count left
    pub limits : Limits
    pub limits_are : limits ≡ limits_of old
    pub got : Taken
    pub got_is : got ≡ taken.Whole b
    pub takes : Takes (read r.inner) (read r2.inner) rest waits (held w.inner) (held w2.inner) limits (Ok got)
    pub spends : SpendsSome left left2 (tally r w) (tally r2 w2)
    pub close_is : close ≡ (b.close || count + 1 == limits.replies)
    pub facts_are : facts ≡ facts_owned b
    pub there : Text
    pub there_is : there ≡ waits
    pub body_is : body ≡ drop b.len (take (b.len + b.body_len) there)
    pub shut_is : shut ≡ close

module _ {S R W T : Type 0} {g : Ghosts S} {read : R → Option Text} {held : W → Option Text}
    {told_of : T → Option Text} {old : Running S} {r0 : CountedEnd R} {w0 : CountedEnd W} {e0 : TrailEnd T} where
  -- what the exit of a `?` returns
  pub exits : {now : Running S} {r : CountedEnd R} {w : CountedEnd W} {e : TrailEnd T} {fault : StreamFault} (result : Result ℕ StreamFault)
      → IsErrAnd result (λ y. y ≡ fault)
      → ServesStreamTraced g SpendsLent read held old now r0 r w0 w told_of e0 e (Err fault) → ServesStreamTraced g SpendsLent read held old now r0 r w0 w told_of e0 e result
  exits (Ok count) is it = absurd is
  exits {now} {r} {w} {e} (Err fault) is it = rw is it

  module _ {now : Running S} {e : TrailEnd T} {r : CountedEnd R} {w : CountedEnd W} {rest : Text} {count left : ℕ} (it : Answered g read held told_of old r0 w0 e0 now e r w rest count left)
      (r2 : CountedEnd R) (w2 : CountedEnd W) (left2 : ℕ) (waits : Text) (limits : Limits) (limits_are : limits ≡ limits_of old) where
    abbrev IsTaken : Result Taken StreamFault → Type 0
    IsTaken result = Takes (read r.inner) (read r2.inner) rest waits (held w.inner) (held w2.inner) limits result

    -- by the limits of the registry
    by_limits : (result : Result Taken StreamFault) → IsTaken result → Takes (read r.inner) (read r2.inner) rest waits (held w.inner) (held w2.inner) (limits_of old) result
    by_limits result takes = subst (λ l. Takes (read r.inner) (read r2.inner) rest waits (held w.inner) (held w2.inner) l result) limits_are takes

    -- no request was taken
    pub taking_lost : (fault : StreamFault) → IsTaken (Err fault)
        → SpendsFor left left2 (tally r w) (tally r2 w2) fault
        → ServesStreamTraced g SpendsLent read held old now r0 r2 w0 w2 told_of e0 e (Err fault)
    taking_lost fault takes spent = record {
      serves = λ clean s shows.
          taking_failed g (limits_of old) s (tables_of old) (tail (told_of e0.end.inner) e0) (tail (told_of e.end.inner) e) (read r0.inner) (read r.inner) (held w0.inner) (held w.inner)
          rest count (tables_of now) (it.holds clean s shows) (read r2.inner) (held w2.inner) waits fault
          (by_limits (Err fault) takes);
      spends = (left2, spends_for (limits_of old).turns left left2 (tally r0 w0) (tally r w) (tally r2 w2) it.spends fault spent);
      told = it.told;
      keeps = it.keeps;
    }

    module _ (got : Taken) (takes : IsTaken (Ok got)) (spent : SpendsSome left left2 (tally r w) (tally r2 w2)) where
      spends : SpendsSome (limits_of old).turns left2 (tally r0 w0) (tally r2 w2)
      spends = spends_some (limits_of old).turns left left2 (tally r0 w0) (tally r w) (tally r2 w2) it.spends spent

      is_taken : (it : Taken) → got ≡ it → Takes (read r.inner) (read r2.inner) rest waits (held w.inner) (held w2.inner) (limits_of old) (Ok it)
      is_taken it is = by_limits (Ok it) (subst (λ l. IsTaken (Ok l)) is takes)

      pub whole_fits : (b : OwnedHead) → got ≡ taken.Whole b → b.len + b.body_len ≤ length waits
      whole_fits b got_is = let takes = is_taken (taken.Whole b) got_is in subst (λ l. b.len + b.body_len ≤ length l) (sym takes.2.0) takes.2.2

      pub stream_ended : got ≡ taken.End → ServesStreamTraced g SpendsLent read held old now r0 r2 w0 w2 told_of e0 e (Ok count)
      stream_ended got_is = record {
        serves = λ clean s shows.
            taking_ended g (limits_of old) s (tables_of old) (tail (told_of e0.end.inner) e0) (tail (told_of e.end.inner) e) (read r0.inner) (read r.inner) (held w0.inner) (held w.inner)
            rest count (tables_of now) (it.holds clean s shows) (read r2.inner) (held w2.inner) waits
            (is_taken taken.End got_is);
        spends = (left2, spends);
        told = it.told;
        keeps = it.keeps;
      }

      -- the rest is refused
      module _ (broken : Rule) (head_only : Bool) (got_is : got ≡ taken.Refused broken head_only) (w3 : CountedEnd W) (left3 : ℕ) where
        pub refusal_told : Appends (held w2.inner) (held w3.inner) (closing_text broken head_only) → SpendsSome left2 left3 (writes_of w2) (writes_of w3)
            → ServesStreamTraced g SpendsLent read held old now r0 r2 w0 w3 told_of e0 e (Ok (count + 1))
        refusal_told sent wrote = record {
          serves = λ clean s shows.
              refusal_sent g (limits_of old) s (tables_of old) (tail (told_of e0.end.inner) e0) (tail (told_of e.end.inner) e) (read r0.inner) (read r.inner) (held w0.inner) (held w.inner)
              rest count (tables_of now) (it.holds clean s shows) (read r2.inner) (held w2.inner) waits broken head_only
              (is_taken (taken.Refused broken head_only) got_is) (held w3.inner) sent;
          spends = (left3, spends_some (limits_of old).turns left2 left3 (tally r0 w0) (tally r2 w2) (tally r2 w3) spends (wrote_some r2 w2 w3 left2 left3 wrote));
          told = it.told;
          keeps = it.keeps;
        }

        pub refusal_lost : (fault : StreamFault) → Sends (closing_text broken head_only) (held w2.inner) (held w3.inner) {A = Unit {0}} (Err fault)
            → SpendsFor left2 left3 (writes_of w2) (writes_of w3) fault
            → ServesStreamTraced g SpendsLent read held old now r0 r2 w0 w3 told_of e0 e (Err fault)
        refusal_lost fault sent wrote = record {
          serves = λ clean s shows.
              refusal_failed g (limits_of old) s (tables_of old) (tail (told_of e0.end.inner) e0) (tail (told_of e.end.inner) e) (read r0.inner) (read r.inner) (held w0.inner) (held w.inner)
              rest count (tables_of now) (it.holds clean s shows) (read r2.inner) (held w2.inner) waits broken head_only
              (is_taken (taken.Refused broken head_only) got_is) (held w3.inner) fault sent;
          spends = (left3, spends_for (limits_of old).turns left2 left3 (tally r0 w0) (tally r2 w2) (tally r2 w3) spends fault (wrote_for r2 w2 w3 left2 left3 fault wrote));
          told = it.told;
          keeps = it.keeps;
        }

  -- one more is answered
  module _ {now : Running S} {e : TrailEnd T} {r2 : CountedEnd R} {w2 : CountedEnd W} {count left2 : ℕ} {waits : Text} {b : OwnedHead} {close : Bool} {facts : Facts} {body : Text} {shut : Bool}
      (asked : Asked g read held told_of old r0 w0 e0 now e r2 w2 count left2 waits b close facts body shut) where
    spends_so_far : SpendsSome (limits_of old).turns left2 (tally r0 w0) (tally r2 w2)
    spends_so_far = spends_some (limits_of old).turns asked.left left2 (tally r0 w0) (tally asked.r asked.w) (tally r2 w2) asked.so_far.spends asked.spends

    takes_it : Takes (read asked.r.inner) (read r2.inner) asked.rest waits (held asked.w.inner) (held w2.inner) (limits_of old) (Ok (taken.Whole b))
    takes_it =
        subst (λ l. Takes (read asked.r.inner) (read r2.inner) asked.rest waits (held asked.w.inner) (held w2.inner) l (Ok (taken.Whole b))) asked.limits_are
        (subst (λ l. Takes (read asked.r.inner) (read r2.inner) asked.rest waits (held asked.w.inner) (held w2.inner) asked.limits (Ok l)) asked.got_is asked.takes)

    closes_so : close ≡ (b.close || count + 1 == (limits_of old).replies)
    closes_so = asked.close_is ∙ ap (λ l. b.close || count + 1 == l.replies) asked.limits_are

    module _ {new : Running S} {e2 : TrailEnd T} {w3 : CountedEnd W} {left3 : ℕ} where
      pub request_lost : {fault : StreamFault} → AnswersRequest g (IsMessageReplied g (limits_of now) facts body shut) told_of held now new e e2 w2 w3 left2 left3 (Err fault)
          → ServesStreamTraced g SpendsLent read held old new r0 r2 w0 w3 told_of e0 e2 (Err fault)
      request_lost {fault} answer =
          let it = asked.so_far in
          let says = rw (asked.facts_are, asked.body_is, asked.there_is, asked.shut_is, it.keeps.limits) at answer.replied in
          record {
            serves = λ clean s shows.
                whole_failed g (limits_of old) s (tables_of old) (tail (told_of e0.end.inner) e0) (tail (told_of e.end.inner) e) (read r0.inner) (read asked.r.inner) (held w0.inner) (held asked.w.inner)
                asked.rest count (tables_of now) (it.holds (answer.keeps.clean clean) s shows) (read r2.inner) (held w2.inner)
                asked.alone asked.stay asked.law waits b takes_it close closes_so (tables_of new) (tail (told_of e2.end.inner) e2) (held w3.inner) fault (λ t seen. says clean t seen);
            spends = (left3, spends_for (limits_of old).turns left2 left3 (tally r0 w0) (tally r2 w2) (tally r2 w3) spends_so_far fault (wrote_for r2 w2 w3 left2 left3 fault answer.spends));
            told = trailed_on (tail (told_of e0.end.inner) e0) (tail (told_of e.end.inner) e) (tail (told_of e2.end.inner) e2) it.told answer.told;
            keeps = goes_on it.keeps answer.keeps;
          }

      pub request_last : {u : Unit {0}} → AnswersRequest g (IsMessageReplied g (limits_of now) facts body shut) told_of held now new e e2 w2 w3 left2 left3 (Ok u) → close ≡ true
          → ServesStreamTraced g SpendsLent read held old new r0 r2 w0 w3 told_of e0 e2 (Ok (count + 1))
      request_last {u} answer ends =
          let it = asked.so_far in
          let says = rw (asked.facts_are, asked.body_is, asked.there_is, asked.shut_is, it.keeps.limits) at answer.replied in
          record {
            serves = λ clean s shows.
                whole_last g (limits_of old) s (tables_of old) (tail (told_of e0.end.inner) e0) (tail (told_of e.end.inner) e) (read r0.inner) (read asked.r.inner) (held w0.inner) (held asked.w.inner)
                asked.rest count (tables_of now) (it.holds (answer.keeps.clean clean) s shows) (read r2.inner) (held w2.inner)
                asked.alone asked.stay asked.law waits b takes_it close closes_so (tables_of new) (tail (told_of e2.end.inner) e2) (held w3.inner) u (λ t seen. says clean t seen) ends;
            spends = (left3, spends_some (limits_of old).turns left2 left3 (tally r0 w0) (tally r2 w2) (tally r2 w3) spends_so_far (wrote_some r2 w2 w3 left2 left3 answer.spends));
            told = trailed_on (tail (told_of e0.end.inner) e0) (tail (told_of e.end.inner) e) (tail (told_of e2.end.inner) e2) it.told answer.told;
            keeps = goes_on it.keeps answer.keeps;
          }

      pub request_sent : {u : Unit {0}} → AnswersRequest g (IsMessageReplied g (limits_of now) facts body shut) told_of held now new e e2 w2 w3 left2 left3 (Ok u) → close ≡ false
          → {later : Text} → later ≡ drop (b.len + b.body_len) waits → Answered g read held told_of old r0 w0 e0 new e2 r2 w3 later (count + 1) left3
      request_sent {u} answer stays is =
          let it = asked.so_far in
          let says = rw (asked.facts_are, asked.body_is, asked.there_is, asked.shut_is, it.keeps.limits) at answer.replied in
          record {
            keeps = goes_on it.keeps answer.keeps;
            holds = λ clean s shows.
                rw is
                (whole_sent g (limits_of old) s (tables_of old) (tail (told_of e0.end.inner) e0) (tail (told_of e.end.inner) e) (read r0.inner) (read asked.r.inner) (held w0.inner) (held asked.w.inner)
                asked.rest count (tables_of now) (it.holds (answer.keeps.clean clean) s shows) (read r2.inner) (held w2.inner)
                asked.alone asked.stay asked.law waits b takes_it close closes_so (tables_of new) (tail (told_of e2.end.inner) e2) (held w3.inner) u (λ t seen. says clean t seen) stays);
            spends = spends_some (limits_of old).turns left2 left3 (tally r0 w0) (tally r2 w2) (tally r2 w3) spends_so_far (wrote_some r2 w2 w3 left2 left3 answer.spends);
            told = trailed_on (tail (told_of e0.end.inner) e0) (tail (told_of e.end.inner) e) (tail (told_of e2.end.inner) e2) it.told answer.told;
          }
