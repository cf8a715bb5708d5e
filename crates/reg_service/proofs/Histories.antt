-- One more event behind a run.
use Rattle.reg_service.proofs.Words.{◌≡◌, ◌++◌, ◌+◌, ◌<◌, ◌⊎◌, ℕ, Bool, false, true, Option, None, Some, arith, get_or, inl, inr, length, List, [], ◌∷◌, take, refl}
use Rattle.reg_service.proofs.Words.{sym, ap, subst, ◌∙◌, Trees, Ghosts, Limits, Answer, Event, Registry, IsFit, unavailable, outcome, Stands}
use Rattle.reg_service.proofs.Words.{Tables, is_stopped, shown, false≢true, HasCleanDisk, Order, AdminRefusal, command_of, reply_of, Reply}
use Rattle.reg_service.proofs.Words.{Denied, request_of, Answers, LeavesAlone, StandsIn, HasAnswered}
use Rattle.std.proofs.Common.{suc}
use Rattle.std.proofs.Math.Seq.{take-suc}
use Rattle.std.proofs.lemmas.List.{append-nil, append_assoc, length_push}
use Rattle.std.proofs.lemmas.List.Elements.{All-from_recursion}
use Rattle.std.specs.List.{AllByRecursion}
use Rattle.reg_model.specs.Laws.{RunsJoin, RunsKeepSound, StemsGrow, StepsRun}
use Rattle.reg_model.specs.Sound.{Sound}
use Rattle.reg_model.specs.Steps.{Run}
use Rattle.std.specs.Prelude.{Result, Ok, Err, IfOk, IsErr}
use Rattle.reg_model.specs.declared.rule.Rule.TheVariants as rule
use Rattle.reg_policy.specs.declared.event.AdminCommand.{AdminCommand}
use Rattle.reg_policy.specs.declared.event.AdminReply.{AdminReply}
use Rattle.reg_api_requests.specs.Views.{event_of}
use Rattle.reg_api_requests.specs.declared.request.ApiRequest.{ApiRequest}
use Rattle.reg_service.specs.Answered.{IsAnswered, LeavesNoMore}
use Rattle.reg_service.specs.Handled.{IsReplied}
use Rattle.reg_service.specs.Sequences.{AreNoRoom, AreTold, IsFitCall, IsTold, IsUnread, MayBeLeft, Ran, StopsAt, TellsOf, event_at}
use Rattle.reg_service.specs.declared.sequences.Call.TheVariants.{Request, Command as Commanded}
use Rattle.reg_service.specs.declared.sequences.Response.TheVariants.{Reply as Replied, Command as Obeyed}
use Rattle.reg_service.specs.declared.sequences.Call.{Call}
use Rattle.reg_service.specs.declared.sequences.Response.{Response}

some_none : (n : ℕ) → ◌≡◌ {A = Option ℕ} (Some n) None → ⊥
some_none n e = cc

no_room_on : (es : List Event) (xs : List Answer) (e : Event) (a : Answer) → AreNoRoom es xs → a ≡ unavailable e → AreNoRoom (es ++ e ∷ []) (xs ++ a ∷ [])
no_room_on [] [] e a all is = (is, tt)
no_room_on (f ∷ es) (x ∷ xs) e a all is = (all.0, no_room_on es xs e a all.1 is)
no_room_on [] (x ∷ xs) e a all is = absurd all
no_room_on (f ∷ es) [] e a all is = absurd all

-- one more call, which is an event
pub told_on : (limits : Limits) (cs : List Call) (es : List Event) (xs : List Answer) (ts : List Response) (c : Call) (a : Answer) (t : Response) → AreTold limits cs es xs ts → TellsOf limits c a t → AreTold limits (cs ++ c ∷ []) (es ++ event_at limits c ∷ []) (xs ++ a ∷ []) (ts ++ t ∷ [])
told_on limits [] [] [] [] c a t all it = inr (a, [], [], refl, refl, it, tt)
told_on limits (d ∷ cs) es xs (u ∷ ts) c a t (inl (unread, all)) it = inl (unread, told_on limits cs es xs ts c a t all it)
told_on limits (d ∷ cs) es xs (u ∷ ts) c a t (inr (b, more, others, is, are, says, all)) it =
    inr (b, more ++ event_at limits c ∷ [], others ++ a ∷ [], ap (λ l. l ++ event_at limits c ∷ []) is, ap (λ l. l ++ a ∷ []) are, says, told_on limits cs more others ts c a t all it)
told_on limits [] (e ∷ es) xs ts c a t all it = absurd all
told_on limits [] [] (x ∷ xs) ts c a t all it = absurd all
told_on limits [] [] [] (u ∷ ts) c a t all it = absurd all
told_on limits (d ∷ cs) es xs [] c a t all it = absurd all

-- one more call, which is none
pub unread_on : (limits : Limits) (cs : List Call) (es : List Event) (xs : List Answer) (ts : List Response) (c : Call) (t : Response) → AreTold limits cs es xs ts → IsUnread c t → AreTold limits (cs ++ c ∷ []) es xs (ts ++ t ∷ [])
unread_on limits [] [] [] [] c t all it = inl (it, tt)
unread_on limits (d ∷ cs) es xs (u ∷ ts) c t (inl (unread, all)) it = inl (unread, unread_on limits cs es xs ts c t all it)
unread_on limits (d ∷ cs) es xs (u ∷ ts) c t (inr (b, more, others, is, are, says, all)) it = inr (b, more, others, is, are, says, unread_on limits cs more others ts c t all it)
unread_on limits [] (e ∷ es) xs ts c t all it = absurd all
unread_on limits [] [] (x ∷ xs) ts c t all it = absurd all
unread_on limits [] [] [] (u ∷ ts) c t all it = absurd all
unread_on limits (d ∷ cs) es xs [] c t all it = absurd all

-- one call is told what a request or a command is
module _ {S : Type 0} (g : Ghosts S) (limits : Limits) (c : Call) (old new : Tables S) where
  pub told_request : (r : ApiRequest) (reply : Reply) → c ≡ Request r → IsReplied g limits (request_of limits r).digest (request_of limits r).asked reply old new → IsTold g limits c (Replied reply) old new
  told_request r reply same is = subst (λ it. IsTold g limits it (Replied reply) old new) (sym same) (λ clean s h. is clean s h)

  -- a request is an event that may come, or was not read
  pub read_request : (r : ApiRequest) (reply : Reply) → c ≡ Request r → (IsFit (event_of (request_of limits r)) ⊎ ((reply ≡ Denied rule.S1) × (new ≡ old))) → IsFit (event_at limits c) ⊎ (IsUnread c (Replied reply) × (new ≡ old))
  read_request r reply same (inl fit) = inl (subst (λ it. IsFit (event_at limits it)) (sym same) fit)
  read_request r reply same (inr (is, kept)) = inr (subst (λ it. IsUnread it (Replied reply)) (sym same) (ap Replied is), kept)

  pub read_command : (command : AdminCommand) (told : Response) → c ≡ Commanded command → IsFitCall c → IsFit (event_at limits c) ⊎ (IsUnread c told × (new ≡ old))
  read_command command told same fit = inl (subst (λ it. IsFitCall it → IsFit (event_at limits it)) (sym same) (λ is. is) fit)

  pub told_command : (command : AdminCommand) (it : Result AdminReply AdminRefusal) → c ≡ Commanded command → IsAnswered g limits (Order (command_of command)) (reply_of it) old new → IsTold g limits c (Obeyed it) old new
  told_command command it same is = subst (λ x. IsTold g limits x (Obeyed it) old new) (sym same) (λ clean s h. (reply_of it, refl, is clean s h))

module _ {S : Type 0} (g : Ghosts S) (limits : Limits) (s : Registry) (entry : Tables S) (sounds : RunsKeepSound) (grows : StemsGrow) where
  abbrev Leaves : List Event → List Answer → Option ℕ → Tables S → Type 0
  Leaves es xs stop new = (db : Trees) → (shown g new).may_leave db → ((shown g entry).may_leave db × AreNoRoom es xs) ⊎ ((m : Registry) × Stands m db × MayBeLeft limits s es xs stop m)

  abbrev StaysShut : List Event → List Answer → Tables S → Type 0
  StaysShut es xs new = is_stopped entry ≡ true → AreNoRoom es xs × (is_stopped new ≡ true) × LeavesNoMore g entry new

  ran : (es : List Event) (xs : List Answer) (t : Registry) (new : Tables S) → Run limits s es xs t → StandsIn t (shown g new) → (stop : Option ℕ) → StopsAt (is_stopped entry) (is_stopped new) es stop → Leaves es xs stop new → StaysShut es xs new → Ran g limits s entry es xs t new
  ran es xs t new run shows stop stops left shut = record {
    run = run;
    sound = λ h. sounds limits s t es xs h run;
    grows = grows limits s t es xs run;
    shows = shows;
    stop = stop;
    stops = stops;
    left = left;
    shut = shut;
  }

  -- what a crash leaves that is the state after all events
  all_left : (es : List Event) (xs : List Answer) (stop : Option ℕ) (t : Registry) → Run limits s es xs t → MayBeLeft limits s es xs stop t
  all_left es xs stop t run = record {
    first = es;
    rest = [];
    told = xs;
    untold = [];
    at = t;
    events = sym (append-nil es);
    answers = sym (append-nil xs);
    run = run;
    unavailable = tt;
    state = inl refl;
    sound = λ h. sounds limits s t es xs h run;
  }

  -- no event yet
  pub ran_nothing : StandsIn s (shown g entry) → Ran g limits s entry [] [] s entry
  ran_nothing shows = ran [] [] s entry refl shows None refl (λ db l. inl (l, tt)) (λ was. (tt, was, λ db l. l))

  -- there was no room for any event
  none_left : (es : List Event) (xs : List Answer) (stop : Option ℕ) → AreNoRoom es xs → MayBeLeft limits s es xs stop s
  none_left es xs stop none = record { first = []; rest = es; told = []; untold = xs; at = s; events = refl; answers = refl; run = refl; unavailable = none; state = inl refl; sound = λ h. h }

  -- what a crash leaves of a registry that it left alone on entry
  pub left_alone : (es : List Event) (xs : List Answer) (t : Registry) (new : Tables S) → LeavesAlone s (shown g entry) → (it : Ran g limits s entry es xs t new) → (db : Trees) → (shown g new).may_leave db → (m : Registry) × Stands m db × MayBeLeft limits s es xs it.stop m
  left_alone es xs t new alone it db l = elim (it.left db l) [
    | inl was ↦ (s, alone db was.0, none_left es xs it.stop was.1)
    | inr may ↦ may
  ]

  module _ (steps : StepsRun) (joins : RunsJoin) (es : List Event) (xs : List Answer) (t : Registry) (e : Event) (a : Answer) (old new : Tables S) (fit : IsFit e) (so_far : Ran g limits s entry es xs t old) (it : Answers g limits t e a old new) where
    run_on : Run limits s (es ++ e ∷ []) (xs ++ a ∷ []) it.after
    run_on = joins limits s t it.after es (e ∷ []) xs (a ∷ []) so_far.run (steps limits t it.after e a fit it.step)

    -- the event keeps it sound, also where it is not acknowledged
    done_sound : Sound t → Sound (outcome limits t e).1
    done_sound h = sounds limits t (outcome limits t e).1 (e ∷ []) ((outcome limits t e).0 ∷ []) h (steps limits t (outcome limits t e).1 e (outcome limits t e).0 fit (inl (refl, refl)))

    -- the place at which it stops: that where it had, or this event, where it stops now
    module _ (stop : Option ℕ) (same : (before : ℕ) → so_far.stop ≡ Some before → stop ≡ Some before) (here : is_stopped old ≡ false → is_stopped new ≡ true → stop ≡ Some (length es)) where
      -- there was no room: what could be left before
      left_before : (m : Registry) → a ≡ unavailable e → MayBeLeft limits s es xs so_far.stop m → MayBeLeft limits s (es ++ e ∷ []) (xs ++ a ∷ []) stop m
      left_before m room was = record {
        first = was.first;
        rest = was.rest ++ e ∷ [];
        told = was.told;
        untold = was.untold ++ a ∷ [];
        at = was.at;
        events = ap (λ l. l ++ e ∷ []) was.events ∙ append_assoc was.first was.rest (e ∷ []);
        answers = ap (λ l. l ++ a ∷ []) was.answers ∙ append_assoc was.told was.untold (a ∷ []);
        run = was.run;
        unavailable = no_room_on was.rest was.untold e a was.unavailable room;
        state = elim was.state [ inl is ↦ inl is | inr (at, f, more, is, change) ↦ inr (same (length was.first) at, f, more ++ e ∷ [], ap (λ l. l ++ e ∷ []) is, change) ];
        sound = was.sound;
      }

      -- or the registry without this event, or with it
      left_last : (m : Registry) → a ≡ unavailable e → (m ≡ t) ⊎ ((stop ≡ Some (length es)) × (m ≡ (outcome limits t e).1)) → MayBeLeft limits s (es ++ e ∷ []) (xs ++ a ∷ []) stop m
      left_last m room is = record {
        first = es;
        rest = e ∷ [];
        told = xs;
        untold = a ∷ [];
        at = t;
        events = refl;
        answers = refl;
        run = so_far.run;
        unavailable = (room, tt);
        state = elim is [ inl kept ↦ inl kept | inr (at, change) ↦ inr (at, e, [], refl, change) ];
        sound = λ h. elim is [ inl kept ↦ subst Sound (sym kept) (so_far.sound h) | inr (at, change) ↦ subst Sound (sym change) (done_sound (so_far.sound h)) ];
      }

      -- or it was answered as it was done
      left_done : a ≡ (outcome limits t e).0 → MayBeLeft limits s (es ++ e ∷ []) (xs ++ a ∷ []) stop (outcome limits t e).1
      left_done done =
          all_left (es ++ e ∷ []) (xs ++ a ∷ []) stop (outcome limits t e).1 (joins limits s t (outcome limits t e).1 es (e ∷ []) xs (a ∷ []) so_far.run (steps limits t (outcome limits t e).1 e a fit (inl (done, refl))))

      left_on : Leaves (es ++ e ∷ []) (xs ++ a ∷ []) stop new
      left_on db l = elim it.kept [
        | inl room ↦ elim (it.left db l) [
          | inl was ↦ elim (so_far.left db was) [
            | inl (first, none) ↦ inl (first, no_room_on es xs e a none room)
            | inr (m, stands, may) ↦ inr (m, stands, left_before m room may)
          ]
          | inr (inl (done, stands)) ↦ inr ((outcome limits t e).1, stands, left_done done)
          | inr (inr refused) ↦ elim refused.leaves [
            | inl stands ↦ inr (t, stands, left_last t room (inl refl))
            | inr (faults, stands) ↦ inr ((outcome limits t e).1, stands, left_last (outcome limits t e).1 room (inr (here refused.went_on refused.stops, refl)))
          ]
        ]
        | inr alone ↦ inr (it.after, alone db l, all_left (es ++ e ∷ []) (xs ++ a ∷ []) stop it.after run_on)
      ]

      stopped_so : StopsAt (is_stopped entry) (is_stopped new) (es ++ e ∷ []) stop → Ran g limits s entry (es ++ e ∷ []) (xs ++ a ∷ []) it.after new
      stopped_so stops =
          ran (es ++ e ∷ []) (xs ++ a ∷ []) it.after new run_on it.shows stop stops left_on
          (λ was. let (none, still, no_more) = so_far.shut was in let (room, stays, least) = it.shut still in (no_room_on es xs e a none room, stays, λ db l. no_more db (least db l)))

    -- by whether it had stopped, and whether it has now
    by_stop : (o : Option ℕ) → so_far.stop ≡ o → (was now : Bool) → is_stopped old ≡ was → is_stopped new ≡ now → Ran g limits s entry (es ++ e ∷ []) (xs ++ a ∷ []) it.after new
    by_stop (Some before) is was now old_is new_is =
        let (went_on, had, place) = subst (StopsAt (is_stopped entry) (is_stopped old) es) is so_far.stops in
        stopped_so (Some before) (λ other at. sym is ∙ at) (λ on stops. absurd (false≢true (sym on ∙ had)))
        (went_on, (it.shut had).1, omega (arith, place, length_push es e))
    by_stop None is true now old_is new_is =
        let same = subst (StopsAt (is_stopped entry) (is_stopped old) es) is so_far.stops in
        stopped_so None (λ other at. sym is ∙ at) (λ on stops. absurd (false≢true (sym on ∙ old_is))) ((it.shut old_is).1 ∙ sym old_is ∙ same)
    by_stop None is false true old_is new_is =
        let same = subst (StopsAt (is_stopped entry) (is_stopped old) es) is so_far.stops in
        stopped_so (Some (length es)) (λ other at. absurd (some_none other (sym at ∙ is))) (λ on stops. refl)
        (sym same ∙ old_is, new_is, omega (arith, length_push es e))
    by_stop None is false false old_is new_is =
        let same = subst (StopsAt (is_stopped entry) (is_stopped old) es) is so_far.stops in
        stopped_so None (λ other at. sym is ∙ at) (λ on stops. absurd (false≢true (sym new_is ∙ stops))) (new_is ∙ sym old_is ∙ same)

    pub ran_on : Ran g limits s entry (es ++ e ∷ []) (xs ++ a ∷ []) it.after new
    ran_on = by_stop so_far.stop refl (is_stopped old) (is_stopped new) refl refl

  -- no call yet
  pub answered_nothing : StandsIn s (shown g entry) → HasAnswered g limits s entry [] [] entry
  answered_nothing shows = ([], [], s, tt, ran_nothing shows)

  -- one more call
  pub answered_on : StepsRun → RunsJoin → (cs : List Call) (ts : List Response) (c : Call) (it : Response) (old new : Tables S) → IsFit (event_at limits c) ⊎ (IsUnread c it × (new ≡ old)) → HasCleanDisk (shown g new) → HasAnswered g limits s entry cs ts old → IsTold g limits c it old new → HasAnswered g limits s entry (cs ++ c ∷ []) (ts ++ it ∷ []) new
  answered_on steps joins cs ts c it old new (inl fit) clean (es, xs, t, tells, so_far) told =
      let (a, says, answers) = told clean t so_far.shows in (
        es ++ event_at limits c ∷ [],
        xs ++ a ∷ [],
        answers.after,
        told_on limits cs es xs ts c a it tells says,
        ran_on steps joins es xs t (event_at limits c) a old new fit so_far answers,
      )
  answered_on steps joins cs ts c it old new (inr (unread, kept)) clean (es, xs, t, tells, so_far) told =
      (es, xs, t, unread_on limits cs es xs ts c it tells unread, subst (Ran g limits s entry es xs t) (sym kept) so_far)

  -- the call at this place
  pub answered_next : StepsRun → RunsJoin → (cs : List Call) (i : ℕ) (c : Call) (ts : List Response) (it : Response) (old new : Tables S) → i < length cs → c ≡ get_or cs i c → IsFit (event_at limits c) ⊎ (IsUnread c it × (new ≡ old)) → HasCleanDisk (shown g new) → HasAnswered g limits s entry (take i cs) ts old → IsTold g limits c it old new → HasAnswered g limits s entry (take (i + 1) cs) (ts ++ it ∷ []) new
  answered_next steps joins cs i c ts it old new lt is read clean so_far told =
      let next : suc i ≡ i + 1 = omega arith in
      subst (λ l. HasAnswered g limits s entry l (ts ++ it ∷ []) new) (ap (λ x. take i cs ++ x ∷ []) is ∙ sym (take-suc cs i c lt) ∙ ap (λ n. take n cs) next)
      (answered_on steps joins (take i cs) ts c it old new read clean so_far told)

-- where there is no answer, nothing is said of it
pub no_told : {T E : Type 0} (P : T → Type 0) (r : Result T E) → IsErr r → IfOk r P
no_told P (Ok x) is = absurd (false≢true is)
no_told P (Err e) is = tt

-- each call brings what an event may bring
pub fit_at : (cs : List Call) (i : ℕ) (c : Call) → AllByRecursion IsFitCall cs → i < length cs → c ≡ get_or cs i c → IsFitCall c
fit_at cs i c fit lt is = subst IsFitCall (sym is) (All-from_recursion IsFitCall cs fit i c lt)
