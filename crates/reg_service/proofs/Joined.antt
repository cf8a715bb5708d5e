-- A run, and one from the registry that it led to, are one run.
use Rattle.reg_service.proofs.Words.{◌≡◌, ◌∙◌, ◌++◌, ◌+◌, ◌<◌, ◌⊎◌, ℕ, false, true, Option, None, Some, arith, inl, inr, length, List, [], ◌∷◌, refl, sym, ap, subst}
use Rattle.reg_service.proofs.Words.{Trees, Ghosts, Limits, Answer, Event, Registry, Stands, Tables, is_stopped, shown, false≢true}
use Rattle.reg_service.proofs.Words.{HasCleanDisk}
use Rattle.std.proofs.lemmas.Bool.{cases_Bool}
use Rattle.std.proofs.lemmas.List.{append_assoc, length-append}
use Rattle.reg_service.specs.Looked.{WasTried}
use Rattle.reg_model.specs.Laws.{RunsJoin, RunsKeepSound, StemsGrow}
use Rattle.reg_service.specs.Sequences.{AreNoRoom, MayBeLeft, Ran, StopsAt}

no_room_all : (es : List Event) (xs : List Answer) (fs : List Event) (ys : List Answer) → AreNoRoom es xs → AreNoRoom fs ys → AreNoRoom (es ++ fs) (xs ++ ys)
no_room_all [] [] fs ys none more = more
no_room_all (e ∷ es) (x ∷ xs) fs ys none more = (none.0, no_room_all es xs fs ys none.1 more)
no_room_all [] (x ∷ xs) fs ys none more = absurd none
no_room_all (e ∷ es) [] fs ys none more = absurd none

no_place : (n : ℕ) → ◌≡◌ {A = Option ℕ} None (Some n) → ⊥
no_place n e = cc

module _ {S : Type 0} (g : Ghosts S) (limits : Limits) (sounds : RunsKeepSound) (grows : StemsGrow) (joins : RunsJoin) (s t u : Registry) (entry mid new : Tables S) (es fs : List Event) (xs ys : List Answer)
    (a : Ran g limits s entry es xs t mid) (b : Ran g limits t mid fs ys u new) where
  -- the place at which it stops: that of the first run, or else that of the second
  module _ (stop : Option ℕ) (first : (k : ℕ) → a.stop ≡ Some k → stop ≡ Some k) (then : (k : ℕ) → b.stop ≡ Some k → stop ≡ Some (length es + k)) where
    left_first : (m : Registry) → AreNoRoom fs ys → MayBeLeft limits s es xs a.stop m → MayBeLeft limits s (es ++ fs) (xs ++ ys) stop m
    left_first m none was = record {
      first = was.first;
      rest = was.rest ++ fs;
      told = was.told;
      untold = was.untold ++ ys;
      at = was.at;
      events = ap (λ l. l ++ fs) was.events ∙ append_assoc was.first was.rest fs;
      answers = ap (λ l. l ++ ys) was.answers ∙ append_assoc was.told was.untold ys;
      run = was.run;
      unavailable = no_room_all was.rest was.untold fs ys was.unavailable none;
      state = elim was.state [ inl is ↦ inl is | inr (at, f, more, is, change) ↦ inr (first (length was.first) at, f, more ++ fs, ap (λ l. l ++ fs) is, change) ];
      sound = was.sound;
    }

    left_then : (m : Registry) → MayBeLeft limits t fs ys b.stop m → MayBeLeft limits s (es ++ fs) (xs ++ ys) stop m
    left_then m is = record {
      first = es ++ is.first;
      rest = is.rest;
      told = xs ++ is.told;
      untold = is.untold;
      at = is.at;
      events = ap (λ l. es ++ l) is.events ∙ sym (append_assoc es is.first is.rest);
      answers = ap (λ l. xs ++ l) is.answers ∙ sym (append_assoc xs is.told is.untold);
      run = joins limits s t is.at es is.first xs is.told a.run is.run;
      unavailable = is.unavailable;
      state = elim is.state [ inl same ↦ inl same | inr (at, f, more, rest, change) ↦ inr (then (length is.first) at ∙ ap Some (sym (length-append es is.first)), f, more, rest, change) ];
      sound = λ h. is.sound (a.sound h);
    }

    joined_so : StopsAt (is_stopped entry) (is_stopped new) (es ++ fs) stop → Ran g limits s entry (es ++ fs) (xs ++ ys) u new
    joined_so stops = record {
      run = joins limits s t u es fs xs ys a.run b.run;
      sound = λ h. b.sound (a.sound h);
      grows = grows limits s u (es ++ fs) (xs ++ ys) (joins limits s t u es fs xs ys a.run b.run);
      shows = b.shows;
      stop = stop;
      stops = stops;
      left = λ db l. elim (b.left db l) [
        | inl (was, none) ↦ elim (a.left db was) [
          | inl (start, nothing) ↦ inl (start, no_room_all es xs fs ys nothing none)
          | inr (m, stands, may) ↦ inr (m, stands, left_first m none may)
        ]
        | inr (m, stands, may) ↦ inr (m, stands, left_then m may)
      ];
      shut = λ was.
          let (nothing, still, no_more) = a.shut was in
          let (none, stays, least) = b.shut still in
          (no_room_all es xs fs ys nothing none, stays, λ db l. no_more db (least db l));
    }

  joined_by : (o p : Option ℕ) → a.stop ≡ o → b.stop ≡ p → Ran g limits s entry (es ++ fs) (xs ++ ys) u new
  joined_by (Some k) p is so =
      let (went_on, had, place) = subst (StopsAt (is_stopped entry) (is_stopped mid) es) is a.stops in
      joined_so (Some k) (λ j at. sym is ∙ at) (λ j at. absurd (false≢true (sym (subst (StopsAt (is_stopped mid) (is_stopped new) fs) at b.stops).0 ∙ had)))
      (went_on, (b.shut had).1, omega (arith, place, length-append es fs))
  joined_by None (Some k) is so =
      let same = subst (StopsAt (is_stopped entry) (is_stopped mid) es) is a.stops in
      let (went_on, stops, place) = subst (StopsAt (is_stopped mid) (is_stopped new) fs) so b.stops in
      joined_so (Some (length es + k)) (λ j at. absurd (no_place j (sym is ∙ at))) (λ j at. ap (λ (o : Option ℕ). elim o [ None ↦ None | Some i ↦ Some (length es + i) ]) (sym so ∙ at))
      (sym same ∙ went_on, stops, omega (arith, place, length-append es fs))
  joined_by None None is so =
      let same = subst (StopsAt (is_stopped entry) (is_stopped mid) es) is a.stops in
      joined_so None (λ j at. absurd (no_place j (sym is ∙ at))) (λ j at. absurd (no_place j (sym so ∙ at))) (subst (StopsAt (is_stopped mid) (is_stopped new) fs) so b.stops ∙ same)

  pub joined : Ran g limits s entry (es ++ fs) (xs ++ ys) u new
  joined = joined_by a.stop b.stop refl refl

-- it was tried whether the store answers, and it does
pub tried : {S : Type 0} (g : Ghosts S) (limits : Limits) (s t : Registry) (entry mid new : Tables S) (es : List Event) (xs : List Answer) → Ran g limits s entry es xs t mid → WasTried g mid new → HasCleanDisk (shown g new) → is_stopped new ≡ false → Ran g limits s entry es xs t new
tried g limits s t entry mid new es xs a it clean goes_on = record {
  run = a.run;
  sound = a.sound;
  grows = a.grows;
  shows = it.shows clean t a.shows;
  stop = a.stop;
  stops = subst (λ b. StopsAt (is_stopped entry) b es a.stop) (was ∙ sym goes_on) a.stops;
  left = λ db l. a.left db (it.left clean db l);
  shut = λ shut. absurd (false≢true (sym was ∙ (a.shut shut).1));
}
  where
    was : is_stopped mid ≡ false
    was = elim (cases_Bool (is_stopped mid)) [ inl had ↦ absurd (false≢true (sym goes_on ∙ it.stays had)) | inr had ↦ had ]
