-- What the ends of a transaction make of an event.
use Rattle.reg_service.proofs.Words.{◌≡◌, ◌⊎◌, inl, inr, false, refl, sym, ap, subst, ◌∙◌, arith, IsTrue, false≢true, Trees, Database}
use Rattle.reg_service.proofs.Words.{Ghosts, Held, state, State, HasCleanDisk, Survives, Limits, Registry, Event, Answer, IsFit, Step}
use Rattle.reg_service.proofs.Words.{unavailable, outcome, StepsKeepSound, IsUndone, LeavesCommit, Refuses, Stands, Begins, IsCommitted}
use Rattle.reg_service.proofs.Words.{IsDropped, IsRefused, SeesAll, Looks, AreOurs, IsLeft, has_failed, is_stopped, held, rows_seen, seen}
use Rattle.reg_service.proofs.Words.{shown, Tables, Work, Answers, StandsSound, LeavesAlone, StandsIn, Stays, HasSchema, Second}
use Rattle.sqlite_disk.specs.Disk.{MoreFaults}
use Rattle.sqlite.specs.State.{IsUnchanged}
use Rattle.reg_service.specs.Answered.{LeavesRefused}

held_unchanged : (s : Registry) (old new : State) → StandsIn s old → IsUnchanged old new → StandsIn s new
held_unchanged s old new held same up = subst (λ (d : Database). StandsSound s d.trees) (sym same.0.now_is) (held same.0.was_open)

-- all is as it was
pub stayed : {S : Type 0} (g : Ghosts S) (limits : Limits) (s : Registry) (e : Event) (a : Answer) (old new : Tables S) → is_stopped old ≡ false → Step limits s e a s → Stays g s old new → Answers g limits s e a old new
stayed g limits s e a old new goes_on step stays = record { after = s; step = step; shows = stays.shows; kept = inr stays.alone; left = λ db l. inl (stays.left db l); shut = λ was. absurd (false≢true (sym goes_on ∙ was)) }

module _ {S : Type 0} (g : Ghosts S) (limits : Limits) (s : Registry) (e : Event) (a : Answer) (old new : Tables S) (ours : AreOurs g old) (h : StandsIn s (shown g old)) (clean : HasCleanDisk (shown g new)) where
  -- what was held is held where the state is the one that was committed
  held_again : HasCleanDisk (shown g old) → (IsTrue (shown g new).is_open → IsTrue (shown g old).is_open) → (IsTrue (shown g new).is_open → (shown g new).now ≡ (shown g old).committed) → StandsIn s (shown g new)
  held_again early was back up =
      let same = back up ∙ sym (ours early (was up)).settled in
      subst (λ (d : Database). StandsSound s d.trees) (sym same) (h (was up))

  still : IsLeft g old new → (held new ≡ held old) ⊎ Refuses (shown g old) (shown g new) → StandsIn s (shown g new)
  still left (inl same) = subst (λ (it : Held S). StandsIn s (state g it)) (sym same) h
  still left (inr (inl same)) = held_unchanged s (shown g old) (shown g new) h same
  still left (inr (inr back)) = held_again (omega (arith, clean, left.survives.clean)) back.was_open (λ up. (back.undone up).0)

  -- no transaction was begun
  pub not_begun : a ≡ unavailable e → IsLeft g old new → Answers g limits s e a old new
  not_begun room left = record {
    after = s;
    step = inr (room, refl);
    shows = still left (left.refused clean);
    kept = inl room;
    left = λ db l. elim (left.survives.crash clean db l) [ inl was ↦ inl was | inr none ↦ absurd none ];
    shut = λ was. (room, left.shut ∙ was, λ db l. elim (left.survives.crash clean db l) [ inl was ↦ was | inr none ↦ absurd none ]);
  }

  -- the tables were only looked at, after all stayed as it was
  pub left_on : (was : Tables S) → Stays g s was old → IsLeft g old new → Stays g s was new
  left_on was stays left = record {
    shows = still left (left.refused clean);
    alone = λ db l. elim (left.survives.crash clean db l) [ inl at ↦ stays.alone db at | inr none ↦ absurd none ];
    left = λ db l. elim (left.survives.crash clean db l) [ inl at ↦ stays.left db at | inr none ↦ absurd none ];
  }

  module _ (begun done : Work S) (b : Begins g SeesAll old begun) (looks : Looks g begun done) (mid : HasCleanDisk (seen g done)) where
    early : HasCleanDisk (seen g begun)
    early = omega (arith, mid, looks.survives.clean)

    first : HasCleanDisk (shown g old)
    first = let at = early in omega (arith, at, b.survives.clean)

    was_held : StandsSound s (shown g old).now.trees
    was_held = h (b.view early).was_open

    pub sees : StandsSound s (rows_seen g begun)
    sees = subst (λ (d : Database). StandsSound s d.trees) (sym (b.view early).now_is) was_held

    -- what a crash may leave within it, it could leave before
    before : (db : Trees) → (seen g done).may_leave db → (shown g old).may_leave db
    before db l = elim (looks.survives.crash mid db l) [ inl at ↦ elim (b.survives.crash early db at) [ inl was ↦ was | inr none ↦ absurd none ] | inr none ↦ absurd none ]

    shows_undone : IsUndone (seen g done) (shown g new) → StandsIn s (shown g new)
    shows_undone back = held_again first (λ _. (b.view early).was_open) (λ up. (back.undone up).0 ∙ (looks.kept mid).committed (back.was_open up) ∙ (b.view early).committed_is)

    -- what is shown is what it saw
    pub shows_begun : IsUndone (seen g done) (shown g new) → IsTrue (shown g new).is_open → (shown g new).now ≡ (seen g begun).now
    shows_begun back up =
        let view = b.view early in
        (back.undone up).0 ∙ (looks.kept mid).committed (back.was_open up) ∙ view.committed_is ∙ sym (view.now_is ∙ (ours first view.was_open).settled)

    pub committed : StepsKeepSound → IsFit e → (StandsSound s (rows_seen g begun) → (a ≡ (outcome limits s e).0) × Stands (outcome limits s e).1 (rows_seen g done)) → IsCommitted g done new → Answers g limits s e a old new
    committed law fit has end =
        let t = (outcome limits s e).1 in
        let step : Step limits s e a t = inl ((has sees).0, refl) in
        let shows = end.kept clean in
        let leaves : LeavesAlone t (shown g new) = λ db l. subst (λ (trees : Trees). Stands t trees) (sym (end.alone clean db l ∙ ap (λ (d : Database). d.trees) shows.committed_is)) (has sees).1 in
        let stands = (has sees).1 in
        let known : StandsSound t (rows_seen g done) = (stands.0, record { sound = law limits s t e a fit sees.1.sound step; stands = stands.1 }) in
        record {
          after = t;
          step = step;
          shows = λ up. subst (λ (d : Database). StandsSound t d.trees) (sym shows.now_is) known;
          kept = inr leaves;
          left = λ db l. inr (inl ((has sees).0, leaves db l));
          shut = λ was. absurd (false≢true (sym b.was_open ∙ was));
        }

    -- a commit that was refused leaves the registry as it was, or the disk failed
    refused_leaves : (t : Registry) → IsRefused g done new → has_failed done ≡ false → (db : Trees) → (shown g new).may_leave db → Stands t db → LeavesRefused g s t old new db
    refused_leaves t end whole db l stands = record { went_on = b.was_open; stops = end.shut whole; leaves = leaves }
      where
        up : IsTrue (seen g done).is_open
        up = (looks.at_work.ready whole mid).is_open

        last : (seen g done).committed ≡ (shown g old).now
        last = (looks.kept mid).committed up ∙ (b.view early).committed_is ∙ sym (ours first (b.view early).was_open).settled

        leaves : Stands s db ⊎ (MoreFaults (shown g old).faults (shown g new).faults × Stands t db)
        leaves = elim (end.alone clean up) [
          | inl only ↦ inl (subst (λ (trees : Trees). Stands s trees) (sym (only db l ∙ ap (λ (d : Database). d.trees) last)) (was_held.0, was_held.1.stands))
          | inr faults ↦ inr (omega (arith, faults, looks.survives.counts, b.survives.counts), stands)
        ]

    pub not_committed : (StandsSound s (rows_seen g begun) → Stands (outcome limits s e).1 (rows_seen g done)) → a ≡ unavailable e → IsRefused g done new
        → Survives (seen g done) (shown g new) (λ db. (has_failed done ≡ false) × (db ≡ (seen g done).now.trees) × HasSchema Second db) → Answers g limits s e a old new
    not_committed has room end survives =
        let t = (outcome limits s e).1 in
        record {
          after = s;
          step = inr (room, refl);
          shows = shows_undone (end.undone clean);
          kept = inl room;
          left = λ db l. elim (survives.crash clean db l) [
            | inl at ↦ inl (before db at)
            | inr (whole, same, ours) ↦ inr (inr (refused_leaves t end whole db l (subst (λ (trees : Trees). Stands t trees) (sym same) (has sees))))
          ];
          shut = λ was. absurd (false≢true (sym b.was_open ∙ was));
        }

    pub dropped_so : IsDropped g done new → (IsTrue (shown g old).is_open → LeavesCommit (shown g old)) → Stays g s old new
    dropped_so end alone =
        let was : (db : Trees) → (shown g new).may_leave db → (shown g old).may_leave db = λ db l. elim (end.survives.crash clean db l) [ inl at ↦ before db at | inr none ↦ absurd none ] in
        let settled = (ours first (b.view early).was_open).settled in
        record {
          shows = shows_undone (end.undone clean);
          alone = λ db l. subst (λ (trees : Trees). Stands s trees) (ap (λ (d : Database). d.trees) settled ∙ sym (alone (b.view early).was_open db (was db l))) (was_held.0, was_held.1.stands);
          left = was;
        }

    pub dropped : (StandsSound s (rows_seen g begun) → Step limits s e a s) → IsDropped g done new → (IsTrue (shown g old).is_open → LeavesCommit (shown g old)) → Answers g limits s e a old new
    dropped refuses end alone = stayed g limits s e a old new b.was_open (refuses sees) (dropped_so end alone)

-- nothing was called
pub untouched : {S : Type 0} (g : Ghosts S) (limits : Limits) (s : Registry) (e : Event) (a : Answer) (t : Tables S) → StandsIn s (shown g t) → a ≡ unavailable e → Answers g limits s e a t t
untouched g limits s e a t h room = record { after = s; step = inr (room, refl); shows = h; kept = inl room; left = λ db l. inl l; shut = λ was. (room, was, λ db l. l) }
