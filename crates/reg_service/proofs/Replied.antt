-- What the ends of a transaction make of a request.
use Rattle.reg_service.proofs.Words.{◌≡◌, inl, inr, false, refl, sym, ap, subst, IsTrue, Option, Some, ℕ, Database, HasCleanDisk, Survives}
use Rattle.reg_service.proofs.Words.{Ghosts, Limits, Answer, Asked, Event, Ask, StepsKeepSound, Registry, Text, IsFit, Outcome, outcome}
use Rattle.reg_service.proofs.Words.{Reply, Denied, LeavesCommit, FilesAreRows, FoundFile, Serves, Done, Seeks, Sends, ReadOnly, Begins}
use Rattle.reg_service.proofs.Words.{IsCommitted, IsDropped, IsRefused, SeesAll, Looks, AreOurs, IsLeft, has_failed, rows_seen, seen, shown}
use Rattle.reg_service.proofs.Words.{Tables, Work, StandsSound, StandsIn, Stays, RepliesTo, Sought, Finds, HasSchema, Second}
use Rattle.reg_model.specs.declared.rule.Rule.TheVariants as rule
use Rattle.reg_model.specs.Effects.{served}
use Rattle.reg_model.specs.Events.Answer.{Denied as to_denied}
use Rattle.reg_tables_represent.specs.Stands.{StandsSoundBy}
use Rattle.reg_service_index.specs.Found.{file_at}
use Rattle.reg_service.proofs.Frames as frame

module _ {S : Type 0} (g : Ghosts S) (limits : Limits) (s : Registry) (digest : Option Text) (asked : Asked) (old new : Tables S) (ours : AreOurs g old) (h : StandsIn s (shown g old)) (clean : HasCleanDisk (shown g new)) where
  abbrev pub e : Event
  e = Ask digest asked

  -- there was no room
  pub not_begun : IsLeft g old new → RepliesTo g limits s digest asked (Denied rule.S1) old new
  not_begun left = (to_denied rule.S1, refl, frame.not_begun g limits s e (to_denied rule.S1) old new ours h clean refl left)

  module _ (begun done : Work S) (b : Begins g SeesAll old begun) (looks : Looks g begun done) (mid : HasCleanDisk (seen g done)) where
    -- what the transaction sees
    pub sees : StandsSound s (rows_seen g begun)
    sees = frame.sees g limits s e (to_denied rule.S1) old new ours h clean begun done b looks mid

    pub failed : IsDropped g done new → (IsTrue (shown g old).is_open → LeavesCommit (shown g old)) → RepliesTo g limits s digest asked (Denied rule.S1) old new
    failed end alone = (to_denied rule.S1, refl, frame.dropped g limits s e (to_denied rule.S1) old new ours h clean begun done b looks mid (λ are. inr (refl, refl)) end alone)

    pub told : (reply : Reply) → Serves limits digest asked (rows_seen g begun) (rows_seen g done) (ReadOnly reply) → IsDropped g done new → (IsTrue (shown g old).is_open → LeavesCommit (shown g old)) → RepliesTo g limits s digest asked reply old new
    told reply serves end alone =
        let are = frame.sees g limits s e (to_denied rule.S1) old new ours h clean begun done b looks mid in
        let it = serves are.0 s are.1 in
        ((outcome limits s e).0, it.0, frame.dropped g limits s e (outcome limits s e).0 old new ours h clean begun done b looks mid (λ are. inl (refl, sym it.1)) end alone)

    pub committed : StepsKeepSound → IsFit e → (reply : Reply) → Serves limits digest asked (rows_seen g begun) (rows_seen g done) (Done reply) → IsCommitted g done new → RepliesTo g limits s digest asked reply old new
    committed law fit reply serves end =
        let are = frame.sees g limits s e (to_denied rule.S1) old new ours h clean begun done b looks mid in
        let it = serves are.0 s are.1 in
        ((outcome limits s e).0, it.0, frame.committed g limits s e (outcome limits s e).0 old new ours h clean begun done b looks mid law fit (λ are. (refl, it.1)) end)

    pub not_committed : (reply : Reply) → Serves limits digest asked (rows_seen g begun) (rows_seen g done) (Done reply) → IsRefused g done new
        → Survives (seen g done) (shown g new) (λ db. (has_failed done ≡ false) × (db ≡ (seen g done).now.trees) × HasSchema Second db) → RepliesTo g limits s digest asked (Denied rule.S1) old new
    not_committed reply serves end survives =
        (to_denied rule.S1, refl, frame.not_committed g limits s e (to_denied rule.S1) old new ours h clean begun done b looks mid (λ are. (serves are.0 s are.1).1) refl end survives)

    -- an index file was found
    pub found : FilesAreRows → (f : FoundFile) → Serves limits digest asked (rows_seen g begun) (rows_seen g done) (Sends f) → IsDropped g done new → (IsTrue (shown g old).is_open → LeavesCommit (shown g old)) → Finds g limits s digest asked f old new
    found law f serves end alone =
        let are = frame.sees g limits s e (to_denied rule.S1) old new ours h clean begun done b looks mid in
        let it = serves.1 are.0 s are.1 in
        record {
          path = serves.0.0;
          asks = serves.0.1;
          text = file_at are.0 s f;
          answer = it.0;
          lines = λ up.
              let same = frame.shows_begun g limits s e (to_denied rule.S1) old new ours h clean begun done b looks mid (end.undone clean) up in
              law are.0 s (shown g new).now.trees (subst (λ (d : Database). StandsSoundBy are.0 s d.trees) (sym same) are.1) f;
          len = it.1;
          goes_on = b.was_open;
          stays = frame.dropped_so g limits s e (to_denied rule.S1) old new ours h clean begun done b looks mid end alone;
        }

-- a search, once the transaction is dropped
module _ {S : Type 0} (g : Ghosts S) (limits : Limits) (s : Registry) (digest : Option Text) (asked : Asked) (old at new : Tables S) (ours : AreOurs g old) (h : StandsIn s (shown g old)) (clean : HasCleanDisk (shown g new)) (early : HasCleanDisk (shown g at)) (begun done : Work S) (b : Begins g SeesAll old begun) (looks : Looks g begun done) (mid : HasCleanDisk (seen g done)) where
  abbrev pub o : Answer
  o = to_denied rule.S1

  stays : IsDropped g done at → (IsTrue (shown g old).is_open → LeavesCommit (shown g old)) → Stays g s old at
  stays end alone = frame.dropped_so g limits s (Ask digest asked) o old at ours h early begun done b looks mid end alone

  pub sought : (id : ℕ) (reply : Reply) → Serves limits digest asked (rows_seen g begun) (rows_seen g done) (Seeks id) → IsDropped g done at → (IsTrue (shown g old).is_open → LeavesCommit (shown g old)) → AreOurs g at → IsLeft g at new → (StandsIn s (shown g at) → Sought id asked s reply)
      → RepliesTo g limits s digest asked reply old new
  sought id reply serves end alone again left seeks =
      let kept = stays end alone in
      let on = frame.left_on g limits s (Ask digest asked) o at new again kept.shows clean old kept left in
      let are = frame.sees g limits s (Ask digest asked) o old at ours h early begun done b looks mid in
      let is = serves are.0 s are.1 in
      elim (seeks kept.shows) [
        | inl none ↦ subst (λ r. RepliesTo g limits s digest asked r old new) (sym none) (o, refl, frame.stayed g limits s (Ask digest asked) o old new b.was_open (inr (refl, refl)) on)
        | inr says ↦ (served s (Some id) asked, says, frame.stayed g limits s (Ask digest asked) (served s (Some id) asked) old new b.was_open (inl (ap (λ (it : Outcome). it.0) (sym is), ap (λ (it : Outcome). it.1) (sym is))) on)
      ]

-- nothing was called, for want of memory
pub no_memory : {S : Type 0} (g : Ghosts S) (limits : Limits) (s : Registry) (digest : Option Text) (asked : Asked) (t : Tables S) → StandsIn s (shown g t) → RepliesTo g limits s digest asked (Denied rule.S1) t t
no_memory g limits s digest asked t h = (to_denied rule.S1, refl, frame.untouched g limits s (Ask digest asked) (to_denied rule.S1) t h refl)
