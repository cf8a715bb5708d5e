-- What the ends of a transaction leave of the tables, whatever was asked of them.
use Rattle.reg_service.proofs.Words.{◌≡◌, ◌⊎◌, Result, inl, inr, true, sym, subst, ◌∙◌, arith, false≢true, Database, Held, state}
use Rattle.reg_service.proofs.Words.{HasCleanDisk, Ghosts, Registry, Refuses, Tables, Work, Begins, IsCommitted, IsDropped, IsEnded}
use Rattle.reg_service.proofs.Words.{IsRefused, SeesAll, Looks, AreOurs, IsLeft, held, is_stopped, seen, shown, StandsSound, AreUpToDate, Halts, StandsIn}
use Rattle.reg_service.proofs.Words.{WasClean, Looked}
use Rattle.reg_service.proofs.Words.{LeavesOurs, Second, State, Survives}
use Rattle.reg_tables.specs.Works.{IsTried}
use Rattle.reg_service.specs.Looked.{WasTried}

-- what commits nothing leaves a crash tables of our schema, where it left them before
pub still_ours : (old new : State) → Survives old new (λ _. ⊥) → LeavesOurs Second old → LeavesOurs Second new
still_ours old new survives ours clean db l = elim (survives.crash clean db l) [ inl was ↦ ours (omega (arith, clean, survives.clean)) db was | inr none ↦ absurd none ]

module _ {S : Type 0} (g : Ghosts S) (old : Tables S) where
  still : (new : Tables S) (s : Registry) → AreOurs g old → HasCleanDisk (shown g old) → StandsIn s (shown g old) → (held new ≡ held old) ⊎ Refuses (shown g old) (shown g new) → StandsIn s (shown g new)
  still new s ours first h (inl same) = subst (λ (it : Held S). StandsIn s (state g it)) (sym same) h
  still new s ours first h (inr (inl same)) = λ up. subst (λ (d : Database). StandsSound s d.trees) (sym same.0.now_is) (h same.0.was_open)
  still new s ours first h (inr (inr back)) = λ up. subst (λ (d : Database). StandsSound s d.trees) (sym ((back.undone up).0 ∙ sym (ours first (back.was_open up)).settled)) (h (back.was_open up))

  -- none was begun
  pub left_looked : (new : Tables S) → AreUpToDate g old → IsLeft g old new → Looked g old new
  left_looked new at left = record {
    shows = λ clean s h. still new s at.ours (omega (arith, clean, left.survives.clean)) h (left.refused clean);
    left = λ clean db l. elim (left.survives.crash clean db l) [ inl was ↦ was | inr none ↦ absurd none ];
    tables = record { ours = left.ours; second = left.edition ∙ at.second; left = still_ours (shown g old) (shown g new) left.survives at.left };
    clean = λ clean. omega (arith, clean, left.survives.clean);
    same_mode = left.shut;
  }

  -- it was tried whether the store answers
  pub was_tried : (new : Tables S) → AreUpToDate g old → IsTried g old new → WasTried g old new
  was_tried new at it = record {
    known = it.known;
    stays = it.stays;
    shows = λ clean s h. elim (it.same clean) [
      | inl same ↦ subst (λ (c : Held S). StandsIn s (state g c)) (sym same) h
      | inr back ↦ λ up. subst (λ (d : Database). StandsSound s d.trees) (sym ((back.undone up).0 ∙ sym (at.ours (first clean) (back.was_open up)).settled)) (h (back.was_open up))
    ];
    left = λ clean db l. elim (it.survives.crash clean db l) [ inl was ↦ was | inr none ↦ absurd none ];
    tables = record { ours = it.ours; second = it.edition ∙ at.second; left = still_ours (shown g old) (shown g new) it.survives at.left };
    clean = first;
  }
    where
      first : HasCleanDisk (shown g new) → HasCleanDisk (shown g old)
      first clean = omega (arith, clean, it.survives.clean)

  -- one was, and has ended
  module _ (begun done : Work S) (b : Begins g SeesAll old begun) (looks : Looks g begun done) (new : Tables S) where
    pub goes_on : {R : Type 0} → (is_stopped new ≡ true → R) → Halts (is_stopped old) (is_stopped new) R
    goes_on stops = record { stopped = λ was. absurd (false≢true (sym b.was_open ∙ was)); stays = λ was. absurd (false≢true (sym b.was_open ∙ was)); stops = stops }

    done_ours : AreUpToDate g old → LeavesOurs Second (seen g done)
    done_ours at = still_ours (seen g begun) (seen g done) looks.survives (still_ours (shown g old) (seen g begun) b.survives at.left)

    ended_ours : {T E : Type 0} (r : Result T E) → AreUpToDate g old → IsEnded g r done new → LeavesOurs Second (shown g new)
    ended_ours r at end clean db l = elim (end.survives.crash clean db l) [ inl was ↦ done_ours at (omega (arith, clean, end.survives.clean)) db was | inr (whole, same, ours) ↦ ours ]

    pub dropped_halts : {R : Type 0} → IsDropped g done new → Halts (is_stopped old) (is_stopped new) R
    dropped_halts end = goes_on (λ is. absurd (false≢true (sym (end.same_mode ∙ looks.same_mode ∙ b.still_open) ∙ is)))

    pub dropped_looked : AreUpToDate g old → IsDropped g done new → Looked g old new
    dropped_looked at end = record {
      shows = λ clean s h.
          let mid : HasCleanDisk (seen g done) = omega (arith, clean, end.survives.clean) in
          let early : HasCleanDisk (seen g begun) = omega (arith, mid, looks.survives.clean) in
          let first : HasCleanDisk (shown g old) = omega (arith, early, b.survives.clean) in
          let view = b.view early in
          let back = end.undone clean in
          λ up. subst (λ (d : Database). StandsSound s d.trees) (sym ((back.undone up).0 ∙ (looks.kept mid).committed (back.was_open up) ∙ view.committed_is ∙ sym (at.ours first view.was_open).settled)) (h view.was_open);
      left = λ clean db l.
          let mid : HasCleanDisk (seen g done) = omega (arith, clean, end.survives.clean) in
          let early : HasCleanDisk (seen g begun) = omega (arith, mid, looks.survives.clean) in
          elim (end.survives.crash clean db l) [
            | inl at ↦ elim (looks.survives.crash mid db at) [ inl was ↦ elim (b.survives.crash early db was) [ inl it ↦ it | inr none ↦ absurd none ] | inr none ↦ absurd none ]
            | inr none ↦ absurd none
          ];
      tables = record { ours = end.ours looks.at_work.back; second = end.edition ∙ looks.same_edition ∙ b.edition ∙ at.second; left = still_ours (seen g done) (shown g new) end.survives (done_ours at) };
      clean = λ clean. omega (arith, clean, end.survives.clean, looks.survives.clean, b.survives.clean);
      same_mode = end.same_mode ∙ looks.same_mode ∙ b.still_open ∙ sym b.was_open;
    }

    pub committed_halts : {R : Type 0} → IsCommitted g done new → Halts (is_stopped old) (is_stopped new) R
    committed_halts end = goes_on (λ is. absurd (false≢true (sym (end.same_mode ∙ looks.same_mode ∙ b.still_open) ∙ is)))

    pub committed_tables : {T E : Type 0} (r : Result T E) → AreUpToDate g old → IsEnded g r done new → IsCommitted g done new → AreUpToDate g new
    committed_tables r at ended end = record { ours = ended.ours; second = end.second; left = ended_ours r at ended }

    pub refused_tables : {T E : Type 0} (r : Result T E) → AreUpToDate g old → IsEnded g r done new → IsRefused g done new → AreUpToDate g new
    refused_tables r at ended end = record { ours = ended.ours; second = end.edition ∙ looks.same_edition ∙ b.edition ∙ at.second; left = ended_ours r at ended }

    pub ended_clean : {T E : Type 0} (r : Result T E) → IsEnded g r done new → WasClean g old new
    ended_clean r end clean = omega (arith, clean, end.survives.clean, looks.survives.clean, b.survives.clean)
