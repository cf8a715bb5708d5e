-- Statements that write, once for all texts.
use Rattle.reg_tables_schema.proofs.Words.{◌≡◌, List, ℕ, true, Result, Ok, Err, OnOk, OnErr, inl, inr, refl, arith, ◌∙◌, Row, State}
use Rattle.reg_tables_schema.proofs.Words.{HasCleanDisk, Executes, IsUnchanged, Survives, Error, command_of, survives_then, Compiled}
use Rattle.reg_tables_schema.proofs.Words.{CompileError, ours, IsInside, IsReady, OnlyReads, Refuses, IsReading, writes_rows}
use Rattle.std.specs.Prelude.{IsErr}
use Rattle.sqlite.specs.Listing.{understood}
use Rattle.sqlite.specs.State.{CommitsBy}
use Rattle.sqlite.proofs.Callers.{unchanged_then}
use Rattle.reg_tables_schema.specs.Statements.{IsRowWrite, IsWriting}
use Rattle.reg_tables_schema.proofs.WriteLemmas.{refused, survives_inside}

turned : {T E : Type 0} (r : Result T E) {A B : Type 0} → (A → B) → OnOk r A → OnOk r B
turned (Ok x) f h = f h
turned (Err e) f h = tt

-- the change that is made, in other words
pub writes_as : {T E : Type 0} (old new : State) (r : Result T E) {P Q : State → State → Type 0} → IsReady old → (IsInside old → P old new → Q old new) → IsWriting old new r P → IsWriting old new r Q
writes_as old new r ready turn h = record {
  changes = λ clean. turned r (turn (ready (omega (arith, h.survives.clean)))) (h.changes clean);
  refused = h.refused;
  survives = h.survives;
}

written : (r : Result Compiled CompileError) → IsRowWrite r → writes_rows (command_of r) ≡ true
written (Ok c) h = h
written (Err e) h = absurd h

-- a write in a transaction commits nothing
pub write_survives : (text : List ℕ) (params : Row) (old new : State) → IsRowWrite (understood ours text) → IsReady old → Survives old new (CommitsBy text params old) → Survives old new (λ _. ⊥)
write_survives text params old new writes ready = survives_inside text params old ours (command_of (understood ours text)) refl new (written _ writes) (λ clean. let at = ready clean in (at.schema_is, at.inside))

module _ (text : List ℕ) (params : Row) (old new : State) (r : Result ℕ Error) (writes : IsRowWrite (understood ours text)) (ready : IsReady old)
    (runs : HasCleanDisk new → Executes text params old new r) (s : Survives old new (CommitsBy text params old)) where
  -- the statement was refused, and so is what calls it
  pub write_fails : {T : Type 0} (q : Result T Error) (e f : Error) (change : State → State → Type 0) → r ≡ Err e → q ≡ Err f → IsWriting old new q change
  write_fails q e f change is was = record {
    changes = λ _. rw was tt;
    refused = λ clean. rw was (rw is at (refused text params old new r (runs clean)));
    survives = write_survives text params old new writes ready s;
  }

  pub write_done : (n : ℕ) → r ≡ Ok n → IsWriting {T = Unit} {E = Error} old new (Ok tt) (λ a b. (m : ℕ) × Executes text params a b (Ok m))
  write_done n is = record {
    changes = λ clean. (n, rw is at (runs clean));
    refused = λ _. tt;
    survives = write_survives text params old new writes ready s;
  }

-- a failure has its error
pub err_of : {X E : Type 0} (r : Result X E) → IsErr r → (e : E) × (r ≡ Err e)
err_of (Ok x) h = absurd cc
err_of (Err e) h = (e, refl)

pub refuses_after : (a b c : State) → IsUnchanged a b → Refuses b c → Refuses a c
refuses_after a b c same (inl h) = inl (unchanged_then a b c same h)
refuses_after a b c same (inr h) = inr (record {
  was_open = λ _. same.0.was_open;
  undone = λ up. let it = h.undone up in (it.0 ∙ same.0.committed_is, it.1 ∙ same.0.committed_is);
  autocommit = h.autocommit;
  unmarked = h.unmarked;
  counts = record { changes = h.counts.changes ∙ same.1.changes; last_rowid = h.counts.last_rowid ∙ same.1.last_rowid };
})

changed : {U F : Type 0} (q : Result U F) {A B : Type 0} → (A → B) → OnOk q A → OnOk q B
changed (Ok y) f h = f h
changed (Err e) f h = tt

refused_as : {U F : Type 0} (q : Result U F) {A B : Type 0} → (A → B) → OnErr q A → OnErr q B
refused_as (Ok y) f h = tt
refused_as (Err e) f h = f h

-- a statement that writes, after one that read
pub writes_after : {T U E F : Type 0} (a b c : State) (r : Result T E) (q : Result U F) (x : T) {P : T → Type 0} {C D : State → State → Type 0} → r ≡ Ok x
    → (IsUnchanged a b → P x → C b c → D a c) → IsReading a b r P → IsWriting b c q C → IsWriting a c q D
writes_after {E = E} a b c r q x is turn h w =
    let early = λ (clean : HasCleanDisk c). let it : HasCleanDisk b = omega (arith, w.survives.clean) in it in
    let same = λ (clean : HasCleanDisk c). (let it : OnlyReads {E = E} (Ok x) a b = rw is at (h.only (early clean)) in it).0 in
    record {
      changes = λ clean. changed q (turn (same clean) (rw is at (h.told (early clean)))) (w.changes clean);
      refused = λ clean. refused_as q (refuses_after a b c (same clean)) (w.refused clean);
      survives = survives_then a b c _ _ (λ _. ⊥) (λ _ db none. none) (λ _ db none. none) h.survives w.survives;
    }
