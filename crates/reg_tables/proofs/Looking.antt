-- What calls that may be followed by more leave of a transaction, one after another.
use Rattle.std.proofs.Common.{Result, Ok, Err, OnOk, OnErr, IfOk, ap, inl, refl, arith, ◌∙◌}
use Rattle.sqlite_trees.specs.declared.store.Store.{Ghosts}
use Rattle.sqlite.specs.State.{State, IsUnchanged, KeepsCommit}
use Rattle.sqlite.proofs.StateLemmas.{survives_then}
use Rattle.reg_tables_schema.specs.States.{IsInside}
use Rattle.reg_tables_schema.specs.Steps.{Fails, Within}
use Rattle.sqlite.specs.Effect.{Database}
use Rattle.reg_tables_schema.specs.declared.edition.SchemaVersion.{SchemaVersion}
use Rattle.reg_tables_schema.specs.declared.edition.SchemaVersion.TheVariants.{First, Second}
use Rattle.reg_tables_represent.specs.Upgrades.{AreBegun, BeginsSecond}
use Rattle.reg_tables.specs.Works.{KeepsFrame, seen}
use Rattle.reg_tables.specs.declared.work.Work.{Work}
use Rattle.reg_tables.specs.Looks.{Looks}

pub keeps_then : (a b c : State) → KeepsCommit a b → KeepsCommit b c → KeepsCommit a c
keeps_then a b c one two = record { was_open = λ h. one.was_open (two.was_open h); committed = λ h. two.committed h ∙ one.committed (two.was_open h) }

pub itself_unchanged : (s : State) → IsInside s → IsUnchanged s s
itself_unchanged s at = (record { was_open = at.is_open; is_open = at.is_open; now_is = refl; committed_is = refl; mode = refl }, record { changes = refl; last_rowid = refl }, refl)

call_keeps : {T E : Type 0} (old new : State) (r : Result T E) → OnOk r (Within old new) → OnErr r (Fails old new) → KeepsCommit old new
call_keeps old new (Ok x) within fails = record { was_open = λ _. within.was_open; committed = λ _. within.committed }
call_keeps old new (Err e) within fails = fails.kept

module _ {S : Type 0} (g : Ghosts S) where
  pub call_looks : {T E : Type 0} (r : Result T E) (old new : Work S) → KeepsFrame g r old new → Looks g old new
  call_looks r old new call = record {
    same_reference = call.same_reference;
    same_edition = call.same_edition;
    same_mode = call.same_mode;
    at_work = call.at_work;
    kept = λ clean. call_keeps (seen g old) (seen g new) r (call.within clean) (call.failed clean);
    survives = call.survives;
  }

  pub looks_then : (a b c : Work S) → Looks g a b → Looks g b c → Looks g a c
  looks_then a b c one two = record {
    same_reference = two.same_reference ∙ one.same_reference;
    same_edition = two.same_edition ∙ one.same_edition;
    same_mode = two.same_mode ∙ one.same_mode;
    at_work = two.at_work;
    kept = λ clean. keeps_then (seen g a) (seen g b) (seen g c) (one.kept (omega (arith, clean, two.survives.clean))) (two.kept clean);
    survives = survives_then (seen g a) (seen g b) (seen g c) _ _ _ (λ _ _ h. h) (λ _ _ h. h) one.survives two.survives;
  }

-- the rows that a transaction sees first
pub begins_with : (e : SchemaVersion) (old new : State) → BeginsSecond e old new → AreBegun e old.now new.now.trees
begins_with First old new h = (new.now, h.made, refl)
begins_with Second old new h = ap (λ (d : Database). d.trees) h.now_is

pub if_told : {T E : Type 0} {P Q : T → Type 0} (r : Result T E) → ((x : T) → P x → Q x) → IfOk r P → IfOk r Q
if_told (Ok x) f h = f x h
if_told (Err e) f h = tt
