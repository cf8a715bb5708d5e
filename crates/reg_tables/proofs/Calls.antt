-- What one call of a transaction leaves of it.
use Rattle.std.proofs.Common.{◌≡◌, inl, true, false, Ok, Err, arith, refl}
use Rattle.sqlite.specs.Held.{Held, state}
use Rattle.sqlite.specs.State.{HasCleanDisk}
use Rattle.sqlite_trees.specs.declared.store.Store.{Ghosts}
use Rattle.reg_tables_represent.proofs.Withins.{refused_fails, unchanged_within}
use Rattle.reg_tables_schema.specs.Statements.{IsReading}
use Rattle.reg_tables_schema.specs.Steps.{LeavesSame, LeavesWithin}
use Rattle.reg_tables.specs.Works.{IsActive, KeepsFrame, has_failed, seen}
use Rattle.reg_tables.specs.declared.work.Work.{Work}

-- the same transaction, with what a call left of its connection
abbrev pub after : {S : Type 0} → Work S → Held S → Work S
after w conn = record w { tables = record w.tables { now = record w.tables.now { conn = conn } } }

-- and a fault has ended it
abbrev pub ended : {S : Type 0} → Work S → Held S → Work S
ended w conn = record w { tables = record w.tables { now = record w.tables.now { conn = conn } }; failed = true }

module _ {S : Type 0} (g : Ghosts S) (old : Work S) (at : IsActive g old) where
  module _ (conn : Held S) where
    -- a call that changes what is seen
    pub went_on : {T U E F : Type 0} (x : T) (y : U) → has_failed old ≡ false → LeavesWithin {E = E} (seen g old) (state g conn) (Ok x) → KeepsFrame {E = F} g (Ok y) old (after old conn)
    went_on x y on h = record {
      same_reference = refl;
      same_edition = refl;
      same_mode = refl;
      at_work = record { back = λ clean up. (h.within clean).back _ at.back clean up; ready = λ _ clean. (h.within clean).inside };
      went_on = (on, on);
      ended = tt;
      within = h.within;
      failed = λ clean. tt;
      survives = h.survives;
    }

    pub went_wrong : {T U E F : Type 0} (e : E) (f : F) → LeavesWithin {T = T} (seen g old) (state g conn) (Err e) → KeepsFrame {T = U} g (Err f) old (ended old conn)
    went_wrong e f h = record {
      same_reference = refl;
      same_edition = refl;
      same_mode = refl;
      at_work = record { back = λ clean up. (h.fails clean).back _ at.back clean up; ready = λ is. absurd cc };
      went_on = tt;
      ended = refl;
      within = λ clean. tt;
      failed = h.fails;
      survives = h.survives;
    }

    -- a call that only reads
    pub read_on : {T U E F : Type 0} (x : T) (y : U) → has_failed old ≡ false → LeavesSame {E = E} (seen g old) (state g conn) (Ok x) → KeepsFrame {E = F} g (Ok y) old (after old conn)
    read_on {E} x y on h = went_on {E = E} x y on (record {
      within = λ clean.
          let early : HasCleanDisk (seen g old) = omega (arith, clean, h.survives.clean) in
          unchanged_within (seen g old) (state g conn) early (at.ready on early) (h.only clean).0;
      fails = λ clean. tt;
      survives = h.survives;
    })

    pub read_wrong : {T U E F : Type 0} (e : E) (f : F) → LeavesSame {T = T} (seen g old) (state g conn) (Err e) → KeepsFrame {T = U} g (Err f) old (ended old conn)
    read_wrong {T} e f h = went_wrong {T = T} e f (record {
      within = λ clean. tt;
      fails = λ clean. refused_fails (seen g old) (state g conn) (omega (arith, clean, h.survives.clean)) (h.only clean).1;
      survives = h.survives;
    })

    -- the reading of a text
    pub asked_on : {T U E F : Type 0} {P : T → Type 0} (x : T) (y : U) → has_failed old ≡ false → IsReading {E = E} (seen g old) (state g conn) (Ok x) P → KeepsFrame {E = F} g (Ok y) old (after old conn)
    asked_on {E} x y on h = read_on {E = E} x y on (record { only = h.only; survives = h.survives })

    pub asked_wrong : {T U E F : Type 0} {P : T → Type 0} (e : E) (f : F) → IsReading {T = T} (seen g old) (state g conn) (Err e) P → KeepsFrame {T = U} g (Err f) old (ended old conn)
    asked_wrong {T} e f h = read_wrong {T = T} e f (record { only = h.only; survives = h.survives })

  -- nothing is called where a call has failed
  pub not_called : {U F : Type 0} (f : F) → has_failed old ≡ true → KeepsFrame {T = U} g (Err f) old old
  not_called f off = record {
    same_reference = refl;
    same_edition = refl;
    same_mode = refl;
    at_work = at;
    went_on = tt;
    ended = off;
    within = λ clean. tt;
    failed = λ clean. record { kept = record { was_open = λ up. up; committed = λ up. refl }; back = λ e gone. gone };
    survives = record { clean = omega arith; shield = λ h. h; counts = omega arith; limit = refl; closes = λ clean h. inl h; crash = λ clean db h. inl h };
  }
