-- What statements of a transaction leave, one after another, where some of them may write.
use Rattle.reg_tables_represent.proofs.Words.{ℕ, Bool, inl, Err, IsErr, Ok, Result, OnErr, OnOk, arith, refl, Adds, AddsColumns, Removes}
use Rattle.reg_tables_represent.proofs.Words.{Touches, IsInside, IsReady, IsReading, LeavesSame, Within}
use Rattle.reg_tables_represent.proofs.Common.{HasCleanDisk, Row, State, Survives, survives_then}
use Rattle.reg_tables_schema.specs.Statements.{IsWriting}
use Rattle.reg_tables_schema.specs.Steps.{LeavesWithin}
use Rattle.reg_tables_represent.proofs.Readings.{left}
use Rattle.reg_tables_represent.proofs.Results.{on_err, on_ok}
use Rattle.reg_tables_represent.proofs.Withins.{become_within, fails_after, itself_within, refused_fails, touch_within, unchanged_within, within_fails, within_then}

-- what is left where they begin in a transaction of our tables
pub record Leads {T E : Type 0} (a b : State) (r : Result T E) : Type 0 where
  pub leaves : IsReady a → LeavesWithin a b r

ok_of : {T E A : Type 0} (r : Result T E) → A → OnOk r A
ok_of (Ok x) a = a
ok_of (Err e) a = tt

err_of : {T E A : Type 0} (r : Result T E) → A → OnErr r A
err_of (Ok x) a = tt
err_of (Err e) a = a

leads_then : {T U E F : Type 0} (a b c : State) (x : T) (r : Result U F) → Leads {E = E} a b (Ok x) → Leads b c r → Leads a c r
leads_then a b c x r one two = record {
  leaves = λ ready.
      let first = one.leaves ready in
      let next = two.leaves (λ clean. (first.within clean).inside) in
      let early : HasCleanDisk c → HasCleanDisk b = λ clean. omega (arith, clean, next.survives.clean) in
      record {
        within = λ clean. on_ok r (within_then a b c (first.within (early clean))) (next.within clean);
        fails = λ clean. on_err r (fails_after a b c (first.within (early clean))) (next.fails clean);
        survives = survives_then a b c _ _ _ (λ _ _ h. h) (λ _ _ h. h) first.survives next.survives;
      };
}

ends_in : {T U E F : Type 0} (a b : State) (x : T) (r : Result U F) → LeavesWithin {E = E} a b (Ok x) → LeavesWithin a b r
ends_in a b x r h = record { within = λ clean. ok_of r (h.within clean); fails = λ clean. err_of r (within_fails a b (h.within clean)); survives = h.survives }

-- one after another
infixl 20 ◌⨾◌
pub ◌⨾◌ : {T U E F : Type 0} {a b c : State} {x : T} {r : Result U F} → Leads {E = E} a b (Ok x) → Leads b c r → Leads a c r
one ⨾ two = leads_then _ _ _ _ _ one two

-- a part that has such a chain of its own
pub steps : {T E : Type 0} {a b : State} {r : Result T E} → LeavesWithin a b r → Leads a b r
steps h = record { leaves = λ _. h }

-- a part that only reads, and one statement that does
pub looks : {T E : Type 0} {a b : State} {r : Result T E} → LeavesSame a b r → Leads a b r
looks {a = a} {b = b} {r = r} h = record {
  leaves = λ ready.
      let early : HasCleanDisk b → HasCleanDisk a = λ clean. omega (arith, clean, h.survives.clean) in
      record {
        within = λ clean. on_ok r (unchanged_within a b (early clean) (ready (early clean))) (h.only clean).0;
        fails = λ clean. on_err r (refused_fails a b (early clean)) (h.only clean).1;
        survives = h.survives;
      };
}

pub reads : {T E : Type 0} {a b : State} {r : Result T E} {tells : T → Type 0} → IsReading a b r tells → Leads a b r
reads h = looks (left h)

-- a statement that writes
pub writes : {T E : Type 0} {C : State → State → Type 0} {a b : State} {r : Result T E} → IsWriting a b r C
    → (HasCleanDisk a → IsInside a → C a b → Within a b) → Leads a b r
writes {a = a} {b = b} {r = r} h within = record {
  leaves = λ ready.
      let early : HasCleanDisk b → HasCleanDisk a = λ clean. omega (arith, clean, h.survives.clean) in
      record {
        within = λ clean. on_ok r (within (early clean) (ready (early clean))) (h.changes clean);
        fails = λ clean. on_err r (refused_fails a b (early clean)) (h.refused clean);
        survives = h.survives;
      };
}

pub adds : {T E : Type 0} {tree : ℕ} {row : Row} {a b : State} {r : Result T E} → IsWriting a b r (Adds tree row) → Leads a b r
adds {tree = tree} {a = a} {b = b} h = writes h (λ clean at added. become_within a b tree _ clean at added.becomes)

pub adds_columns : {T E : Type 0} {tree : ℕ} {columns : Row} {a b : State} {r : Result T E} → IsWriting a b r (AddsColumns tree columns)
    → Leads a b r
adds_columns {tree = tree} {a = a} {b = b} h = writes h (λ clean at added. become_within a b tree _ clean at added.1.becomes)

pub removes : {T E : Type 0} (tree : ℕ) (test : Row → Bool) {a b : State} {r : Result T E} → IsWriting a b r (Removes tree test) → Leads a b r
removes tree test {a = a} {b = b} h = writes h (λ clean at gone. become_within a b tree _ clean at gone)

pub touches : {T E : Type 0} {C : State → State → Type 0} (tree : ℕ) {a b : State} {r : Result T E} → IsWriting a b r C
    → (C a b → Touches tree a b) → Leads a b r
touches tree {a = a} {b = b} h is = writes h (λ clean at changed. touch_within a b tree clean at (is changed))

-- what they leave, whatever is answered once they are done
pub ends : {T U E F : Type 0} {a b : State} {x : T} {r : Result U F} → Leads {E = E} a b (Ok x) → IsReady a → LeavesWithin a b r
ends h ready = ends_in _ _ _ _ (h.leaves ready)

-- and where a fault of the last one is passed on
pub fails : {T U E F : Type 0} {a b : State} {e : E} (r : Result U F) → IsErr r → Leads {T = T} a b (Err e) → IsReady a → LeavesWithin a b r
fails (Ok y) is h ready = absurd cc
fails (Err f) is h ready =
    let it = h.leaves ready in
    record { within = λ _. tt; fails = it.fails; survives = it.survives }

-- before the first of them, and after some that are told otherwise
pub none : (a : State) → Leads {T = Unit} {E = Unit} a a (Ok tt)
none a = record {
  leaves = λ ready. record {
    within = λ clean. itself_within a clean (ready clean);
    fails = λ _. tt;
    survives = record { clean = omega arith; shield = λ h. h; counts = omega arith; limit = refl; closes = λ _ up. inl up; crash = λ _ db may. inl may };
  };
}

pub went : (a b : State) → (HasCleanDisk b → Within a b) → Survives a b (λ _. ⊥) → Leads {T = Unit} {E = Unit} a b (Ok tt)
went a b within survives = record { leaves = λ _. record { within = within; fails = λ _. tt; survives = survives } }
