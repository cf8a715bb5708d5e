-- What statements that only read leave, one after another, and what they told of the rows before them.
use Rattle.reg_tables_represent.proofs.Words.{◌≡◌, ◌∙◌, inl, Err, IsErr, Ok, Result, ap, arith, subst, unchanged_then, IsReady, IsReading}
use Rattle.reg_tables_represent.proofs.Words.{LeavesSame, refuses_after}
use Rattle.reg_tables_represent.proofs.Common.{Database, HasCleanDisk, IsUnchanged, State, Survives, survives_then, Trees}
use Rattle.reg_tables_represent.proofs.Results.{on_err, on_ok}

pub same_then : (a b c : State) → IsUnchanged a b → IsUnchanged b c → IsUnchanged a c
same_then = unchanged_then

-- where nothing has changed, any answer may be given
same_whatever : {U F : Type 0} (a b : State) (q : Result U F) → (HasCleanDisk b → IsUnchanged a b) → Survives a b (λ _. ⊥)
    → LeavesSame a b q
same_whatever a b (Ok y) same survives = record { only = λ clean. (same clean, tt); survives = survives }
same_whatever a b (Err e) same survives = record { only = λ clean. (tt, inl (same clean)); survives = survives }

keeps_then : {T U E F : Type 0} (a b c : State) (x : T) (r : Result U F) → LeavesSame {E = E} a b (Ok x) → LeavesSame b c r
    → LeavesSame a c r
keeps_then a b c x r one two = record {
  only = λ clean.
      let same : IsUnchanged a b = (one.only (omega (arith, two.survives.clean, clean))).0 in
      (on_ok r (unchanged_then a b c same) (two.only clean).0, on_err r (refuses_after a b c same) (two.only clean).1);
  survives = survives_then a b c (λ _. ⊥) (λ _. ⊥) (λ _. ⊥) (λ _ db none. none) (λ _ db none. none) one.survives two.survives;
}

-- what a reading leaves
pub left : {T E : Type 0} {a b : State} {r : Result T E} {tells : T → Type 0} → IsReading a b r tells → LeavesSame a b r
left h = record { only = h.only; survives = h.survives }

-- one after another
infixl 20 ◌⨾◌
pub ◌⨾◌ : {T U E F : Type 0} {a b c : State} {x : T} {r : Result U F} → LeavesSame {E = E} a b (Ok x) → LeavesSame b c r → LeavesSame a c r
one ⨾ two = keeps_then _ _ _ _ _ one two

-- whatever is answered once they are done
pub so_far : {T U E F : Type 0} {a b : State} {x : T} {r : Result U F} → LeavesSame {E = E} a b (Ok x) → LeavesSame a b r
so_far h = same_whatever _ _ _ (λ clean. (h.only clean).0) h.survives

-- a fault of the last one is passed on
pub fails : {T U E F : Type 0} {a b : State} {e : E} (r : Result U F) → IsErr r → LeavesSame {T = T} a b (Err e) → LeavesSame a b r
fails (Ok y) is h = absurd cc
fails (Err f) is h = record { only = λ clean. (tt, (h.only clean).1); survives = h.survives }

-- a disk that is clean after them was so before
pub was_clean : {T E : Type 0} {a b : State} {r : Result T E} → LeavesSame a b r → HasCleanDisk b → HasCleanDisk a
was_clean h clean = omega (arith, clean, h.survives.clean)

-- what they left is what was there
pub same_now : {T E : Type 0} {a b : State} {x : T} → LeavesSame {E = E} a b (Ok x) → HasCleanDisk b → b.now ≡ a.now
same_now h clean = (h.only clean).0.0.now_is

-- what is true of the rows after them was so before
pub true_before : {T E : Type 0} {a b : State} {x : T} (P : Trees → Type 0) → LeavesSame {E = E} a b (Ok x) → HasCleanDisk b → P b.now.trees
    → P a.now.trees
true_before P h clean is = subst (λ (db : Database). P db.trees) (same_now h clean) is

-- what one of them told of its rows
pub told_before : {T U E F : Type 0} {a b c : State} {x : T} {r : Result U F} (P : Trees → Type 0) → LeavesSame {E = E} a b (Ok x)
    → LeavesSame b c r → HasCleanDisk c
    → (HasCleanDisk c → P b.now.trees) → P a.now.trees
told_before P before now clean told = true_before P before (was_clean now clean) (told clean)

-- what the next one asks
pub still_ready : {T E : Type 0} {a b : State} {x : T} → LeavesSame {E = E} a b (Ok x) → IsReady a → IsReady b
still_ready h ready clean =
    let same = (h.only clean).0.0 in
    let was = ready (was_clean h clean) in
    record { schema_is = ap (λ (d : Database). d.schema) same.now_is ∙ was.schema_is; is_open = same.is_open; inside = same.mode ∙ was.inside }
