-- Calls in a transaction, one after another, and what a call leaves whatever its answer is made into.
use Rattle.reg_access.proofs.Words.{◌≡◌, inl, false, arith, Ok, Err, Result, refl, ◌∙◌, HasCleanDisk, Ghosts, IsInside, Work, IsActive}
use Rattle.reg_access.proofs.Words.{KeepsFrame, has_failed, seen}
use Rattle.sqlite.specs.State.{State, Survives}
use Rattle.sqlite.proofs.StateLemmas.{survives_then}
use Rattle.reg_tables_represent.proofs.Withins.{fails_after, itself_within, within_then}

survives_itself : (a : State) → Survives a a (λ _. ⊥)
survives_itself a = record { clean = omega arith; shield = λ h. h; counts = omega arith; limit = refl; closes = λ _ h. inl h; crash = λ _ db h. inl h }

module _ {S : Type 0} (g : Ghosts S) where
  pub called_ok : {T U E F : Type 0} (x : T) (y : U) (a b : Work S) → KeepsFrame {T = T} {E = E} g (Ok x) a b → KeepsFrame {T = U} {E = F} g (Ok y) a b
  called_ok x y a b c = record {
    same_reference = c.same_reference;
    same_edition = c.same_edition;
    same_mode = c.same_mode;
    at_work = c.at_work;
    went_on = c.went_on;
    ended = tt;
    within = c.within;
    failed = λ clean. tt;
    survives = c.survives;
  }

  pub called_err : {T U E F : Type 0} (e : E) (f : F) (a b : Work S) → KeepsFrame {T = T} {E = E} g (Err e) a b → KeepsFrame {T = U} {E = F} g (Err f) a b
  called_err e f a b c = record {
    same_reference = c.same_reference;
    same_edition = c.same_edition;
    same_mode = c.same_mode;
    at_work = c.at_work;
    went_on = tt;
    ended = c.ended;
    within = λ clean. tt;
    failed = c.failed;
    survives = c.survives;
  }

  pub then_called : {T U E F : Type 0} (x : T) (r : Result U F) (a b c : Work S) → KeepsFrame {T = T} {E = E} g (Ok x) a b → KeepsFrame g r b c → KeepsFrame g r a c
  then_called x (Ok y) a b c one two = record {
    same_reference = two.same_reference ∙ one.same_reference;
    same_edition = two.same_edition ∙ one.same_edition;
    same_mode = two.same_mode ∙ one.same_mode;
    at_work = two.at_work;
    went_on = (one.went_on.0, two.went_on.1);
    ended = tt;
    within = λ clean. within_then (seen g a) (seen g b) (seen g c) (one.within (omega (arith, two.survives.clean))) (two.within clean);
    failed = λ clean. tt;
    survives = survives_then (seen g a) (seen g b) (seen g c) (λ _. ⊥) (λ _. ⊥) (λ _. ⊥) (λ _ db none. none) (λ _ db none. none) one.survives two.survives;
  }
  then_called x (Err e) a b c one two = record {
    same_reference = two.same_reference ∙ one.same_reference;
    same_edition = two.same_edition ∙ one.same_edition;
    same_mode = two.same_mode ∙ one.same_mode;
    at_work = two.at_work;
    went_on = tt;
    ended = two.ended;
    within = λ clean. tt;
    failed = λ clean. fails_after (seen g a) (seen g b) (seen g c) (one.within (omega (arith, two.survives.clean))) (two.failed clean);
    survives = survives_then (seen g a) (seen g b) (seen g c) (λ _. ⊥) (λ _. ⊥) (λ _. ⊥) (λ _ db none. none) (λ _ db none. none) one.survives two.survives;
  }

  -- where nothing is called
  pub itself_called : {T E : Type 0} (x : T) (a : Work S) → has_failed a ≡ false → IsActive g a → KeepsFrame {T = T} {E = E} g (Ok x) a a
  itself_called x a on at = record {
    same_reference = refl;
    same_edition = refl;
    same_mode = refl;
    at_work = at;
    went_on = (on, on);
    ended = tt;
    within = λ clean. itself_within (seen g a) clean (at.ready on clean);
    failed = λ clean. tt;
    survives = survives_itself (seen g a);
  }

  -- a call that answered was made inside a transaction of our tables
  pub inside : {T E : Type 0} (x : T) (old new : Work S) → IsActive g old → KeepsFrame {T = T} {E = E} g (Ok x) old new → HasCleanDisk (seen g new) → IsInside (seen g old)
  inside x old new at call clean = at.ready call.went_on.0 (omega (arith, call.survives.clean))
