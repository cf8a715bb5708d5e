-- What reads leave of a connection, one after another.
use Rattle.reg_search.proofs.Words.{◌≡◌, ◌⊎◌, inl, inr, arith, Ok, Err, Result, refl, sym, subst, Ghosts, Held, state, HasCleanDisk, Trees}
use Rattle.reg_search.proofs.Words.{rows_in, IsRead}
use Rattle.std.proofs.Common.{IsErr, IsTrue, OnErr, OnOk}
use Rattle.sqlite.specs.State.{IsUnchanged}
use Rattle.sqlite.proofs.Callers.{unchanged_then}
use Rattle.sqlite.proofs.StateLemmas.{survives_then}
use Rattle.reg_tables_schema.specs.States.{Refuses}
use Rattle.reg_tables_schema.proofs.Writing.{refuses_after}

module _ {S : Type 0} (g : Ghosts S) where
  -- nothing is read
  pub none_read : {T E : Type 0} (x : T) (a : Held S) → (HasCleanDisk (state g a) → IsTrue (state g a).is_open) → IsRead {E = E} g (Ok x) a a
  none_read x a up = record {
    same = λ clean. (record { was_open = up clean; is_open = up clean; now_is = refl; committed_is = refl; mode = refl }, record { changes = refl; last_rowid = refl }, refl);
    refused = λ _. tt;
    ours = λ e at. at;
    survives = record { clean = omega arith; shield = λ h. h; counts = omega arith; limit = refl; closes = λ _ h. inl h; crash = λ _ db h. inl h };
  }

  read_then : {T U E F : Type 0} (a b c : Held S) (x : T) (r : Result U F) → IsRead {E = E} g (Ok x) a b → IsRead g r b c → IsRead g r a c
  read_then {U} {F} a b c x r one two =
      let early : HasCleanDisk (state g c) → HasCleanDisk (state g b) = λ clean. omega (arith, two.survives.clean, clean) in
      record {
        same = λ clean. on_ok r (one.same (early clean)) (two.same clean);
        refused = λ clean. on_err r (one.same (early clean)) (two.refused clean);
        ours = λ e at. two.ours e (one.ours e at);
        survives = survives_then (state g a) (state g b) (state g c) (λ _. ⊥) (λ _. ⊥) (λ _. ⊥) (λ _ db none. none) (λ _ db none. none) one.survives two.survives;
      }
    where
      on_ok : (r : Result U F) → IsUnchanged (state g a) (state g b) → OnOk r (IsUnchanged (state g b) (state g c)) → OnOk r (IsUnchanged (state g a) (state g c))
      on_ok (Ok y) p q = unchanged_then (state g a) (state g b) (state g c) p q
      on_ok (Err e) p q = tt

      on_err : (r : Result U F) → IsUnchanged (state g a) (state g b) → OnErr r ((c ≡ b) ⊎ Refuses (state g b) (state g c)) → OnErr r ((c ≡ a) ⊎ Refuses (state g a) (state g c))
      on_err (Ok y) p q = tt
      on_err (Err e) p (inl is) = inr (inl (subst (λ w. IsUnchanged (state g a) (state g w)) (sym is) p))
      on_err (Err e) p (inr refused) = inr (refuses_after (state g a) (state g b) (state g c) p refused)

  done_then : {T U E F : Type 0} (a b : Held S) (x : T) (r : Result U F) → IsRead {E = E} g (Ok x) a b → IsRead g r a b
  done_then a b x (Ok y) h = record { same = h.same; refused = λ _. tt; ours = h.ours; survives = h.survives }
  done_then a b x (Err f) h = record { same = λ _. tt; refused = λ clean. inr (inl (h.same clean)); ours = h.ours; survives = h.survives }

-- one after another
infixl 20 ◌⨾◌
pub ◌⨾◌ : {S T U E F : Type 0} {g : Ghosts S} {a b c : Held S} {x : T} {r : Result U F} → IsRead {E = E} g (Ok x) a b → IsRead g r b c
    → IsRead g r a c
one ⨾ two = read_then _ _ _ _ _ _ one two

-- whatever is answered once they are done
pub so_far : {S T U E F : Type 0} {g : Ghosts S} {a b : Held S} {x : T} {r : Result U F} → IsRead {E = E} g (Ok x) a b → IsRead g r a b
so_far h = done_then _ _ _ _ _ h

-- a fault of the last one is passed on
pub fails : {S T U E F : Type 0} {g : Ghosts S} {a b : Held S} {e : E} (r : Result U F) → IsErr r → IsRead {T = T} g (Err e) a b → IsRead g r a b
fails (Ok y) is h = absurd cc
fails (Err f) is h = record { same = λ _. tt; refused = h.refused; ours = h.ours; survives = h.survives }

-- a disk that is clean after them was so before
pub was_clean : {S T E : Type 0} {g : Ghosts S} {a b : Held S} {r : Result T E} → IsRead g r a b → HasCleanDisk (state g b) → HasCleanDisk (state g a)
was_clean h clean = omega (arith, h.survives.clean, clean)

-- what is true of the rows after them was so before
pub told_before : {S T E : Type 0} {g : Ghosts S} {a b : Held S} {x : T} (P : Trees → Type 0) → IsRead {E = E} g (Ok x) a b
    → HasCleanDisk (state g b) → P (rows_in g b) → P (rows_in g a)
told_before P h clean is = subst (λ d. P d.trees) (h.same clean).0.now_is is
