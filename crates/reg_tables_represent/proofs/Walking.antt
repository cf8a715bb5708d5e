-- Rows one at a time: from the first to the end, or to a failure.
use Rattle.reg_tables_represent.proofs.Words.{SchemaVersion, ◌≡◌, inl, inr, arith, ℕ, List, [], ◌∷◌, ◌++◌, false, is_some, Ok, Err, Some, None}
use Rattle.reg_tables_represent.proofs.Words.{Option, Result, subst, Bor, Ghosts, Error, Rows, Held, state, HasMoved, Fails, HasCleanDisk}
use Rattle.reg_tables_represent.proofs.Words.{IsUnchanged, Survives, Shown, unchanged_then, IsOurs, Refuses, IsSpared, refuses_after}
use Rattle.reg_tables_represent.proofs.Words.{HasWalked}
use Rattle.std.proofs.Common.{◌⊎◌}
use Rattle.reg_tables_represent.proofs.Common.{Row, survives_then}
use Rattle.reg_tables_represent.proofs.RowReading.{next_ours}
use Rattle.reg_tables_represent.specs.Walks.{IsRead}

module _ {S : Type 0} (g : Ghosts S) where
  pub was_read : {T E : Type 0} (x : T) (old new : Held S) → (HasCleanDisk (state g new) → IsUnchanged (state g old) (state g new)) → ((e : SchemaVersion) → IsOurs e (state g old) → IsOurs e (state g new)) → Survives (state g old) (state g new) (λ _. ⊥) → IsRead {E = E} g (Ok x) old new
  was_read x old new same at s = record { same = same; refused = λ _. tt; ours = at; survives = s }

  pub was_spared : {T E : Type 0} (e : E) (old new : Held S) → IsSpared g old new → IsRead {T = T} g (Err e) old new
  was_spared e old new h = record { same = λ _. tt; refused = h.refused; ours = h.ours; survives = h.survives }

  module _ (text : List ℕ) (params : Row) (first : Held S) where
    module _ (old new : Rows S g) (given : List Row) (w : HasWalked g text params first old.conn.now given) where
      before : {r : Result (Option (Bor Row)) Error} → HasMoved g old r new → HasCleanDisk (state g new.conn.now) → HasCleanDisk (state g old.conn.now)
      before m clean = omega (arith, m.survives.clean)

      silent : {r : Result (Option (Bor Row)) Error} → HasMoved g old r new → Survives (state g first) (state g new.conn.now) (λ _. ⊥)
      silent m = survives_then (state g first) (state g old.conn.now) (state g new.conn.now) (λ _. ⊥) (λ _. ⊥) (λ _. ⊥) (λ _ db none. none) (λ _ db none. none) w.survives m.survives

      pub walked : (row : Bor Row) → HasMoved g old (Ok (Some row)) new → HasWalked g text params first new.conn.now (given ++ row.now ∷ [])
      walked row m = record {
        given = λ clean. m.ok clean text params given (w.given (before m clean));
        same = λ clean. unchanged_then (state g first) (state g old.conn.now) (state g new.conn.now) (w.same (before m clean)) (m.same clean);
        ours = λ e at. next_ours g old (Ok (Some row)) new m e (w.ours e at);
        survives = silent m;
      }

      -- the row, as it was read
      pub walked_as : (row : Bor Row) (columns : Row) → row.now ≡ columns → HasMoved g old (Ok (Some row)) new → HasWalked g text params first new.conn.now (given ++ columns ∷ [])
      walked_as row columns is m = subst (λ r. HasWalked g text params first new.conn.now (given ++ r ∷ [])) is (walked row m)

      pub walked_all : (o : Option (Bor Row)) → is_some o ≡ false → HasMoved g old (Ok o) new → HasCleanDisk (state g new.conn.now) → Shown text params (state g old.conn.now) (state g new.conn.now) given
      walked_all (Some row) none m clean = absurd cc
      walked_all None none m clean = m.ok clean text params given (w.given (before m clean))

      pub walk_ends : {T E : Type 0} (x : T) (o : Option (Bor Row)) → HasMoved g old (Ok o) new → IsRead {E = E} g (Ok x) first new.conn.now
      walk_ends x o m = was_read x first new.conn.now
          (λ clean. unchanged_then (state g first) (state g old.conn.now) (state g new.conn.now) (w.same (before m clean)) (m.same clean)) (λ e at. next_ours g old (Ok o) new m e (w.ours e at)) (silent m)

      -- where the walk was left before its end
      pub walk_left : {T E : Type 0} (e : E) → IsRead {T = T} g (Err e) first old.conn.now
      walk_left e = record { same = λ _. tt; refused = λ clean. inr (inl (w.same clean)); ours = w.ours; survives = w.survives }

      pub walk_fails : {T E : Type 0} (e : Error) (f : E) → HasMoved g old (Err e) new → IsRead {T = T} g (Err f) first new.conn.now
      walk_fails e f m = record {
        same = λ _. tt;
        refused = λ clean. inr (refuses_after (state g first) (state g old.conn.now) (state g new.conn.now) (w.same (before m clean)) (left clean (m.kept clean)));
        ours = λ d at. next_ours g old (Err e) new m d (w.ours d at);
        survives = silent m;
      }
        where
          left : HasCleanDisk (state g new.conn.now) → Fails (state g old.conn.now) (state g new.conn.now) ⊥ e ⊎ IsUnchanged (state g old.conn.now) (state g new.conn.now) → Refuses (state g old.conn.now) (state g new.conn.now)
          left clean (inl failed) = inr failed.3
          left clean (inr still) = inl still
