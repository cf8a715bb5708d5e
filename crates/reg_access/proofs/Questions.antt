-- Questions to the tables, one after another, and from a text to what it tells.
use Rattle.reg_access.proofs.Words.{◌≡◌, ◌==◌, ◌∙◌, [], Bool, false, not, ℕ, List, length, Ok, Err, Result, Option, arith, refl, sym, ap}
use Rattle.reg_access.proofs.Words.{subst, IsPermutation, Row, overlay, Query, IsSureAnswer, HasCleanDisk, Shown, Trees, Ghosts, ours}
use Rattle.reg_access.proofs.Words.{shown_of, IsInside, IsSelection, selected, StoreFault, Work, OnAnswer, IsActive, KeepsFrame, Unmoved}
use Rattle.reg_access.proofs.Words.{has_failed, rows_seen, seen, Queries, is_there}
use Rattle.std.proofs.Common.{IsErr}
use Rattle.sqlite.specs.State.{IsUnchanged}
use Rattle.reg_tables_schema.proofs.ShownRows.{shown_exactly}
use Rattle.reg_tables_represent.proofs.Readings.{same_then}
use Rattle.reg_access.proofs.Answered.{there_found}
use Rattle.reg_access.proofs.Calls.{called_err, called_ok, inside, itself_called, then_called}

module _ {S : Type 0} (g : Ghosts S) where
  -- an answer made into another, and a fault passed on
  pub asks_made : {T U E F : Type 0} {P : Trees → T → Type 0} {Q : Trees → U → Type 0} (x : T) (y : U) (a b : Work S) → (P (rows_seen g a) x → Q (rows_seen g a) y) → Queries {E = E} g a b (Ok x) P → Queries {E = F} g a b (Ok y) Q
  asks_made x y a b made one = record { told = λ clean. made (one.told clean); same = one.same; leaves = called_ok g x y a b one.leaves }

  pub asks_failed : {T U E F : Type 0} {P : Trees → T → Type 0} {Q : Trees → U → Type 0} (e : E) (r : Result U F) (a b : Work S) → IsErr r → Queries g a b (Err e) P → Queries g a b r Q
  asks_failed e (Ok y) a b h one = absurd cc
  asks_failed e (Err f) a b h one = record { told = λ clean. tt; same = λ clean. tt; leaves = called_err g e f a b one.leaves }

  -- what was asked before another question
  pub same_rows : {T E : Type 0} {P : Trees → T → Type 0} (x : T) (a b : Work S) → Queries {E = E} g a b (Ok x) P → HasCleanDisk (seen g b) → rows_seen g b ≡ rows_seen g a
  same_rows x a b one clean = ap (λ d. d.trees) (one.same clean).0.now_is

  pub asks_after : {T U E F : Type 0} {P : Trees → T → Type 0} {Q : Trees → U → Type 0} (x : T) (r : Result U F) (a b c : Work S) → Queries {E = E} g a b (Ok x) P → Queries g b c r Q → Queries g a c r Q
  asks_after {Q} x (Ok y) a b c one two =
      let early = λ (clean : HasCleanDisk (seen g c)). let h : HasCleanDisk (seen g b) = omega (arith, clean, two.leaves.survives.clean) in h in
      record {
        told = λ clean. subst (λ db. Q db y) (same_rows x a b one (early clean)) (two.told clean);
        same = λ clean. same_then (seen g a) (seen g b) (seen g c) (one.same (early clean)) (two.same clean);
        leaves = then_called g x (Ok y) a b c one.leaves two.leaves;
      }
  asks_after x (Err e) a b c one two = record { told = λ clean. tt; same = λ clean. tt; leaves = then_called g x (Err e) a b c one.leaves two.leaves }

  -- and what both answered
  pub asks_both : {T U E F : Type 0} {P : Trees → T → Type 0} {Q : Trees → U → Type 0} (x : T) (y : U) (a b c : Work S) → Queries {E = E} g a b (Ok x) P → Queries {E = F} g b c (Ok y) Q → Queries {T = T × U} {E = F} g a c (Ok (x, y)) (λ db p. P db p.0 × Q db p.1)
  asks_both x y a b c one two =
      let both = asks_after x (Ok y) a b c one two in
      record {
        told = λ clean. (one.told (omega (arith, clean, two.leaves.survives.clean)), both.told clean);
        same = both.same;
        leaves = called_ok g y (x, y) a c both.leaves;
      }

  -- and then a call is refused
  pub asks_refused : {T U E F : Type 0} {P : Trees → T → Type 0} {Q : Trees → U → Type 0} (x : T) (r : Result U F) (a b c : Work S) → IsErr r → Queries {E = E} g a b (Ok x) P → KeepsFrame g r b c → Queries g a c r Q
  asks_refused x (Ok y) a b c h one call = absurd cc
  asks_refused x (Err e) a b c h one call = record { told = λ clean. tt; same = λ clean. tt; leaves = then_called g x (Err e) a b c one.leaves call }

  -- nothing is asked
  pub asks_nothing : {T E : Type 0} {P : Trees → T → Type 0} (x : T) (a : Work S) → has_failed a ≡ false → IsActive g a → P (rows_seen g a) x → Queries {E = E} g a a (Ok x) P
  asks_nothing x a on at h = record {
    told = λ clean. h;
    same = λ clean. itself_unchanged (at.ready on clean);
    leaves = itself_called g x a on at;
  }
    where
      itself_unchanged : IsInside (seen g a) → IsUnchanged (seen g a) (seen g a)
      itself_unchanged here = (record { was_open = here.is_open; is_open = here.is_open; now_is = refl; committed_is = refl; mode = refl }, record { changes = refl; last_rowid = refl }, refl)

  -- from the rows of a text of the code to the rows that its query means
  module _ {text : List ℕ} {q : Query} {names : List (List ℕ)} (is : IsSelection ours text q names) (said : List ℕ) (params : Row) (means : Trees → List Row) (gives : (db : Trees) (rows : List Row) → IsSureAnswer q (overlay db []) params rows → IsPermutation (means db) rows) (a b : Work S) where
    permuted : said ≡ text → IsInside (seen g a) → (rows : List Row) → Shown said params (seen g a) (seen g b) rows → IsPermutation (means (rows_seen g a)) rows
    permuted same at rows h = gives (rows_seen g a) rows (selected is params (seen g a) (seen g b) rows at (subst (λ t. Shown t params (seen g a) (seen g b) rows) same h))

    pub has_asked : (r : Result Bool StoreFault) → IsActive g a → OnAnswer g b r (λ has. (rows : List Row) × Shown said params (seen g a) (seen g b) rows × (has ≡ not (length rows == 0))) → Unmoved g r a b → KeepsFrame g r a b → said ≡ text
        → Queries g a b r (λ db has. is_there (means db) ≡ has)
    has_asked (Ok has) at told same leaves text_is = record {
      told = λ clean. let h = told clean in there_found _ h.0 (permuted text_is (inside g has a b at leaves clean) h.0 h.1) ∙ sym h.2;
      same = same;
      leaves = leaves;
    }
    has_asked (Err e) at told same leaves text_is = record { told = λ clean. tt; same = same; leaves = leaves }

    pub only_asked : {X : Type 0} (columns : X → Row) (r : Result (Option X) StoreFault) → IsActive g a → OnAnswer g b r (λ found. Shown said params (seen g a) (seen g b) (shown_of columns found)) → Unmoved g r a b → KeepsFrame g r a b → said ≡ text
        → Queries g a b r (λ db found. means db ≡ shown_of columns found)
    only_asked columns (Ok found) at told same leaves text_is = record {
      told = λ clean. shown_exactly columns _ found (permuted text_is (inside g found a b at leaves clean) (shown_of columns found) (told clean));
      same = same;
      leaves = leaves;
    }
    only_asked columns (Err e) at told same leaves text_is = record { told = λ clean. tt; same = same; leaves = leaves }
