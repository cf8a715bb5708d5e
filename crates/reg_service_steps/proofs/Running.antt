-- Questions and a change after them, within a transaction.
use Rattle.std.proofs.Common.{◌≡◌, false, arith, Ok, Err, Result, IsErr, subst, sym}
use Rattle.sqlite.specs.State.{HasCleanDisk}
use Rattle.sqlite.specs.Tree.{Trees}
use Rattle.sqlite_trees.specs.declared.store.Store.{Ghosts}
use Rattle.reg_tables.specs.declared.work.Work.{Work}
use Rattle.reg_tables.specs.Works.{IsActive, KeepsFrame, has_failed, rows_seen, seen}
use Rattle.reg_tables.specs.Calling.{Queries}
use Rattle.reg_access.proofs.Calls.{called_err, called_ok, itself_called, then_called}
use Rattle.reg_access.proofs.Questions.{same_rows}
use Rattle.reg_tables.specs.Calling.{Updates}

module _ {S : Type 0} (g : Ghosts S) where
  -- a call is refused
  pub runs_failed : {T U E F : Type 0} {Q : Trees → Trees → U → Type 0} (e : E) (r : Result U F) (a b : Work S) → IsErr r → KeepsFrame {T = T} g (Err e) a b → Updates g a b r Q
  runs_failed e (Ok y) a b h call = absurd cc
  runs_failed e (Err f) a b h call = record { told = λ clean. tt; leaves = called_err g e f a b call }

  -- the same of a refusal that is passed on
  pub runs_stopped : {U F : Type 0} {Q : Trees → Trees → U → Type 0} (r : Result U F) (a b : Work S) → IsErr r → KeepsFrame g r a b → Updates g a b r Q
  runs_stopped (Ok y) a b h call = absurd cc
  runs_stopped (Err e) a b h call = record { told = λ clean. tt; leaves = call }

  -- nothing is called
  pub runs_nothing : {T E : Type 0} {Q : Trees → Trees → T → Type 0} (x : T) (a : Work S) → has_failed a ≡ false → IsActive g a → Q (rows_seen g a) (rows_seen g a) x → Updates {E = E} g a a (Ok x) Q
  runs_nothing x a on at h = record { told = λ clean. h; leaves = itself_called g x a on at }

  -- it is only asked
  pub runs_asked : {T U E F : Type 0} {P : Trees → T → Type 0} {Q : Trees → Trees → U → Type 0} (x : T) (y : U) (a b : Work S) → Queries {E = E} g a b (Ok x) P → (P (rows_seen g a) x → Q (rows_seen g a) (rows_seen g a) y) → Updates {E = F} g a b (Ok y) Q
  runs_asked {Q} x y a b one made = record {
    told = λ clean. subst (λ db. Q (rows_seen g a) db y) (same_back clean) (made (one.told clean));
    leaves = called_ok g x y a b one.leaves;
  }
    where
      same_back : HasCleanDisk (seen g b) → rows_seen g a ≡ rows_seen g b
      same_back clean = let same = same_rows g x a b one clean in sym same

  -- it is asked, and then changed
  pub runs_changed : {T U V E F G : Type 0} {P : Trees → T → Type 0} {Q : Trees → Trees → V → Type 0} (X : Trees → Type 0) (x : T) (z : U) (y : V) (a b c : Work S) → Queries {E = E} g a b (Ok x) P → KeepsFrame {E = F} g (Ok z) b c → (HasCleanDisk (seen g c) → X (rows_seen g b))
      → (P (rows_seen g a) x → X (rows_seen g a) → Q (rows_seen g a) (rows_seen g c) y) → Updates {E = G} g a c (Ok y) Q
  runs_changed X x z y a b c one call carried made = record {
    told = λ clean. let early : HasCleanDisk (seen g b) = omega (arith, clean, call.survives.clean) in
        made (one.told early) (subst X (same_rows g x a b one early) (carried clean));
    leaves = called_ok g z y a c (then_called g x (Ok z) a b c one.leaves call);
  }

  -- it is changed at once
  pub runs_alone : {T U E F X : Type 0} {Q : Trees → Trees → U → Type 0} (z : T) (y : U) (a b : Work S) → KeepsFrame {E = E} g (Ok z) a b → (HasCleanDisk (seen g b) → X) → (X → Q (rows_seen g a) (rows_seen g b) y) → Updates {E = F} g a b (Ok y) Q
  runs_alone z y a b call carried made = record { told = λ clean. made (carried clean); leaves = called_ok g z y a b call }

  -- what is run means something else too
  pub runs_as : {T E : Type 0} {P Q : Trees → Trees → T → Type 0} (r : Result T E) (a b : Work S) → ((x : T) → P (rows_seen g a) (rows_seen g b) x → Q (rows_seen g a) (rows_seen g b) x) → Updates g a b r P → Updates g a b r Q
  runs_as (Ok x) a b made one = record { told = λ clean. made x (one.told clean); leaves = one.leaves }
  runs_as (Err e) a b made one = record { told = λ clean. tt; leaves = one.leaves }

  -- the answer means something else too
  pub asks_as : {T E : Type 0} {P Q : Trees → T → Type 0} (r : Result T E) (a b : Work S) → ((x : T) → P (rows_seen g a) x → Q (rows_seen g a) x) → Queries g a b r P → Queries g a b r Q
  asks_as (Ok x) a b made one = record { told = λ clean. made x (one.told clean); same = one.same; leaves = one.leaves }
  asks_as (Err e) a b made one = record { told = λ clean. tt; same = one.same; leaves = one.leaves }

  -- it is asked, and then a change is refused
  pub runs_unchanged : {T U V E F G : Type 0} {P : Trees → T → Type 0} {Q : Trees → Trees → V → Type 0} (x : T) (e : F) (r : Result V G) (a b c : Work S) → IsErr r → Queries {E = E} g a b (Ok x) P → KeepsFrame {T = U} g (Err e) b c → Updates g a c r Q
  runs_unchanged x e r a b c h one call = runs_failed e r a c h (then_called g x (Err e) a b c one.leaves call)

  -- and one that is passed on
  pub runs_refused : {T U E F : Type 0} {P : Trees → T → Type 0} {Q : Trees → Trees → U → Type 0} (x : T) (r : Result U F) (a b c : Work S) → IsErr r → Queries {E = E} g a b (Ok x) P → KeepsFrame g r b c → Updates g a c r Q
  runs_refused x (Ok y) a b c h one call = absurd cc
  runs_refused x (Err e) a b c h one call = record { told = λ clean. tt; leaves = then_called g x (Err e) a b c one.leaves call }

  -- it is asked, and then all that follows runs
  pub runs_after : {T U E F : Type 0} {P : Trees → T → Type 0} {R Q : Trees → Trees → U → Type 0} (x : T) (r : Result U F) (a b c : Work S) → Queries {E = E} g a b (Ok x) P → Updates g b c r R → ((y : U) → P (rows_seen g a) x → R (rows_seen g a) (rows_seen g c) y → Q (rows_seen g a) (rows_seen g c) y) → Updates g a c r Q
  runs_after {R} x (Ok y) a b c one two made = record {
    told = λ clean. let early : HasCleanDisk (seen g b) = omega (arith, clean, two.leaves.survives.clean) in
        made y (one.told early) (subst (λ db. R db (rows_seen g c) y) (same_rows g x a b one early) (two.told clean));
    leaves = then_called g x (Ok y) a b c one.leaves two.leaves;
  }
  runs_after x (Err e) a b c one two made = record { told = λ clean. tt; leaves = then_called g x (Err e) a b c one.leaves two.leaves }

  -- it runs, and then all that follows is asked
  pub runs_then : {T U E F : Type 0} {P : Trees → Trees → T → Type 0} {R : Trees → U → Type 0} {Q : Trees → Trees → U → Type 0} (x : T) (r : Result U F) (a b c : Work S) → Updates {E = E} g a b (Ok x) P → Queries g b c r R
      → ((y : U) → P (rows_seen g a) (rows_seen g c) x → R (rows_seen g c) y → Q (rows_seen g a) (rows_seen g c) y) → Updates g a c r Q
  runs_then {P} {R} x (Ok y) a b c one two made = record {
    told = λ clean.
        let early : HasCleanDisk (seen g b) = omega (arith, clean, two.leaves.survives.clean) in
        let same = sym (same_rows g y b c two clean) in
        made y (subst (λ db. P (rows_seen g a) db x) same (one.told early)) (subst (λ db. R db y) same (two.told clean));
    leaves = then_called g x (Ok y) a b c one.leaves two.leaves;
  }
  runs_then x (Err e) a b c one two made = record { told = λ clean. tt; leaves = then_called g x (Err e) a b c one.leaves two.leaves }

  -- it is asked, then changed, and then all that follows is asked
  pub runs_told : {T U V E F H : Type 0} {P : Trees → T → Type 0} {C : Trees → Trees → U → Type 0} {R : Trees → V → Type 0} {Q : Trees → Trees → V → Type 0} (x : T) (z : U) (r : Result V H) (a b c d : Work S) → Queries {E = E} g a b (Ok x) P → Updates {E = F} g b c (Ok z) C → Queries g c d r R
      → ((y : V) → P (rows_seen g a) x → C (rows_seen g a) (rows_seen g d) z → R (rows_seen g d) y → Q (rows_seen g a) (rows_seen g d) y) → Updates g a d r Q
  runs_told {C} {R} x z r a b c d one two three made =
      runs_after {R = λ before after y. C before after z × R after y} x r a b d one (runs_then z r b c d two three (λ y changes tells. (changes, tells))) (λ y is both. made y is both.0 both.1)

  -- what is answered is made of what ran
  pub runs_made : {T U E F : Type 0} {P : Trees → Trees → T → Type 0} {Q : Trees → Trees → U → Type 0} (x : T) (y : U) (a b : Work S) → (P (rows_seen g a) (rows_seen g b) x → Q (rows_seen g a) (rows_seen g b) y) → Updates {E = E} g a b (Ok x) P → Updates {E = F} g a b (Ok y) Q
  runs_made x y a b made one = record { told = λ clean. made (one.told clean); leaves = called_ok g x y a b one.leaves }

  -- what is answered is made of what ran and what was asked after it
  pub runs_ended : {T U V E F H : Type 0} {P : Trees → Trees → T → Type 0} {R : Trees → U → Type 0} {Q : Trees → Trees → V → Type 0} (x : T) (z : U) (y : V) (a b c : Work S) → Updates {E = E} g a b (Ok x) P → Queries {E = F} g b c (Ok z) R
      → (P (rows_seen g a) (rows_seen g c) x → R (rows_seen g c) z → Q (rows_seen g a) (rows_seen g c) y) → Updates {E = H} g a c (Ok y) Q
  runs_ended {P} {R} x z y a b c one two made = runs_made z y a c (λ both. made both.0 both.1) (runs_then {Q = λ before after w. P before after x × R after w} x (Ok z) a b c one two (λ w ran told. (ran, told)))

  -- and of what was asked before it
  pub runs_whole : {T U V W E F H I : Type 0} {P : Trees → T → Type 0} {C : Trees → Trees → U → Type 0} {R : Trees → V → Type 0} {Q : Trees → Trees → W → Type 0} (x : T) (z : U) (v : V) (y : W) (a b c d : Work S) → Queries {E = E} g a b (Ok x) P → Updates {E = F} g b c (Ok z) C → Queries {E = H} g c d (Ok v) R
      → (P (rows_seen g a) x → C (rows_seen g a) (rows_seen g d) z → R (rows_seen g d) v → Q (rows_seen g a) (rows_seen g d) y) → Updates {E = I} g a d (Ok y) Q
  runs_whole {P} {C} {R} x z v y a b c d one two three made =
      runs_made v y a d (λ all. made all.0.0 all.0.1 all.1) (runs_told {Q = λ before after w. (P before x × C before after z) × R after w} x z (Ok v) a b c d one two three (λ w is changes told. ((is, changes), told)))
