-- Statements that read, once for all texts.
use Rattle.reg_tables_schema.proofs.Words.{◌≡◌, inl, List, [], ℕ, false, Result, Ok, Err, IfOk, arith, subst, sym, Row, Query, IsSureAnswer}
use Rattle.reg_tables_schema.proofs.Words.{Schema, State, HasCleanDisk, IsPlain, command_of, IsInsideWith, OnlyReads, IsReading}
use Rattle.sqlite.specs.Program.{overlay}
use Rattle.sqlite.specs.Command.TheVariants.{Select}
use Rattle.sqlite.specs.Listing.{understood, reads_listing}
use Rattle.sqlite.specs.State.{Shown}
use Rattle.sqlite.proofs.Callers.{reads_as as answered_as}

-- what the schema makes of a text: this query, which only reads
pub record IsSelection (schema : Schema) (text : List ℕ) (q : Query) (names : List (List ℕ)) : Type 0 where
  pub command : command_of (understood schema text) ≡ Select (record { lets = []; body = q }) names
  pub unlisted : reads_listing schema text ≡ false
  pub plain : IsPlain (understood schema text)

-- the same, of the schema that is there
pub selected_by : {schema : Schema} {text : List ℕ} {q : Query} {names : List (List ℕ)} → IsSelection schema text q names
    → (params : Row) (old new : State) (rows : List Row) → old.now.schema ≡ schema → Shown text params old new rows
    → IsSureAnswer q (overlay old.now.trees []) params rows
selected_by {schema} {text} {q} {names} is params old new rows at h = (answered_as text params old new schema at _ is.command is.plain is.unlisted rows h).answer

-- the rows that it shows are an answer of its query
pub selected : {schema : Schema} {text : List ℕ} {q : Query} {names : List (List ℕ)} → IsSelection schema text q names
    → (params : Row) (old new : State) (rows : List Row) → IsInsideWith schema old → Shown text params old new rows
    → IsSureAnswer q (overlay old.now.trees []) params rows
selected is params old new rows at h = selected_by is params old new rows at.schema_is h

turned : {T E : Type 0} (r : Result T E) {P Q : T → Type 0} → ((x : T) → P x → Q x) → IfOk r P → IfOk r Q
turned (Ok x) f h = f x h
turned (Err e) f h = tt

-- what an answer tells, in other words
pub reads_as : {T E : Type 0} (old new : State) (r : Result T E) {P Q : T → Type 0} {I : Type 0} → (HasCleanDisk old → I) → (I → (x : T) → P x → Q x) → IsReading old new r P → IsReading old new r Q
reads_as old new r ready turn h = record {
  told = λ clean. turned r (turn (ready (omega (arith, h.survives.clean)))) (h.told clean);
  only = h.only;
  survives = h.survives;
}

none_told : {U F : Type 0} (Q : U → Type 0) (q : Result U F) (f : F) → q ≡ Err f → IfOk q Q
none_told Q q f was = rw was tt

-- what is made of the answer, and a failure that is passed on
module _ {T U E F : Type 0} (old new : State) (P : T → Type 0) (Q : U → Type 0) where
  at_ok : (r : Result T E) (q : Result U F) (x : T) (y : U) → r ≡ Ok x → q ≡ Ok y → (P x → Q y) → (HasCleanDisk new → IfOk r P) → HasCleanDisk new → IfOk q Q
  at_ok r q x y is was made told clean = rw was (made (rw is at (told clean)))

  only_ok : (r : Result T E) (q : Result U F) (x : T) (y : U) → r ≡ Ok x → q ≡ Ok y → OnlyReads r old new → OnlyReads q old new
  only_ok r q x y is was h = rw was (rw is at h)

  pub reads_made : (r : Result T E) (q : Result U F) (x : T) (y : U) → r ≡ Ok x → q ≡ Ok y → (P x → Q y) → IsReading old new r P → IsReading old new q Q
  reads_made r q x y is was made h = record { told = at_ok r q x y is was made h.told; only = λ clean. only_ok r q x y is was (h.only clean); survives = h.survives }

  only_err : (r : Result T E) (q : Result U F) (e : E) (f : F) → r ≡ Err e → q ≡ Err f → OnlyReads r old new → OnlyReads q old new
  only_err r q e f is was h = rw was (rw is at h)

  pub reads_failed : (r : Result T E) (q : Result U F) (e : E) (f : F) → r ≡ Err e → q ≡ Err f → IsReading old new r P → IsReading old new q Q
  reads_failed r q e f is was h = record { told = λ _. none_told Q q f was; only = λ clean. only_err r q e f is was (h.only clean); survives = h.survives }

only_then : {T U E F : Type 0} (old new : State) (r : Result T E) (q : Result U F) (x : T) → r ≡ Ok x → OnlyReads r old new → OnlyReads q old new
only_then old new r (Ok y) x is h = ((rw is at h).0, tt)
only_then old new r (Err e) x is h = (tt, inl (rw is at h).0)

made_of : {U F : Type 0} (q : Result U F) {R Q : U → Type 0} → ((y : U) → R y → Q y) → IfOk q R → IfOk q Q
made_of (Ok y) f h = f y h
made_of (Err e) f h = tt

-- what another function makes of the answer
pub reads_then : {T U E F : Type 0} (old new : State) (r : Result T E) (q : Result U F) (x : T) {P : T → Type 0} {R Q : U → Type 0} {I : Type 0} → r ≡ Ok x → (HasCleanDisk old → I)
    → (I → P x → (y : U) → R y → Q y) → IfOk q R → IsReading old new r P → IsReading old new q Q
reads_then old new r q x is ready turn made h = record {
  told = λ clean. made_of q (turn (ready (omega (arith, h.survives.clean))) (rw is at (h.told clean))) made;
  only = λ clean. only_then old new r q x is (h.only clean);
  survives = h.survives;
}
