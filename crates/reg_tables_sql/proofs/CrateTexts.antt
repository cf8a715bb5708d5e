-- What the statements on crates do.
use Rattle.reg_tables_sql.proofs.Words.{◌≡◌, ℕ, pos, List, [], ◌∷◌, Result, OnOk, refl, Null, Int, Text, Term, lit, col, Trees, Values}
use Rattle.reg_tables_sql.proofs.Words.{Insert, State, Executes, Error, IsPlain, command_of, ours, IsInside, IsRowWrite, Adds, step_of}
use Rattle.reg_tables_sql.proofs.Words.{adds, cast_int, cast_null}
use Rattle.sqlite.specs.Listing.{understood}
use Rattle.sqlite_tied.specs.Compute.{everything}
use Rattle.reg_tables_schema.specs.Schema.{crates}
use Rattle.reg_tables_sql.specs.declared.crates.TheConstants.{INSERT_TEXT}
use Rattle.reg_tables_sql.specs.Crates.{crate_row}

abbrev insert_terms : List Term
insert_terms = col 0 0 ∷ lit Null ∷ col 0 1 ∷ col 0 2 ∷ []

insert_is : command_of (understood ours INSERT_TEXT.now) ≡ Insert 4 (Values insert_terms 4)
unfolding understood everything
insert_is = refl

insert_plain : IsPlain (understood ours INSERT_TEXT.now)
unfolding understood everything
insert_plain = (refl, refl)

insert_news : (db : Trees) (id : ℕ) (canon name : List ℕ) → (step_of db crates (Int (pos id) ∷ Text canon ∷ Text name ∷ []) insert_terms 4).news ≡ crate_row id canon name ∷ []
insert_news db id canon name = rw (cast_int (pos id), cast_null)

pub inserts : (old new : State) (id : ℕ) (canon name : List ℕ) (r : Result ℕ Error) → IsInside old → Executes INSERT_TEXT.now (Int (pos id) ∷ Text canon ∷ Text name ∷ []) old new r → OnOk r (Adds 7 (crate_row id canon name) old new)
inserts old new id canon name r at h =
    adds INSERT_TEXT.now 4 crates refl insert_plain refl insert_terms 4 insert_is (Int (pos id) ∷ Text canon ∷ Text name ∷ []) (crate_row id canon name) old new r at (insert_news old.now.trees id canon name) h

pub insert_writes : IsRowWrite (understood ours INSERT_TEXT.now)
unfolding understood everything
insert_writes = refl
