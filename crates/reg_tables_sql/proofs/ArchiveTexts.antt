-- What the statements on archives do.
use Rattle.reg_tables_sql.proofs.Words.{◌≡◌, ℕ, pos, List, [], ◌∷◌, Result, OnOk, refl, Null, Int, Blob, Term, lit, col, Trees, Values}
use Rattle.reg_tables_sql.proofs.Words.{Insert, State, Executes, Error, IsPlain, command_of, ours, IsInside, IsRowWrite, Adds, step_of}
use Rattle.reg_tables_sql.proofs.Words.{adds, cast_int, cast_null}
use Rattle.sqlite.specs.Listing.{understood}
use Rattle.sqlite_tied.specs.Compute.{everything}
use Rattle.reg_tables_schema.specs.Schema.{archives}
use Rattle.reg_tables_sql.specs.declared.archives.TheConstants.{INSERT_TEXT}
use Rattle.reg_tables_sql.specs.Archives.{archive_row}

abbrev insert_terms : List Term
insert_terms = col 0 0 ∷ lit Null ∷ col 0 1 ∷ []

insert_is : command_of (understood ours INSERT_TEXT.now) ≡ Insert 7 (Values insert_terms 3)
unfolding understood everything
insert_is = refl

insert_plain : IsPlain (understood ours INSERT_TEXT.now)
unfolding understood everything
insert_plain = (refl, refl)

insert_news : (db : Trees) (version : ℕ) (bytes : List ℕ) → (step_of db archives (Int (pos version) ∷ Blob bytes ∷ []) insert_terms 3).news ≡ archive_row version bytes ∷ []
insert_news db version bytes = rw (cast_int (pos version), cast_null)

pub inserts_archive : (old new : State) (version : ℕ) (bytes : List ℕ) (r : Result ℕ Error) → IsInside old
    → Executes INSERT_TEXT.now (Int (pos version) ∷ Blob bytes ∷ []) old new r → OnOk r (Adds 13 (archive_row version bytes) old new)
inserts_archive old new version bytes r at h =
    adds INSERT_TEXT.now 7 archives refl insert_plain refl insert_terms 3 insert_is (Int (pos version) ∷ Blob bytes ∷ []) (archive_row version bytes) old new r at (insert_news old.now.trees version bytes) h

pub insert_writes : IsRowWrite (understood ours INSERT_TEXT.now)
unfolding understood everything
insert_writes = refl
