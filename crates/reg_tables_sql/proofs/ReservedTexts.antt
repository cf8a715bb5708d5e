-- What the statements on reserved names do.
use Rattle.reg_tables_sql.proofs.Words.{◌≡◌, ℕ, List, [], ◌∷◌, Result, OnOk, refl, Null, Int, Text, Row, Term, lit, col, Trees, inner, end}
use Rattle.reg_tables_sql.proofs.Words.{overlay, Program, Values, Answers, Insert, Delete, State, Executes, Error, IsPlain, command_of}
use Rattle.reg_tables_sql.proofs.Words.{next_rowid, ours, IsInside, IsRowWrite, AddsColumns, Removes, step_of, plain, of_table}
use Rattle.reg_tables_sql.proofs.Words.{adds_columns, removes, cast_null, is_text, equals_first, matches_text}
use Rattle.sqlite.specs.Listing.{understood}
use Rattle.sqlite_tied.specs.Compute.{everything}
use Rattle.reg_tables_schema.specs.Schema.{reserved}
use Rattle.reg_tables_sql.specs.declared.reserved.TheConstants.{INSERT_TEXT, REMOVE_TEXT}
use Rattle.reg_tables_sql.specs.Reserved.{reserved_columns}

abbrev insert_terms : List Term
insert_terms = lit Null ∷ col 0 0 ∷ []

insert_is : command_of (understood ours INSERT_TEXT.now) ≡ Insert 8 (Values insert_terms 2)
unfolding understood everything
insert_is = refl

insert_plain : IsPlain (understood ours INSERT_TEXT.now)
unfolding understood everything
insert_plain = (refl, refl)

insert_news : (db : Trees) (canon : List ℕ) → (step_of db reserved (Text canon ∷ []) insert_terms 2).news ≡ (Int (next_rowid (db 14)) ∷ reserved_columns canon) ∷ []
insert_news db canon = rw cast_null

pub inserts : (old new : State) (canon : List ℕ) (r : Result ℕ Error) → IsInside old → Executes INSERT_TEXT.now (Text canon ∷ []) old new r → OnOk r (AddsColumns 14 (reserved_columns canon) old new)
inserts old new canon r at h =
    adds_columns INSERT_TEXT.now 8 reserved refl insert_plain refl insert_terms 2 insert_is (Text canon ∷ []) (reserved_columns canon) old new r at (insert_news old.now.trees canon) h

pub insert_writes : IsRowWrite (understood ours INSERT_TEXT.now)
unfolding understood everything
insert_writes = refl

abbrev remove_query : Program
remove_query = record { lets = []; body = plain (inner 14 end) (equals_first 1) (col 1 0 ∷ []) }

remove_is : command_of (understood ours REMOVE_TEXT.now) ≡ Delete 8 remove_query
unfolding understood everything
remove_is = refl

remove_plain : IsPlain (understood ours REMOVE_TEXT.now)
unfolding understood everything
remove_plain = (refl, refl)

pub deletes : (old new : State) (canon : List ℕ) (r : Result ℕ Error) → IsInside old → Executes REMOVE_TEXT.now (Text canon ∷ []) old new r → OnOk r (Removes 14 (is_text 1 canon) old new)
deletes old new canon r at h =
    let params : Row = Text canon ∷ [] in
    let db = overlay old.now.trees [] in
    removes REMOVE_TEXT.now 8 reserved refl remove_plain remove_query remove_is params (is_text 1 canon) old new r at
    (λ rows (given : Answers old.now remove_query params rows). of_table db params 14 (equals_first 1) (col 1 0 ∷ []) rows (is_text 1 canon) (matches_text db 14 1 canon) given.answer)
    h

pub remove_writes : IsRowWrite (understood ours REMOVE_TEXT.now)
unfolding understood everything
remove_writes = refl
