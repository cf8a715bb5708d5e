-- What the writing statements on restricted crates do.
use Rattle.reg_tables_sql.proofs.Words.{◌≡◌, ℕ, pos, List, [], ◌∷◌, Result, OnOk, refl, Null, Int, Row, Term, lit, col, Trees, inner, end}
use Rattle.reg_tables_sql.proofs.Words.{overlay, Answers, Values, Insert, Delete, State, Executes, Error, IsPlain, command_of, Program}
use Rattle.reg_tables_sql.proofs.Words.{ours, IsInside, IsRowWrite, Adds, Removes, step_of, plain, of_table, adds, removes, cast_int}
use Rattle.reg_tables_sql.proofs.Words.{cast_null, equals_first, matches_number, is_restricted}
use Rattle.sqlite.specs.Listing.{understood}
use Rattle.sqlite_tied.specs.Compute.{everything}
use Rattle.reg_tables_schema.specs.Schema.{restricted}
use Rattle.reg_tables_sql.specs.declared.restricted.TheConstants.{INSERT_TEXT, REMOVE_TEXT}
use Rattle.reg_tables_sql.specs.Restricted.{restricted_row}

abbrev insert_terms : List Term
insert_terms = col 0 0 ∷ lit Null ∷ []

insert_is : command_of (understood ours INSERT_TEXT.now) ≡ Insert 10 (Values insert_terms 2)
unfolding understood everything
insert_is = refl

insert_plain : IsPlain (understood ours INSERT_TEXT.now)
unfolding understood everything
insert_plain = (refl, refl)

insert_news : (db : Trees) (of_crate : ℕ) → (step_of db restricted (Int (pos of_crate) ∷ []) insert_terms 2).news ≡ restricted_row of_crate ∷ []
insert_news db of_crate = rw (cast_int (pos of_crate), cast_null)

pub inserts : (old new : State) (of_crate : ℕ) (r : Result ℕ Error) → IsInside old → Executes INSERT_TEXT.now (Int (pos of_crate) ∷ []) old new r → OnOk r (Adds 17 (restricted_row of_crate) old new)
inserts old new of_crate r at h =
    adds INSERT_TEXT.now 10 restricted refl insert_plain refl insert_terms 2 insert_is (Int (pos of_crate) ∷ []) (restricted_row of_crate) old new r at (insert_news old.now.trees of_crate) h

pub insert_writes : IsRowWrite (understood ours INSERT_TEXT.now)
unfolding understood everything
insert_writes = refl

abbrev remove_query : Program
remove_query = record { lets = []; body = plain (inner 17 end) (equals_first 0) (col 1 0 ∷ []) }

remove_is : command_of (understood ours REMOVE_TEXT.now) ≡ Delete 10 remove_query
unfolding understood everything
remove_is = refl

remove_plain : IsPlain (understood ours REMOVE_TEXT.now)
unfolding understood everything
remove_plain = (refl, refl)

pub deletes : (old new : State) (of_crate : ℕ) (r : Result ℕ Error) → IsInside old → Executes REMOVE_TEXT.now (Int (pos of_crate) ∷ []) old new r → OnOk r (Removes 17 (is_restricted of_crate) old new)
deletes old new of_crate r at h =
    let params : Row = Int (pos of_crate) ∷ [] in
    let db = overlay old.now.trees [] in
    removes REMOVE_TEXT.now 10 restricted refl remove_plain remove_query remove_is params (is_restricted of_crate) old new r at
    (λ rows (given : Answers old.now remove_query params rows). of_table db params 17 (equals_first 0) (col 1 0 ∷ []) rows (is_restricted of_crate) (matches_number db 17 0 of_crate) given.answer)
    h

pub remove_writes : IsRowWrite (understood ours REMOVE_TEXT.now)
unfolding understood everything
remove_writes = refl
