-- What the writing statement on scopes does.
use Rattle.reg_tables_sql.proofs.Words.{◌≡◌, ℕ, pos, List, [], ◌∷◌, Result, OnOk, refl, Null, Int, Term, lit, col, Trees, Values, Insert}
use Rattle.reg_tables_sql.proofs.Words.{State, Executes, Error, IsPlain, command_of, next_rowid, ours, IsInside, IsRowWrite, AddsColumns}
use Rattle.reg_tables_sql.proofs.Words.{step_of, adds_columns, cast_int, cast_null}
use Rattle.sqlite.specs.Listing.{understood}
use Rattle.sqlite_tied.specs.Compute.{everything}
use Rattle.reg_tables_schema.specs.Schema.{scopes}
use Rattle.reg_tables_sql.specs.declared.scopes.TheConstants.{INSERT_TEXT}
use Rattle.reg_tables_sql.specs.Scopes.{scope_columns}

abbrev insert_terms : List Term
insert_terms = lit Null ∷ col 0 0 ∷ col 0 1 ∷ col 0 2 ∷ col 0 3 ∷ col 0 4 ∷ []

insert_is : command_of (understood ours INSERT_TEXT.now) ≡ Insert 3 (Values insert_terms 6)
unfolding understood everything
insert_is = refl

insert_plain : IsPlain (understood ours INSERT_TEXT.now)
unfolding understood everything
insert_plain = (refl, refl)

insert_news : (db : Trees) (token place : ℕ) (pattern low high : List ℕ)
    → (step_of db scopes (scope_columns token place pattern low high) insert_terms 6).news ≡ (Int (next_rowid (db 5)) ∷ scope_columns token place pattern low high) ∷ []
insert_news db token place pattern low high = rw (cast_int (pos token), cast_int (pos place), cast_null)

pub inserts_scope : (old new : State) (token place : ℕ) (pattern low high : List ℕ) (r : Result ℕ Error) → IsInside old → Executes INSERT_TEXT.now (scope_columns token place pattern low high) old new r
    → OnOk r (AddsColumns 5 (scope_columns token place pattern low high) old new)
inserts_scope old new token place pattern low high r at h =
    let columns = scope_columns token place pattern low high in
    adds_columns INSERT_TEXT.now 3 scopes refl insert_plain refl insert_terms 6 insert_is columns columns old new r at (insert_news old.now.trees token place pattern low high) h

pub insert_writes : IsRowWrite (understood ours INSERT_TEXT.now)
unfolding understood everything
insert_writes = refl
