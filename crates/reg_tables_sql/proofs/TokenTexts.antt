-- What the writing statements on tokens do.
use Rattle.reg_tables_sql.proofs.Words.{◌≡◌, ℕ, pos, List, [], ◌∷◌, Bool, true, false, cond, Ok, Result, OnOk, refl, Null, Int, Blob, Row}
use Rattle.reg_tables_sql.proofs.Words.{Term, lit, col, Trees, cast, Values, Insert, State, Executes, Error, IsPlain, command_of, edited}
use Rattle.reg_tables_sql.proofs.Words.{has_rowid, put_row, without_rowid, ours, sql_bool, IsInside, IsRowWrite, Adds, step_of, replacing, adds}
use Rattle.reg_tables_sql.proofs.Words.{cast_int, cast_null, equals_first}
use Rattle.sqlite.specs.Kind.TheVariants.{Integer}
use Rattle.sqlite.specs.Listing.{understood}
use Rattle.sqlite_tied.specs.Compute.{everything}
use Rattle.reg_names.specs.declared.endpoint.Endpoints.{Endpoints}
use Rattle.reg_tables_schema.specs.Schema.{tokens}
use Rattle.reg_tables_sql.specs.declared.tokens.TheConstants.{INSERT_TEXT, REVOKE_TEXT}
use Rattle.reg_tables_sql.specs.Tokens.{Revokes, token_row}
use Rattle.reg_tables_sql.proofs.Updates.{IsUpdate, matches_key, updates_none, updates_one, updates_only}

abbrev insert_terms : List Term
insert_terms = col 0 0 ∷ lit Null ∷ col 0 1 ∷ col 0 2 ∷ lit (Int (pos 1)) ∷ col 0 3 ∷ col 0 4 ∷ col 0 5 ∷ col 0 6 ∷ []

insert_is : command_of (understood ours INSERT_TEXT.now) ≡ Insert 2 (Values insert_terms 9)
unfolding understood everything
insert_is = refl

insert_plain : IsPlain (understood ours INSERT_TEXT.now)
unfolding understood everything
insert_plain = (refl, refl)

abbrev insert_params : ℕ → List ℕ → ℕ → Endpoints → Row
insert_params id digest account e = Int (pos id) ∷ Blob digest ∷ Int (pos account) ∷ sql_bool e.publish_new ∷ sql_bool e.publish_update ∷ sql_bool e.yank ∷ sql_bool e.change_owners ∷ []

-- a mark is stored as it is
cast_mark : (b : Bool) → cast Integer (sql_bool b) ≡ sql_bool b
cast_mark b = cast_int (cond b (pos 1) (pos 0))

insert_news : (db : Trees) (id : ℕ) (digest : List ℕ) (account : ℕ) (e : Endpoints) → (step_of db tokens (insert_params id digest account e) insert_terms 9).news ≡ token_row id digest account true e ∷ []
insert_news db id digest account e =
    rw (cast_int (pos id), cast_null, cast_int (pos account), cast_int (pos 1), cast_mark e.publish_new, cast_mark e.publish_update, cast_mark e.yank, cast_mark e.change_owners)

pub inserts_token : (old new : State) (id : ℕ) (digest : List ℕ) (account : ℕ) (e : Endpoints) (r : Result ℕ Error) → IsInside old → Executes INSERT_TEXT.now (insert_params id digest account e) old new r
    → OnOk r (Adds 3 (token_row id digest account true e) old new)
inserts_token old new id digest account e r at h =
    adds INSERT_TEXT.now 2 tokens refl insert_plain refl insert_terms 9 insert_is (insert_params id digest account e) (token_row id digest account true e) old new r at (insert_news old.now.trees id digest account e) h

pub insert_writes : IsRowWrite (understood ours INSERT_TEXT.now)
unfolding understood everything
insert_writes = refl

-- the old rowid, and then the new row
abbrev revoke_project : List Term
revoke_project = col 1 0 ∷ col 1 0 ∷ lit Null ∷ col 1 2 ∷ col 1 3 ∷ lit (Int (pos 0)) ∷ col 1 5 ∷ col 1 6 ∷ col 1 7 ∷ col 1 8 ∷ []

pub revoke_is : IsUpdate REVOKE_TEXT.now 2 tokens (equals_first 0) revoke_project
unfolding understood everything
revoke_is = record { found = refl; bare = (refl, refl); command = refl; writing = refl; seen = λ db. refl }

revoke_edit : (db : Trees) (id : ℕ) (digest : List ℕ) (account : ℕ) (e : Endpoints)
    → edited db (replacing db tokens ((Int (pos id) ∷ token_row id digest account false e) ∷ [])) ≡ put_row (token_row id digest account false e) (without_rowid (pos id) (db 3))
revoke_edit db id digest account e =
    rw (cast_int (pos id), cast_null, cast_int (pos account), cast_int (pos 0), cast_mark e.publish_new, cast_mark e.publish_update, cast_mark e.yank, cast_mark e.change_owners)

pub revokes : (old new : State) (id : ℕ) (count : ℕ) → IsInside old → Executes REVOKE_TEXT.now (Int (pos id) ∷ []) old new (Ok count) → Revokes id old new
revokes old new id count at h =
    let met = matches_key 3 id [] in
    record {
      replaced = λ digest account was e. updates_one revoke_is _ (has_rowid (pos id)) met old new count at h id (token_row id digest account was e) _ (revoke_edit old.now.trees id digest account e);
      unmatched = updates_none revoke_is _ (has_rowid (pos id)) met old new count at h;
      touches = updates_only revoke_is _ (has_rowid (pos id)) met old new count at h;
    }
