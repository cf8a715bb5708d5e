-- What the statements on accounts do.
use Rattle.reg_tables_sql.proofs.Words.{◌≡◌, ℕ, pos, List, [], ◌∷◌, Bool, true, cond, Option, Some, None, Ok, Result, OnOk, refl, subst}
use Rattle.reg_tables_sql.proofs.Words.{option_map, Null, Int, Text, Row, Term, lit, col, cast, Trees, Values, Insert, State, Executes}
use Rattle.reg_tables_sql.proofs.Words.{Error, IsPlain, command_of, edited, has_rowid, put_row, without_rowid, ours, sql_bool, text_or_null}
use Rattle.reg_tables_sql.proofs.Words.{IsInside, IsRowWrite, Adds, step_of, replacing, adds, cast_int, cast_null, equals_first}
use Rattle.sqlite.specs.Values.{bound_value, or_null}
use Rattle.sqlite.specs.Kind.TheVariants.{Text as TextKind}
use Rattle.sqlite.specs.Listing.{understood}
use Rattle.sqlite_tied.specs.Compute.{everything}
use Rattle.reg_tables_schema.specs.Schema.{accounts}
use Rattle.reg_tables_sql.specs.declared.accounts.TheConstants.{ENABLE_TEXT, INSERT_TEXT}
use Rattle.reg_tables_sql.specs.Accounts.{Enables, account_row}
use Rattle.reg_tables_sql.proofs.Updates.{IsUpdate, matches_key, updates_none, updates_one, updates_only}

abbrev insert_terms : List Term
insert_terms = col 0 0 ∷ lit Null ∷ col 0 1 ∷ col 0 2 ∷ lit (Int (pos 1)) ∷ []

insert_is : command_of (understood ours INSERT_TEXT.now) ≡ Insert 1 (Values insert_terms 5)
unfolding understood everything
insert_is = refl

insert_plain : IsPlain (understood ours INSERT_TEXT.now)
unfolding understood everything
insert_plain = (refl, refl)

cast_text : (name : Option (List ℕ)) → cast TextKind (text_or_null name) ≡ text_or_null name
cast_text None = refl
cast_text (Some t) = refl

insert_news : (db : Trees) (id : ℕ) (login : List ℕ) (name : Option (List ℕ)) → (step_of db accounts (Int (pos id) ∷ Text login ∷ text_or_null name ∷ []) insert_terms 5).news ≡ account_row id login name true ∷ []
insert_news db id login name = rw (cast_int (pos id), cast_int (pos 1), cast_null, cast_text name)

inserts : (old new : State) (id : ℕ) (login : List ℕ) (name : Option (List ℕ)) (r : Result ℕ Error) → IsInside old → Executes INSERT_TEXT.now (Int (pos id) ∷ Text login ∷ text_or_null name ∷ []) old new r
    → OnOk r (Adds 1 (account_row id login name true) old new)
inserts old new id login name r at h =
    adds INSERT_TEXT.now 1 accounts refl insert_plain refl insert_terms 5 insert_is (Int (pos id) ∷ Text login ∷ text_or_null name ∷ []) (account_row id login name true) old new r at (insert_news old.now.trees id login name) h

-- the name as it is bound
bound_name : {X : Type 0} (name : Option X) (bytes : X → List ℕ) → bound_value (or_null (λ x. Text (bytes x)) name) ≡ text_or_null (option_map bytes name)
bound_name None bytes = refl
bound_name (Some x) bytes = refl

pub inserts_bound : {X : Type 0} (old new : State) (id : ℕ) (login : List ℕ) (name : Option X) (bytes : X → List ℕ) (r : Result ℕ Error) → IsInside old
    → Executes INSERT_TEXT.now (Int (pos id) ∷ Text login ∷ bound_value (or_null (λ x. Text (bytes x)) name) ∷ []) old new r → OnOk r (Adds 1 (account_row id login (option_map bytes name) true) old new)
inserts_bound old new id login name bytes r at h =
    inserts old new id login (option_map bytes name) r at (subst (λ v. Executes INSERT_TEXT.now (Int (pos id) ∷ Text login ∷ v ∷ []) old new r) (bound_name name bytes) h)

pub insert_writes : IsRowWrite (understood ours INSERT_TEXT.now)
unfolding understood everything
insert_writes = refl

-- the old rowid, and then the new row
abbrev enable_project : List Term
enable_project = col 1 0 ∷ col 1 0 ∷ lit Null ∷ col 1 2 ∷ col 1 3 ∷ col 0 1 ∷ []

pub enable_is : IsUpdate ENABLE_TEXT.now 1 accounts (equals_first 0) enable_project
unfolding understood everything
enable_is = record { found = refl; bare = (refl, refl); command = refl; writing = refl; seen = λ db. refl }

enable_edit : (db : Trees) (id : ℕ) (login : List ℕ) (name : Option (List ℕ)) (enabled : Bool)
    → edited db (replacing db accounts ((Int (pos id) ∷ account_row id login name enabled) ∷ [])) ≡ put_row (account_row id login name enabled) (without_rowid (pos id) (db 1))
enable_edit db id login name enabled = rw (cast_int (pos id), cast_int (cond enabled (pos 1) (pos 0)), cast_null, cast_text name)

pub enables : (old new : State) (id : ℕ) (enabled : Bool) (count : ℕ) → IsInside old → Executes ENABLE_TEXT.now (Int (pos id) ∷ sql_bool enabled ∷ []) old new (Ok count) → Enables id enabled old new
enables old new id enabled count at h =
    let rest : Row = sql_bool enabled ∷ [] in
    let met = matches_key 1 id rest in
    record {
      replaced = λ login name was. updates_one enable_is _ (has_rowid (pos id)) met old new count at h id (account_row id login name was) _ (enable_edit old.now.trees id login name enabled);
      unmatched = updates_none enable_is _ (has_rowid (pos id)) met old new count at h;
      touches = updates_only enable_is _ (has_rowid (pos id)) met old new count at h;
    }
