-- What the statements on versions do.
use Rattle.reg_tables_sql.proofs.Words.{◌≡◌, ℕ, pos, List, [], ◌∷◌, ◌&&◌, Bool, true, false, cond, Option, Ok, Result, OnOk, refl, ap, ◌∙◌}
use Rattle.reg_tables_sql.proofs.Words.{Null, Int, Text, Blob, Row, column, value_cmp, Term, lit, col, op2, binary, is_true, Trees, Values}
use Rattle.reg_tables_sql.proofs.Words.{Insert, State, Executes, Error, IsPlain, command_of, Compare, Eq, Binary, put_row, without_rowid}
use Rattle.reg_tables_sql.proofs.Words.{ours, IsInside, IsRowWrite, Adds, sql_bool, text_or_null, step_of, replacing, and_true, same_filter}
use Rattle.reg_tables_sql.proofs.Words.{equals_int, adds, cast_int, cast_null, is_version, matched}
use Rattle.std.specs.Prelude.{map}
use Rattle.std.specs.Ordering.{is_eq}
use Rattle.sqlite.specs.Edit.{edited}
use Rattle.sqlite.specs.Listing.{understood}
use Rattle.sqlite_tied.specs.Compute.{everything}
use Rattle.reg_tables_schema.specs.Schema.{versions}
use Rattle.reg_tables_schema.proofs.Queries.{equals_text}
use Rattle.reg_tables_schema.proofs.Binding.{cast_text}
use Rattle.reg_tables_sql.specs.declared.versions.TheConstants.{INSERT_TEXT, SET_YANKED_TEXT}
use Rattle.reg_tables_sql.specs.Versions.{MarksYanked, version_row}
use Rattle.reg_tables_sql.proofs.Updates.{IsUpdate, Matches, updates_none, updates_one, updates_only}

abbrev insert_terms : List Term
insert_terms = col 0 0 ∷ lit Null ∷ col 0 1 ∷ col 0 2 ∷ col 0 3 ∷ col 0 4 ∷ col 0 5 ∷ col 0 6 ∷ lit (Int (pos 0)) ∷ []

insert_is : command_of (understood ours INSERT_TEXT.now) ≡ Insert 6 (Values insert_terms 9)
unfolding understood everything
insert_is = refl

insert_plain : IsPlain (understood ours INSERT_TEXT.now)
unfolding understood everything
insert_plain = (refl, refl)

abbrev insert_params : ℕ → ℕ → List ℕ → List ℕ → List ℕ → List ℕ → Option (List ℕ) → Row
insert_params id of_crate vers release digest stem description = Int (pos id) ∷ Int (pos of_crate) ∷ Text vers ∷ Text release ∷ Blob digest ∷ Blob stem ∷ text_or_null description ∷ []

insert_news : (db : Trees) (id of_crate : ℕ) (vers release digest stem : List ℕ) (description : Option (List ℕ))
    → (step_of db versions (insert_params id of_crate vers release digest stem description) insert_terms 9).news ≡ version_row id of_crate vers release digest stem description false ∷ []
insert_news db id of_crate vers release digest stem description = rw (cast_int (pos id), cast_int (pos of_crate), cast_int (pos 0), cast_null, cast_text description)

pub inserts_version : (old new : State) (id of_crate : ℕ) (vers release digest stem : List ℕ) (description : Option (List ℕ)) (r : Result ℕ Error) → IsInside old
    → Executes INSERT_TEXT.now (insert_params id of_crate vers release digest stem description) old new r → OnOk r (Adds 11 (version_row id of_crate vers release digest stem description false) old new)
inserts_version old new id of_crate vers release digest stem description r at h =
    adds INSERT_TEXT.now 6 versions refl insert_plain refl insert_terms 9 insert_is (insert_params id of_crate vers release digest stem description)
    (version_row id of_crate vers release digest stem description false) old new r at (insert_news old.now.trees id of_crate vers release digest stem description) h

pub insert_writes : IsRowWrite (understood ours INSERT_TEXT.now)
unfolding understood everything
insert_writes = refl

abbrev pub yank_filter : List Term
yank_filter = op2 (Compare Eq Binary) (col 1 2) (col 0 0) ∷ op2 (Compare Eq Binary) (col 1 4) (col 0 1) ∷ op2 (Compare Eq Binary) (col 1 3) (col 0 2) ∷ []

-- the old rowid, and then the new row
abbrev yank_project : List Term
yank_project = col 1 0 ∷ col 1 0 ∷ lit Null ∷ col 1 2 ∷ col 1 3 ∷ col 1 4 ∷ col 1 5 ∷ col 1 6 ∷ col 1 7 ∷ col 0 3 ∷ []

pub yank_is : IsUpdate SET_YANKED_TEXT.now 6 versions yank_filter yank_project
unfolding understood everything
yank_is = record { found = refl; bare = (refl, refl); command = refl; writing = refl; seen = λ db. refl }

-- the test of the text, and the same in the words of the contracts
abbrev pub wanted : ℕ → List ℕ → List ℕ → Row → Bool
wanted of_crate release vers r =
    is_true (binary (Compare Eq Binary) (column r 2) (Int (pos of_crate)))
    && (is_true (binary (Compare Eq Binary) (column r 4) (Text release)) && (is_true (binary (Compare Eq Binary) (column r 3) (Text vers)) && true))

pub is_wanted : (of_crate : ℕ) (release vers : List ℕ) (r : Row) → wanted of_crate release vers r ≡ is_version of_crate release vers r
is_wanted of_crate release vers r = rw (equals_int (column r 2) (pos of_crate), equals_text (column r 4) release, equals_text (column r 3) vers, and_true (is_eq (value_cmp (column r 3) (Text vers)))) refl

yank_matches : (of_crate : ℕ) (release vers : List ℕ) (yanked : Bool) → Matches 11 yank_filter (Int (pos of_crate) ∷ Text release ∷ Text vers ∷ sql_bool yanked ∷ []) (is_version of_crate release vers)
yank_matches of_crate release vers yanked db =
    let env = λ (r : Row). (Int (pos of_crate) ∷ Text release ∷ Text vers ∷ sql_bool yanked ∷ []) ∷ r ∷ [] in
    matched (wanted of_crate release vers) env (db 11) ∙ ap (map env) (same_filter _ _ (is_wanted of_crate release vers) (db 11))

yank_edit : (db : Trees) (id of_crate : ℕ) (vers release digest stem : List ℕ) (description : Option (List ℕ)) (yanked : Bool)
    → edited db (replacing db versions ((Int (pos id) ∷ version_row id of_crate vers release digest stem description yanked) ∷ []))
    ≡ put_row (version_row id of_crate vers release digest stem description yanked) (without_rowid (pos id) (db 11))
yank_edit db id of_crate vers release digest stem description yanked = rw (cast_int (pos id), cast_int (pos of_crate), cast_int (cond yanked (pos 1) (pos 0)), cast_null, cast_text description)

pub yanks : (old new : State) (of_crate : ℕ) (release vers : List ℕ) (yanked : Bool) (count : ℕ) → IsInside old
    → Executes SET_YANKED_TEXT.now (Int (pos of_crate) ∷ Text release ∷ Text vers ∷ sql_bool yanked ∷ []) old new (Ok count) → MarksYanked of_crate release vers yanked old new
yanks old new of_crate release vers yanked count at h =
    let met = yank_matches of_crate release vers yanked in
    record {
      replaced = λ id digest stem description was.
          updates_one yank_is _ (is_version of_crate release vers) met old new count at h id (version_row id of_crate vers release digest stem description was) _
          (yank_edit old.now.trees id of_crate vers release digest stem description yanked);
      unmatched = updates_none yank_is _ (is_version of_crate release vers) met old new count at h;
      touches = updates_only yank_is _ (is_version of_crate release vers) met old new count at h;
    }
