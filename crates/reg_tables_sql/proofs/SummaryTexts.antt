-- What the writing statements on summaries do.
use Rattle.reg_tables_sql.proofs.Words.{◌≡◌, ℕ, pos, List, [], ◌∷◌, Ok, Result, OnOk, refl, Null, Int, Row, Term, lit, col, Trees, Values}
use Rattle.reg_tables_sql.proofs.Words.{Insert, State, Executes, Error, IsPlain, command_of, edited, has_rowid, put_row, without_rowid}
use Rattle.reg_tables_sql.proofs.Words.{ours, IsInside, IsRowWrite, Adds, step_of, replacing, adds, cast_int, cast_null, equals_first}
use Rattle.sqlite.specs.Listing.{understood}
use Rattle.sqlite_tied.specs.Compute.{everything}
use Rattle.reg_tables_schema.specs.Schema.{summaries}
use Rattle.reg_tables_sql.specs.declared.summaries.TheConstants.{INSERT_TEXT, UPDATE_TEXT}
use Rattle.reg_tables_sql.specs.Summaries.{Summarizes, summary_row}
use Rattle.reg_tables_sql.proofs.Updates.{IsUpdate, matches_key, updates_none, updates_one, updates_only}

abbrev params : ℕ → ℕ → ℕ → Row
params of_crate highest index_length = Int (pos of_crate) ∷ Int (pos highest) ∷ Int (pos index_length) ∷ []

abbrev insert_terms : List Term
insert_terms = col 0 0 ∷ lit Null ∷ col 0 1 ∷ col 0 2 ∷ []

insert_is : command_of (understood ours INSERT_TEXT.now) ≡ Insert 9 (Values insert_terms 4)
unfolding understood everything
insert_is = refl

insert_plain : IsPlain (understood ours INSERT_TEXT.now)
unfolding understood everything
insert_plain = (refl, refl)

insert_news : (db : Trees) (of_crate highest index_length : ℕ) → (step_of db summaries (params of_crate highest index_length) insert_terms 4).news ≡ summary_row of_crate highest index_length ∷ []
insert_news db of_crate highest index_length = rw (cast_int (pos of_crate), cast_null, cast_int (pos highest), cast_int (pos index_length))

pub inserts : (old new : State) (of_crate highest index_length : ℕ) (r : Result ℕ Error) → IsInside old → Executes INSERT_TEXT.now (params of_crate highest index_length) old new r
    → OnOk r (Adds 16 (summary_row of_crate highest index_length) old new)
inserts old new of_crate highest index_length r at h =
    adds INSERT_TEXT.now 9 summaries refl insert_plain refl insert_terms 4 insert_is (params of_crate highest index_length) (summary_row of_crate highest index_length) old new r at
    (insert_news old.now.trees of_crate highest index_length) h

pub insert_writes : IsRowWrite (understood ours INSERT_TEXT.now)
unfolding understood everything
insert_writes = refl

-- the old rowid, and then the new row
abbrev update_project : List Term
update_project = col 1 0 ∷ col 1 0 ∷ lit Null ∷ col 0 1 ∷ col 0 2 ∷ []

pub update_is : IsUpdate UPDATE_TEXT.now 9 summaries (equals_first 0) update_project
unfolding understood everything
update_is = record { found = refl; bare = (refl, refl); command = refl; writing = refl; seen = λ db. refl }

update_edit : (db : Trees) (of_crate highest index_length : ℕ)
    → edited db (replacing db summaries ((Int (pos of_crate) ∷ summary_row of_crate highest index_length) ∷ [])) ≡ put_row (summary_row of_crate highest index_length) (without_rowid (pos of_crate) (db 16))
update_edit db of_crate highest index_length = rw (cast_int (pos of_crate), cast_null, cast_int (pos highest), cast_int (pos index_length))

pub summarizes : (old new : State) (of_crate highest index_length : ℕ) (count : ℕ) → IsInside old → Executes UPDATE_TEXT.now (params of_crate highest index_length) old new (Ok count)
    → Summarizes of_crate highest index_length old new
summarizes old new of_crate highest index_length count at h =
    let met = matches_key 16 of_crate (Int (pos highest) ∷ Int (pos index_length) ∷ []) in
    record {
      replaced = λ highest_was length_was.
          updates_one update_is _ (has_rowid (pos of_crate)) met old new count at h of_crate (summary_row of_crate highest_was length_was) _ (update_edit old.now.trees of_crate highest index_length);
      unmatched = updates_none update_is _ (has_rowid (pos of_crate)) met old new count at h;
      touches = updates_only update_is _ (has_rowid (pos of_crate)) met old new count at h;
    }
