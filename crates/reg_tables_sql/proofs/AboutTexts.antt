-- The statement that gives the one row of `about` another number.
use Rattle.reg_tables_sql.proofs.Words.{◌≡◌, ℕ, ℤ, pos, List, [], ◌∷◌, map, true, false, not, cond, Ok, refl, ap, subst, ◌∙◌, filter, Int}
use Rattle.reg_tables_sql.proofs.Words.{Row, Term, col, lit, State, Executes, Trees, edited, has_rowid, put_row, without_rowid, First}
use Rattle.reg_tables_sql.proofs.Words.{Second, IsInside, about_columns, replacing, cast_int, equals_first, shows, Database, IsUnchanged}
use Rattle.reg_tables_sql.proofs.Words.{Value, Bool, arith, rules}
use Rattle.std.specs.Prelude.{drop}
use Rattle.sqlite.specs.Listing.{understood}
use Rattle.sqlite_tied.specs.Compute.{everything}
use Rattle.reg_tables_schema.specs.Schema.{about}
use Rattle.reg_tables_sql.specs.declared.about.TheConstants.{NUMBER_SECOND_TEXT}
use Rattle.reg_tables_sql.specs.Abouts.{BecomesSecond, NumbersSecond}
use Rattle.reg_tables_schema.specs.Changes.{KeepsOthers}
use Rattle.sqlite_value.proofs.OrderLemmas.{value_cmp-Int}
use Rattle.reg_tables_sql.proofs.Updates.{IsUpdate, matches_rowid, rewrites_one, updates_only}

-- the old rowid, and then the new row
abbrev second_project : List Term
second_project = col 1 0 ∷ col 1 0 ∷ lit (Int (pos 2)) ∷ col 1 2 ∷ []

pub second_is : IsUpdate NUMBER_SECOND_TEXT.now 0 about (equals_first 0) second_project
unfolding understood everything
second_is = record { found = refl; bare = (refl, refl); command = refl; writing = refl; seen = λ db. refl }

itself : (id : ℤ) (columns : Row) → has_rowid id (Int id ∷ columns) ≡ true
itself id columns = rw (value_cmp-Int id id) (grind (arith, rules))

left_by : (b : Bool) (x : Row) → b ≡ true → cond (not b) (x ∷ []) [] ≡ []
left_by true x h = refl
left_by false x h = absurd cc

found_by : (b : Bool) (x : Row) → b ≡ true → cond b (x ∷ []) [] ≡ x ∷ []
found_by true x h = refl
found_by false x h = absurd cc

second_edit : (db : Trees) (id : ℤ) (base : List ℕ) → edited db (replacing db about ((Int id ∷ Int id ∷ about_columns Second base) ∷ [])) ≡ put_row (Int id ∷ about_columns Second base) (without_rowid id (db 0))
second_edit db id base = rw (cast_int id, cast_int (pos 2))

numbered : (old new : State) (id : ℤ) (count : ℕ) → IsInside old → Executes NUMBER_SECOND_TEXT.now (Int id ∷ []) old new (Ok count)
    → (base : List ℕ) → old.now.trees 0 ≡ (Int id ∷ about_columns First base) ∷ [] → new.now.trees 0 ≡ (Int id ∷ about_columns Second base) ∷ []
numbered old new id count at h base one =
    let row : Row = Int id ∷ about_columns Second base in
    let was : Row = Int id ∷ about_columns First base in
    let here = itself id (about_columns First base) in
    let found = ap (filter (has_rowid id)) one ∙ found_by (has_rowid id was) was here in
    let done = rewrites_one second_is _ (has_rowid id) (matches_rowid 0 id []) old new count at h was found in
    done ∙ second_edit old.now.trees id base ∙ ap (λ xs. put_row row (without_rowid id xs)) one ∙ ap (put_row row) (left_by (has_rowid id was) was here)

pub numbers : (old new : State) (id : ℤ) (count : ℕ) → IsInside old → Executes NUMBER_SECOND_TEXT.now (Int id ∷ []) old new (Ok count) → NumbersSecond id old new
numbers old new id count at h = record {
  second = numbered old new id count at h;
  touches = updates_only second_is _ (has_rowid id) (matches_rowid 0 id []) old new count at h;
}

-- a row is told by its rowid and the columns after it
whole_row : (rows : List Row) (v w : Value) (more : Row) → map (shows (0 ∷ [])) rows ≡ (v ∷ []) ∷ [] → map (drop 1) rows ≡ (w ∷ more) ∷ [] → rows ≡ (v ∷ w ∷ more) ∷ []
whole_row [] v w more ids is = absurd cc
whole_row ([] ∷ rows) v w more ids is = absurd cc
whole_row ((x ∷ xs) ∷ []) v w more ids is = cc
whole_row ((x ∷ xs) ∷ y ∷ rows) v w more ids is = absurd cc

pub becomes_second : (old mid new : State) (id : ℤ) → IsUnchanged old mid → map (shows (0 ∷ [])) (old.now.trees 0) ≡ (Int id ∷ []) ∷ [] → NumbersSecond id mid new → BecomesSecond old new
becomes_second old mid new id same ids made = record {
  second = λ base is. ap (map (drop 1)) (made.second base (ap (λ (d : Database). d.trees 0) same.0.now_is ∙ whole_row _ _ _ _ ids is));
  touches = record {
    others = subst (λ (d : Database). KeepsOthers 0 d.trees new.now.trees) same.0.now_is made.touches.others;
    committed = made.touches.committed ∙ same.0.committed_is;
    inside = made.touches.inside;
  };
}
