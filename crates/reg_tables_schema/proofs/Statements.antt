-- What a statement on one of our tables makes of its rows, from the table and the terms of the statement alone.
use Rattle.reg_tables_schema.proofs.Words.{◌≡◌, ℕ, ℤ, pos, List, [], ◌∷◌, slice_get, Bool, true, false, not, ◌&&◌, ◌||◌, cond, map, Some}
use Rattle.reg_tables_schema.proofs.Words.{Ok, Err, Result, OnOk, refl, sym, ap, subst, ◌∙◌, filter, list_any, IsPermutation, Value, Null}
use Rattle.reg_tables_schema.proofs.Words.{Int, Row, Term, Table, cast, Values, Answers, Insert, Update, Delete, State, Shows, Executes}
use Rattle.reg_tables_schema.proofs.Words.{Error, IsPlain, command_of, statement_of, runs_as, next_rowid, ids_of, rowid, has_rowid, put_row}
use Rattle.reg_tables_schema.proofs.Words.{without_rowid, Program, ours, our_tables, IsInside, AddsColumns}
use Rattle.std.proofs.lemmas.List.Sorted.{list_any-IsPermutation}
use Rattle.sqlite.specs.Kind.TheVariants.{Integer}
use Rattle.sqlite.specs.Ops.{unary}
use Rattle.sqlite.specs.Listing.{understood}
use Rattle.sqlite_rules.specs.Edit.{id_in, put_all, without_all, are_fresh, edited}
use Rattle.reg_tables_schema.specs.Changes.{KeepsOthers, Becomes, Touches, Adds, Replaces, is_at_one_of, Removes}
use Rattle.reg_tables_schema.proofs.Edits.{step_of, inserted, replacing, updated, deleted}
use Rattle.reg_tables_schema.proofs.Queries.{same_filter}

either : (b : Bool) (x : Value) → cond b x x ≡ x
either true x = refl
either false x = refl

-- an integer column takes an integer as it is, and NULL
pub cast_int : (n : ℤ) → cast Integer (Int n) ≡ Int n
unfolding unary
cast_int n = either _ (Int n)

pub cast_null : cast Integer Null ≡ Null
unfolding unary
cast_null = either _ Null

not_true : {b : Bool} → (not b && true) ≡ true → b ≡ false
not_true {b = true} h = absurd cc
not_true {b = false} h = refl

abbrev is_among : List ℤ → Row → Bool
is_among ids row = list_any (λ id. has_rowid id row) ids

none_among : (b c : Bool) → (not b && not c) ≡ not (b || c)
none_among true c = refl
none_among false c = refl

filters_twice : (p q : Row → Bool) (rows : List Row) → filter p (filter q rows) ≡ filter (λ r. q r && p r) rows
filters_twice p q [] = refl
filters_twice p q (r ∷ rows) = one_more (q r) (p r) r _ _ (filters_twice p q rows)
  where
    one_more : (b c : Bool) (r : Row) (xs ys : List Row) → filter p xs ≡ ys → filter p (cond b (r ∷ xs) xs) ≡ cond (b && p r) (r ∷ ys) ys
    one_more true c r xs ys h = ap (λ zs. cond (p r) (r ∷ zs) zs) h
    one_more false c r xs ys h = h

-- taking rowids out one by one leaves the rows that have none of them
leaves : (ids : List ℤ) (rows : List Row) → without_all rows ids ≡ filter (λ r. not (is_among ids r)) rows
leaves [] rows = sym (all_pass rows)
  where
    all_pass : (rs : List Row) → filter (λ (r : Row). true) rs ≡ rs
    all_pass [] = refl
    all_pass (r ∷ rs) = ap (λ xs. r ∷ xs) (all_pass rs)
leaves (id ∷ ids) rows =
    leaves ids (without_rowid id rows)
    ∙ filters_twice (λ r. not (is_among ids r)) (λ r. not (has_rowid id r)) rows
    ∙ same_filter _ _ (λ r. none_among (has_rowid id r) (is_among ids r)) rows

any_map : {A B : Type 0} (p : B → Bool) (f : A → B) (xs : List A) → list_any p (map f xs) ≡ list_any (λ x. p (f x)) xs
any_map p f [] = refl
any_map p f (x ∷ xs) = ap (λ b. p (f x) || b) (any_map p f xs)

left_rows : (gone rows all : List Row) → IsPermutation (map (λ row. rowid row ∷ []) gone) rows → without_all all (ids_of rows) ≡ filter (λ row. not (is_at_one_of gone row)) all
left_rows gone rows all h =
    let p = λ (r x : Row). has_rowid (id_in (rowid x)) r in
    leaves (ids_of rows) all
    ∙ same_filter _ _
    (λ r. ap not (any_map (λ id. has_rowid id r) (λ (x : Row). id_in (rowid x)) rows ∙ sym (list_any-IsPermutation (p r) (map (λ row. rowid row ∷ []) gone) rows h) ∙ any_map (p r) (λ (row : Row). rowid row ∷ []) gone))
    all

becomes : (old new : State) (tree : ℕ) (rows : List Row) (shown : Shows old new new.now (cond old.in_transaction old.committed new.now) old.in_transaction) → IsInside old → new.now.schema ≡ ours
    → new.now.trees tree ≡ rows → KeepsOthers tree old.now.trees new.now.trees → Becomes tree rows old new
becomes old new tree rows shown inside schema_is rows_are others = record {
  rows_are = rows_are;
  others = others;
  committed = shown.committed_is ∙ ap (λ b. cond b old.committed new.now) inside.inside;
  inside = record { schema_is = schema_is; is_open = shown.is_open; inside = shown.mode ∙ inside.inside };
}

module _ (text : List ℕ) (at : ℕ) (table : Table) (found : slice_get our_tables at ≡ Some table) (plain : IsPlain (understood ours text)) where
  module _ (uncounted : table.is_counted ≡ false) (terms : List Term) (width : ℕ) (is : command_of (understood ours text) ≡ Insert at (Values terms width)) where
    -- an INSERT of one row
    pub adds : (params row : Row) (old new : State) (r : Result ℕ Error) → IsInside old → (step_of old.now.trees table params terms width).news ≡ row ∷ [] → Executes text params old new r → OnOk r (Adds table.tree row old new)
    adds params row old new (Err e) inside news h = tt
    adds params row old new (Ok count) inside news h =
        let w = runs_as text params old new ours inside.schema_is (Insert at (Values terms width)) is plain count h in
        let put = inserted old new ours inside.schema_is at table found (statement_of text (understood ours text)) params count refl uncounted terms width w in
        let rows = old.now.trees table.tree in
        record {
          fresh = not_true (subst (λ ns. are_fresh rows ns ≡ true) news put.step.fresh);
          becomes = becomes old new table.tree _ w.shown inside put.schema_is (put.step.rows ∙ ap (put_all rows) news) put.step.tables;
        }

    -- the same, where SQL chooses the rowid
    pub adds_columns : (params columns : Row) (old new : State) (r : Result ℕ Error) → IsInside old
        → (step_of old.now.trees table params terms width).news ≡ (Int (next_rowid (old.now.trees table.tree)) ∷ columns) ∷ [] → Executes text params old new r → OnOk r (AddsColumns table.tree columns old new)
    adds_columns params columns old new (Err e) inside news h = tt
    adds_columns params columns old new (Ok count) inside news h =
        let id = next_rowid (old.now.trees table.tree) in (id, adds params (Int id ∷ columns) old new (Ok count) inside news h)

  -- an UPDATE that answers one row, whose rowid it keeps: it is put in the place of that rowid
  pub replaces : (q : Program) → command_of (understood ours text) ≡ Update at q → (params : Row) (id : ℕ) (row : Row) (old new : State) (r : Result ℕ Error) → IsInside old
      → ((rows : List Row) → Answers old.now q params rows → edited old.now.trees (replacing old.now.trees table rows) ≡ put_row row (without_rowid (pos id) (old.now.trees table.tree)))
      → Executes text params old new r → OnOk r (Replaces table.tree id row old new)
  replaces q is params id row old new (Err e) inside edit h = tt
  replaces q is params id row old new (Ok count) inside edit h =
      let w = runs_as text params old new ours inside.schema_is (Update at q) is plain count h in
      let done = updated old new ours inside.schema_is at table found (statement_of text (understood ours text)) params count refl q w in
      becomes old new table.tree _ w.shown inside done.put.schema_is (done.put.step.rows ∙ edit done.rows done.answer) done.put.step.tables

  -- an UPDATE, whatever rows it answers
  pub touches : (q : Program) → command_of (understood ours text) ≡ Update at q → (params : Row) (old new : State) (r : Result ℕ Error) → IsInside old → Executes text params old new r → OnOk r (Touches table.tree old new)
  touches q is params old new (Err e) inside h = tt
  touches q is params old new (Ok count) inside h =
      let w = runs_as text params old new ours inside.schema_is (Update at q) is plain count h in
      let done = updated old new ours inside.schema_is at table found (statement_of text (understood ours text)) params count refl q w in
      let b = becomes old new table.tree _ w.shown inside done.put.schema_is done.put.step.rows done.put.step.tables in
      record { others = b.others; committed = b.committed; inside = b.inside }

  -- a DELETE that answers the rowids of the rows that pass a test
  pub removes : (q : Program) → command_of (understood ours text) ≡ Delete at q → (params : Row) (test : Row → Bool) (old new : State) (r : Result ℕ Error) → IsInside old
      → ((rows : List Row) → Answers old.now q params rows → IsPermutation (map (λ row. rowid row ∷ []) (filter test (old.now.trees table.tree))) rows)
      → Executes text params old new r → OnOk r (Removes table.tree test old new)
  removes q is params test old new (Err e) inside gone h = tt
  removes q is params test old new (Ok count) inside gone h =
      let w = runs_as text params old new ours inside.schema_is (Delete at q) is plain count h in
      let done = deleted old new ours inside.schema_is at table found (statement_of text (understood ours text)) params count refl q w in
      let left = left_rows (filter test (old.now.trees table.tree)) done.rows (old.now.trees table.tree) (gone done.rows done.answer) in
      becomes old new table.tree _ w.shown inside done.put.schema_is (done.put.step.rows ∙ left) done.put.step.tables
