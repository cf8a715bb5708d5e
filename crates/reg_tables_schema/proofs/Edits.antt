-- What a write does to the trees, over any schema whose foreign keys have no action.
use Rattle.reg_tables_schema.proofs.Words.{◌≡◌, ◌⊎◌, inl, inr, ℕ, ℤ, List, [], ◌∷◌, length, slice_get, Bool, true, false, ◌&&◌, cond}
use Rattle.reg_tables_schema.proofs.Words.{Option, Some, None, Ok, Err, Result, refl, sym, ap, subst, subst₂, ◌∙◌, flat_map, Row, Term}
use Rattle.reg_tables_schema.proofs.Words.{Trees, Table, Schema, Insert, Update, Delete, Values, Database, Answers, Gives, Then, Tally}
use Rattle.reg_tables_schema.proofs.Words.{is_lt, MatchBool, State, mode_of, Program, ids_of, through}
use Rattle.std.proofs.Common.{◌/◌}
use Rattle.std.specs.List.{list_all, filter_map}
use Rattle.sqlite.specs.Effect.{value_rows}
use Rattle.sqlite.specs.Rows.{Written, Task, Sourced, Queried, Counter, Counts, CountsIn, Inserts, Updates, Deletes, Edited, sequence, count_of, higher, last_id, rowids_for, stamped}
use Rattle.sqlite.specs.Does.{Tested, Returns, Concludes, AtPlace, OnRows, OnTable, WritesRows}
use Rattle.sqlite.specs.declared.run.Mode.{Mode}
use Rattle.std.specs.Ordering.{int_cmp}
use Rattle.std.specs.Prelude.{fold}
use Rattle.sqlite_schema.specs.declared.command.Command.{Command}
use Rattle.sqlite.specs.State.{Writes}
use Rattle.sqlite_schema.specs.declared.schema.Reference.{Reference}
use Rattle.sqlite_schema.specs.declared.schema.Action.{Action}
use Rattle.sqlite_schema.specs.declared.schema.Action.TheVariants.{NoAction, Restrict, Cascade, SetNull, SetDefault}
use Rattle.sqlite_schema.specs.declared.schema.Keys.TheVariants.{Enforced}
use Rattle.sqlite_schema.specs.Rules.{Refers, parent_key}
use Rattle.sqlite_rules.specs.declared.error.Rowids.TheVariants.{Chosen, Above, Given}
use Rattle.sqlite_rules.specs.Edit.{Edit, edit_of, taken_by, Applies}
use Rattle.sqlite_rules.specs.Action.{work_by, work_for, pairs, deed_of, deed_for, Writes as Edits}
use Rattle.sqlite.proofs.Callers.{one_step}

abbrev pub is_idle : Action → Bool
is_idle NoAction = true
is_idle _ = false

abbrev pub is_inert : Reference → Bool
is_inert ref = is_idle ref.on_delete && is_idle ref.on_update

-- no foreign key acts on the rows that refer
abbrev pub has_no_action : List Table → Bool
has_no_action tables = list_all (λ t. list_all is_inert t.references) tables

-- a part that gave a value did not stop on the way
pub went : {B E R : Type 0} {b : B} {Stops : E → Type 0} → ((stop : E) × Stops stop × (Ok b ≡ Err stop)) ⊎ R → R
went (inl stopped) = absurd (let e = stopped.2 in cc)
went (inr on) = on

pub same_value : {B E : Type 0} {a b : B} → ◌≡◌ {A = Result B E} (Ok a) (Ok b) → a ≡ b
same_value e = cc

pub both_true : (a b : Bool) → (a && b) ≡ true → (a ≡ true) × (b ≡ true)
both_true true b h = (refl, h)
both_true false b h = absurd cc

idle_deed : (keys_delete : Bool) (a : Action) → is_idle a ≡ true → deed_of Enforced keys_delete a ≡ None
idle_deed d NoAction h = refl
idle_deed d Restrict h = cc
idle_deed d Cascade h = cc
idle_deed d SetNull h = cc
idle_deed d SetDefault h = cc

idle_choice : (b : Bool) (x y : Action) → is_idle x ≡ true → is_idle y ≡ true → is_idle (cond b x y) ≡ true
idle_choice true x y p q = p
idle_choice false x y p q = q

no_deed : (deletes : Bool) (ref : Reference) → is_inert ref ≡ true → deed_for Enforced deletes ref ≡ None
no_deed deletes ref h =
    let both = both_true _ _ h in
    idle_deed deletes _ (idle_choice deletes ref.on_delete ref.on_update both.0 both.1)

module _ (schema : Schema) (depth tree : ℕ) (olds news : List Row) where
  no_work_for : (child : Table) (ref : Reference) → is_inert ref ≡ true → work_for schema Enforced depth tree olds news child ref ≡ None
  no_work_for child ref h = ap (λ d. work_by depth tree (pairs olds news) child ref d (parent_key schema.tables ref)) (no_deed _ ref h)

  no_work_by : (child : Table) (refs : List Reference) → list_all is_inert refs ≡ true → filter_map (work_for schema Enforced depth tree olds news child) refs ≡ []
  no_work_by child [] h = refl
  no_work_by child (ref ∷ more) h =
      let both = both_true _ _ h in
      rw (no_work_for child ref both.0) (no_work_by child more both.1)

  no_work_in : (tables : List Table) → has_no_action tables ≡ true → flat_map (λ child. filter_map (work_for schema Enforced depth tree olds news child) child.references) tables ≡ []
  no_work_in [] h = refl
  no_work_in (t ∷ more) h =
      let both = both_true _ _ h in
      rw (no_work_by t t.references both.0) (no_work_in more both.1)

-- where no foreign key acts, an edit is its one step
pub applies : (schema : Schema) (db next : Trees) (edit : Edit) → has_no_action schema.tables ≡ true → Edits schema Enforced db edit (Ok next) → Applies schema Enforced db edit next
applies schema db next edit none h = one_step schema Enforced db next edit (no_work_in schema 0 edit.table.tree (taken_by db edit) edit.news schema.tables none) h

abbrev pub step_of : Trees → Table → Row → List Term → ℕ → Edit
step_of db table params terms width = edit_of db table [] Chosen 0 (value_rows (stamped table params) width (length terms / width) terms)

uncounted_rowids : (table : Table) (top : ℤ) → table.is_counted ≡ false → rowids_for table top ≡ Chosen
uncounted_rowids table top h = ap (λ b. cond b (Above top) Chosen) h

module _ (task : Task) (uncounted : task.table.is_counted ≡ false) where
  counts_nothing : (mid next : Trees) (counter : Option Row) (top : ℤ) → Counts task mid counter top (Ok next) → next ≡ mid
  counts_nothing mid next counter top h = same_value (subst (λ b. MatchBool (cond b (is_lt (int_cmp (count_of counter) top)) false) (CountsIn task mid counter top (sequence task.schema) (Ok next)) (Gives mid (Ok next))) uncounted h)

  -- the step of an INSERT of VALUES, in a table that doesn't count
  inserts : (db : Trees) (terms : List Term) (width : ℕ) (w : Written) → Inserts task (Values terms width) db (Ok w)
      → Edited task.schema task.keys db (step_of db task.table task.params terms width) (Ok w.trees)
  inserts db terms width w h =
      let Finish = λ (counter : Option Row) (edit : Edit) (next : Trees). Gives {A = Written} (record { trees = next; rows = edit.news; last = last_id edit.news }) in
      let edit = λ (rows : List Row) (counter : Option Row). edit_of db task.table [] (rowids_for task.table (count_of counter)) 0 rows in
      let given = through (Sourced task.limit (record { schema = task.schema; trees = db }) (stamped task.table task.params) (Values terms width)) (λ rows. Then (Counter task db) (λ counter.
      Then (Edited task.schema task.keys db (edit rows counter)) (λ mid. Then (Counts task mid counter (fold higher (count_of counter) (edit rows counter).news)) (Finish counter (edit rows counter))))) w h in
      let counted = through (Counter task db) (λ counter.
      Then (Edited task.schema task.keys db (edit given.0 counter)) (λ mid. Then (Counts task mid counter (fold higher (count_of counter) (edit given.0 counter).news)) (Finish counter (edit given.0 counter)))) w given.2 in
      let wrote = through (Edited task.schema task.keys db (edit given.0 counted.0)) (λ mid. Then (Counts task mid counted.0 (fold higher (count_of counted.0) (edit given.0 counted.0).news)) (Finish counted.0 (edit given.0 counted.0))) w counted.2 in
      let kept = through (Counts task wrote.0 counted.0 (fold higher (count_of counted.0) (edit given.0 counted.0).news)) (Finish counted.0 (edit given.0 counted.0)) w wrote.2 in
      let trees : wrote.0 ≡ w.trees = sym (ap (λ (it : Written). it.trees) (same_value kept.2) ∙ counts_nothing wrote.0 kept.0 counted.0 _ kept.1) in
      let same : edit given.0 counted.0 ≡ step_of db task.table task.params terms width =
      ap (λ r. edit_of db task.table [] r 0 given.0) (uncounted_rowids task.table _ uncounted) ∙ ap (edit_of db task.table [] Chosen 0) given.1.1 in
      subst₂ (λ e t. Edited task.schema task.keys db e (Ok t)) same trees wrote.1

-- the rows that the query of an UPDATE or DELETE answers, and the step that it makes of them
pub record Changed (task : Task) (db : Trees) (q : Program) (params : Row) (edit : List Row → Edit) (next : Trees) : Type 0 where
  pub rows : List Row
  pub answer : Answers (record { schema = task.schema; trees = db }) q params rows
  pub step : Edited task.schema task.keys db (edit rows) (Ok next)

abbrev pub replacing : Trees → Table → List Row → Edit
replacing db table rows = edit_of db table (ids_of rows) Given 1 rows

abbrev pub removing : Trees → Table → List Row → Edit
removing db table rows = edit_of db table (ids_of rows) Given 0 []

updates : (task : Task) (db : Trees) (q : Program) (params : Row) (w : Written) → Updates task q params db (Ok w) → Changed task db q params (replacing db task.table) w.trees
updates task db q params w h =
    let Finish = λ (rows : List Row) (next : Trees). Gives {A = Written} (record { trees = next; rows = (replacing db task.table rows).news; last = None }) in
    let asked = through (Queried task.limit (record { schema = task.schema; trees = db }) q params) (λ rows. Then (Edited task.schema task.keys db (replacing db task.table rows)) (Finish rows)) w h in
    let wrote = through (Edited task.schema task.keys db (replacing db task.table asked.0)) (Finish asked.0) w asked.2 in
    record { rows = asked.0; answer = asked.1; step = subst (λ t. Edited task.schema task.keys db (replacing db task.table asked.0) (Ok t)) (sym (ap (λ (it : Written). it.trees) (same_value wrote.2))) wrote.1 }

deletes : (task : Task) (db : Trees) (q : Program) (w : Written) → Deletes task q db (Ok w) → Changed task db q task.params (removing db task.table) w.trees
deletes task db q w h =
    let Finish = λ (rows : List Row) (next : Trees). Gives {A = Written} (record { trees = next; rows = taken_by db (removing db task.table rows); last = None }) in
    let asked = through (Queried task.limit (record { schema = task.schema; trees = db }) q task.params) (λ rows. Then (Edited task.schema task.keys db (removing db task.table rows)) (Finish rows)) w h in
    let wrote = through (Edited task.schema task.keys db (removing db task.table asked.0)) (Finish asked.0) w asked.2 in
    record { rows = asked.0; answer = asked.1; step = subst (λ t. Edited task.schema task.keys db (removing db task.table asked.0) (Ok t)) (sym (ap (λ (it : Written). it.trees) (same_value wrote.2))) wrote.1 }

-- what the last part of a statement leaves
concluded : (task : Task) (mode : Mode) (w : Written) (tally : Tally) (after : Database) → Concludes task mode None w (Ok (tally, after)) → after ≡ record { schema = task.schema; trees = w.trees }
concluded task mode w tally after h =
    let Rest = λ (in_doubt : Bool) (rows : List Row). Gives {A = Tally × Database} (record { rows = Some (length w.rows); last = w.last; shown = rows; in_doubt = in_doubt }, record { schema = task.schema; trees = w.trees }) in
    let tested = through (Tested mode (λ among. Refers among task.schema w.trees)) (λ in_doubt. Then (Returns task w None) (Rest in_doubt)) (tally, after) h in
    let shown = through (Returns task w None) (Rest tested.0) (tally, after) tested.2 in
    ap (λ (p : Tally × Database). p.1) (same_value shown.2)

module _ (old new : State) (schema : Schema) (has : old.now.schema ≡ schema) (at : ℕ) (table : Table) (found : slice_get schema.tables at ≡ Some table) (text : List ℕ) (params : Row) (count : ℕ) where
  abbrev task : Task
  task = record { limit = old.step_limit; keys = Enforced; schema = schema; table = table; params = params }

  on_rows : (command : Command) (tally : Tally) → OnTable old.step_limit (mode_of old) params old.now at (λ task. OnRows task (mode_of old) None command old.now.trees) (Ok (tally, new.now))
      → OnRows task (mode_of old) None command old.now.trees (Ok (tally, new.now))
  on_rows command tally h =
      let Go = λ (s : Schema) (t : Table). OnRows (record { limit = old.step_limit; keys = Enforced; schema = s; table = t; params = params }) (mode_of old) None command old.now.trees in
      let here = subst (λ s. AtPlace (Go s) (slice_get s.tables at) (Ok (tally, new.now))) has h in
      subst (λ o. AtPlace (Go schema) o (Ok (tally, new.now))) found here

  pub record Put (edit : Edit) : Type 0 where
    pub schema_is : new.now.schema ≡ schema
    pub step : Applies schema Enforced old.now.trees edit new.now.trees

  module _ (none : has_no_action schema.tables ≡ true) where
    pub inserted : table.is_counted ≡ false → (terms : List Term) (width : ℕ) → Writes old new None (Insert at (Values terms width)) text params count → Put (step_of old.now.trees table params terms width)
    inserted uncounted terms width w =
        let wrote = through (WritesRows task old.now.trees (Insert at (Values terms width))) (Concludes task (mode_of old) None) (w.tally, new.now) (on_rows (Insert at (Values terms width)) w.tally w.changed) in
        let now = concluded task (mode_of old) wrote.0 w.tally new.now wrote.2 in
        let edit = inserts task uncounted old.now.trees terms width wrote.0 wrote.1 in
        let step = applies schema old.now.trees wrote.0.trees _ none (let it : Edits schema Enforced old.now.trees (step_of old.now.trees table params terms width) (Ok wrote.0.trees) = edit in it) in
        record {
          schema_is = ap (λ (d : Database). d.schema) now;
          step = subst (Applies schema Enforced old.now.trees (step_of old.now.trees table params terms width)) (sym (ap (λ (d : Database). d.trees) now)) step;
        }

    pub record Done (q : Program) (edit : List Row → Edit) : Type 0 where
      pub rows : List Row
      pub answer : Answers old.now q params rows
      pub put : Put (edit rows)

    finished : (q : Program) (command : Command) (edit : List Row → Edit) (tally : Tally) (wrote : (w : Written) × Changed task old.now.trees q params edit w.trees × Concludes task (mode_of old) None w (Ok (tally, new.now))) → Done q edit
    finished q command edit tally wrote =
        let now = concluded task (mode_of old) wrote.0 tally new.now wrote.2 in
        let step = applies schema old.now.trees wrote.0.trees (edit wrote.1.rows) none (let it : Edits schema Enforced old.now.trees (edit wrote.1.rows) (Ok wrote.0.trees) = wrote.1.step in it) in
        record {
          rows = wrote.1.rows;
          answer = subst (λ s. Answers (record old.now { schema = s }) q params wrote.1.rows) (sym has) wrote.1.answer;
          put = record { schema_is = ap (λ (d : Database). d.schema) now; step = subst (Applies schema Enforced old.now.trees (edit wrote.1.rows)) (sym (ap (λ (d : Database). d.trees) now)) step };
        }

    pub updated : (q : Program) → Writes old new None (Update at q) text params count → Done q (replacing old.now.trees table)
    updated q w =
        let wrote = through (WritesRows task old.now.trees (Update at q)) (Concludes task (mode_of old) None) (w.tally, new.now) (on_rows (Update at q) w.tally w.changed) in
        finished q (Update at q) (replacing old.now.trees table) w.tally (wrote.0, updates task old.now.trees q params wrote.0 wrote.1, wrote.2)

    pub deleted : (q : Program) → Writes old new None (Delete at q) text params count → Done q (removing old.now.trees table)
    deleted q w =
        let wrote = through (WritesRows task old.now.trees (Delete at q)) (Concludes task (mode_of old) None) (w.tally, new.now) (on_rows (Delete at q) w.tally w.changed) in
        finished q (Delete at q) (removing old.now.trees table) w.tally (wrote.0, deletes task old.now.trees q wrote.0 wrote.1, wrote.2)
