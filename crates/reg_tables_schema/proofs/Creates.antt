-- What a text does that makes a table.
use Rattle.reg_tables_schema.proofs.Words.{◌≡◌, ℕ, List, [], ◌∷◌, ◌++◌, false, None, cond, Ok, Err, Result, OnOk, refl, sym, ap, subst, ◌∙◌}
use Rattle.reg_tables_schema.proofs.Words.{MatchBool, AllByRecursion, Table, Trees, Schema, CreateTable, created, next_tree, Database}
use Rattle.reg_tables_schema.proofs.Words.{Gives, Then, Tally, lacks_sequence, State, HasCleanDisk, Survives, Executes, mode_of, Error}
use Rattle.reg_tables_schema.proofs.Words.{runs_as, through, Grows, HasMade, IsInsideWith, Makes}
use Rattle.sqlite.specs.Change.{KeepsRows}
use Rattle.sqlite_catalog.specs.Calls.{CreatesTable}
use Rattle.sqlite.specs.Does.{Does, MakesTable, MakesSequence, no_rows, sequence_text}
use Rattle.sqlite.specs.State.{CommitsBy}
use Rattle.reg_tables_schema.proofs.TableTexts.{IsStep}
use Rattle.reg_tables_schema.proofs.Edits.{same_value}
use Rattle.reg_tables_schema.proofs.WriteLemmas.{survives_inside}

pub still_empty : (tables : List Table) (old new : Trees) → KeepsRows tables old new → AllByRecursion (λ t. old t.tree ≡ []) tables → AllByRecursion (λ t. new t.tree ≡ []) tables
still_empty [] old new h e = tt
still_empty (t ∷ more) old new h e = (h.0 ∙ e.0, still_empty more old new h.1 e.1)

pub and_last : (P : Table → Type 0) (tables : List Table) (last : Table) → AllByRecursion P tables → P last → AllByRecursion P (tables ++ last ∷ [])
and_last P [] last all one = (one, tt)
and_last P (t ∷ more) last all one = (all.0, and_last P more last all.1 one)

pub inside_of : (schema : Schema) (s : State) → HasMade schema s → IsInsideWith schema s
inside_of schema s at = record { schema_is = at.made.schema_is; is_open = at.is_open; inside = at.inside }

module _ (text : List ℕ) (table : Table) (before after : Schema) (it : IsStep text table before after) (old new : State) where
  grown : (count : ℕ) → IsInsideWith before old → Executes text [] old new (Ok count) → Grows before after (next_tree before) old new
  grown count at h =
      let has = at.schema_is in
      let w = runs_as text [] old new before has CreateTable it.command it.plain count h in
      let done = subst (λ t. Does old.step_limit (mode_of old) [] old.now t None CreateTable (Ok (w.tally, new.now))) it.statement w.changed in
      let all = through (Then (MakesTable text old.now) MakesSequence) (λ after. Gives {A = Tally × Database} (no_rows false, after)) (w.tally, new.now) done in
      let both = through (MakesTable text old.now) MakesSequence all.0 all.1 in
      let made : CreatesTable old.now.schema text old.now.trees both.0.schema both.0.trees = both.1 in
      let same : made.table ≡ table = same_value (sym made.defined ∙ it.defined) in
      let schema_is : both.0.schema ≡ after = made.is ∙ ap (λ s. created s made.table) has ∙ ap (created before) same ∙ it.leads in
      let none : lacks_sequence both.0.schema ≡ false = ap lacks_sequence schema_is ∙ it.uncounted in
      let unchanged : all.0 ≡ both.0 = same_value (subst (λ b. MatchBool b (MakesTable sequence_text both.0 (Ok all.0)) (Gives both.0 (Ok all.0))) none both.2) in
      let now : new.now ≡ both.0 = ap (λ (p : Tally × Database). p.1) (same_value all.2) ∙ unchanged in
      let new_empty : new.now.trees (next_tree before) ≡ [] = ap (λ (d : Database). d.trees (next_tree before)) now ∙ subst (λ s. both.0.trees (next_tree s) ≡ []) has made.empty in
      let kept : KeepsRows before.tables old.now.trees new.now.trees = subst (λ (d : Database). KeepsRows before.tables old.now.trees d.trees) (sym now) (subst (λ s. KeepsRows s.tables old.now.trees both.0.trees) has made.others) in
      record {
        kept = kept;
        empty = new_empty;
        committed = w.shown.committed_is ∙ ap (λ b. cond b old.committed new.now) at.inside;
        inside = record { schema_is = ap (λ (d : Database). d.schema) now ∙ schema_is; is_open = w.shown.is_open; inside = w.shown.mode ∙ at.inside };
      }

  -- where there are rows
  pub grows : (tree : ℕ) → next_tree before ≡ tree → (r : Result ℕ Error) → IsInsideWith before old → Executes text [] old new r → OnOk r (Grows before after tree old new)
  grows tree next (Err e) at h = tt
  grows tree next (Ok count) at h = subst (λ t. Grows before after t old new) next (grown count at h)

  pub grow_survives : (HasCleanDisk old → IsInsideWith before old) → Survives old new (CommitsBy text [] old) → Survives old new (λ _. ⊥)
  grow_survives ready = survives_inside text [] old before CreateTable it.command new refl (λ clean. ((ready clean).schema_is, (ready clean).inside))

  -- where there are none
  pub makes : (r : Result ℕ Error) → HasMade before old → Executes text [] old new r → OnOk r (Makes after old new)
  makes (Err e) at h = tt
  makes (Ok count) at h =
      let g = grown count (inside_of before old at) h in
      let first = still_empty before.tables old.now.trees new.now.trees g.kept at.made.empty in
      let every = and_last (λ t. new.now.trees t.tree ≡ []) before.tables (record table { tree = next_tree before }) first g.empty in
      record {
        has = record {
          made = record { schema_is = g.inside.schema_is; empty = subst (λ (s : Schema). AllByRecursion (λ t. new.now.trees t.tree ≡ []) s.tables) it.leads every };
          is_open = g.inside.is_open;
          inside = g.inside.inside;
        };
        committed = g.committed;
      }

  pub create_survives : (HasCleanDisk old → HasMade before old) → Survives old new (CommitsBy text [] old) → Survives old new (λ _. ⊥)
  create_survives ready = grow_survives (λ clean. inside_of before old (ready clean))
