-- The row of `about`, and a registry with nothing in it.
use Rattle.reg_tables_schema.proofs.Words.{◌≡◌, inl, inr, ℕ, zero, suc, pos, List, [], ◌∷◌, map, true, false, Ok, Err, Result, OnOk, OnErr}
use Rattle.reg_tables_schema.proofs.Words.{refl, sym, ap, subst, ◌∙◌, drop, AllByRecursion, Null, Int, Text, Row, Term, lit, col, Table}
use Rattle.reg_tables_schema.proofs.Words.{Trees, Database, Values, Insert, State, HasCleanDisk, Shows, Survives, Executes, Error, IsPlain}
use Rattle.reg_tables_schema.proofs.Words.{command_of, survives_then, next_rowid, put_row, ours, our_tables, old_schema, first_of_ours}
use Rattle.reg_tables_schema.proofs.Words.{blank, about, restricted, readers, IsInside, IsReady, Grows, Makes, Refuses, IsUndone, HasMade}
use Rattle.reg_tables_schema.proofs.Words.{AddsColumns}
use Rattle.std.proofs.Common.{◌≢◌}
use Rattle.std.specs.Prelude.{take}
use Rattle.sqlite.specs.Listing.{understood}
use Rattle.sqlite.specs.State.{IsLive, KeepsCommit, CommitsBy}
use Rattle.sqlite_catalog.specs.Listing.{IsSound}
use Rattle.sqlite_tied.specs.Compute.{everything}
use Rattle.reg_tables_schema.specs.declared.make.TheConstants.{INSERT_ABOUT_TEXT}
use Rattle.reg_tables_schema.specs.States.{Extends, IsAtRest, IsMade, about_columns}
use Rattle.reg_tables_schema.proofs.Creates.{and_last, still_empty}
use Rattle.reg_tables_schema.specs.declared.edition.SchemaVersion.TheVariants.{Second}
use Rattle.reg_tables_schema.proofs.Edits.{step_of}
use Rattle.reg_tables_schema.proofs.Statements.{adds_columns, cast_int, cast_null}
use Rattle.reg_tables_schema.proofs.WriteLemmas.{survives_inside}

abbrev about_terms : List Term
about_terms = lit Null ∷ lit (Int (pos 2)) ∷ col 0 0 ∷ []

about_is : command_of (understood ours INSERT_ABOUT_TEXT.now) ≡ Insert 0 (Values about_terms 3)
unfolding understood everything
about_is = refl

about_plain : IsPlain (understood ours INSERT_ABOUT_TEXT.now)
unfolding understood everything
about_plain = (refl, refl)

about_news : (db : Trees) (base : List ℕ) → (step_of db about (Text base ∷ []) about_terms 3).news ≡ (Int (next_rowid (db 0)) ∷ about_columns Second base) ∷ []
about_news db base = rw (cast_int (pos 2), cast_null)

pub inserts_about : (old new : State) (base : List ℕ) (r : Result ℕ Error) → IsInside old → Executes INSERT_ABOUT_TEXT.now (Text base ∷ []) old new r → OnOk r (AddsColumns 0 (about_columns Second base) old new)
inserts_about old new base r at h = adds_columns INSERT_ABOUT_TEXT.now 0 about refl about_plain refl about_terms 3 about_is (Text base ∷ []) (about_columns Second base) old new r at (about_news old.now.trees base) h

pub about_survives : (old new : State) (params : Row) → IsReady old → Survives old new (CommitsBy INSERT_ABOUT_TEXT.now params old) → Survives old new (λ _. ⊥)
about_survives old new params at = survives_inside INSERT_ABOUT_TEXT.now params old ours _ about_is new refl (λ clean. ((at clean).schema_is, (at clean).inside))

others_empty : (tables : List Table) (old new : Trees) → AllByRecursion (λ t. old t.tree ≡ []) tables → AllByRecursion (λ t. t.tree ≢ 0 → new t.tree ≡ old t.tree) tables
    → AllByRecursion (λ t. t.tree ≢ 0 → new t.tree ≡ []) tables
others_empty [] old new e h = tt
others_empty (t ∷ more) old new e h = ((λ other. h.0 other ∙ e.0), others_empty more old new e.1 h.1)

pub is_made : (mid last : State) (base : List ℕ) → HasMade ours mid → AddsColumns 0 (about_columns Second base) mid last → IsLive last → IsMade base last.now
is_made mid last base has adds live =
    let b = adds.1.becomes in
    record {
      schema_is = b.inside.schema_is;
      sound = subst (λ s. IsSound s last.now.trees) b.inside.schema_is (live b.inside.is_open).0;
      about = ap (map (drop 1)) (b.rows_are ∙ ap (put_row (Int adds.0 ∷ about_columns Second base)) has.made.empty.0);
      empty = others_empty our_tables mid.now.trees last.now.trees has.made.empty b.others;
    }

pub on_err : {T E A : Type 0} (r : Result T E) → A → OnErr r A
on_err (Ok x) a = tt
on_err (Err e) a = a

module _ (old mid : State) where
  pub begins_blank : old.now.schema ≡ blank → Shows old mid old.now old.committed true → HasMade blank mid
  begins_blank bare h = record { made = record { schema_is = ap (λ (d : Database). d.schema) h.now_is ∙ bare; empty = tt }; is_open = h.is_open; inside = h.mode }

  pub refused_keeps : Refuses old mid → KeepsCommit old mid
  refused_keeps (inl same) = record { was_open = λ _. same.0.was_open; committed = λ _. same.0.committed_is }
  refused_keeps (inr rolled) = record { was_open = rolled.was_open; committed = λ up. (rolled.undone up).1 }

  pub undone_keeps : IsUndone old mid → KeepsCommit old mid
  undone_keeps h = record { was_open = h.was_open; committed = λ up. (h.undone up).1 }

  pub begun_keeps : (new : State) → Shows old mid old.now old.committed true → KeepsCommit mid new → KeepsCommit old new
  begun_keeps new h k = record { was_open = λ up. h.was_open; committed = λ up. k.committed up ∙ h.committed_is }

  pub kept_keeps : (new : State) → KeepsCommit old mid → KeepsCommit mid new → KeepsCommit old new
  kept_keeps new h k = record { was_open = λ up. h.was_open (k.was_open up); committed = λ up. k.committed up ∙ h.committed (k.was_open up) }

  pub kept_undone : (new : State) → KeepsCommit old mid → IsUndone mid new → IsUndone old new
  kept_undone new k h =
      record { was_open = λ up. k.was_open (h.was_open up); undone = λ up. let same = k.committed (h.was_open up) in ((h.undone up).0 ∙ same, (h.undone up).1 ∙ same); autocommit = h.autocommit }

-- a crash leaves what was there before, or the registry whole
abbrev pub Whole : List ℕ → Trees → Type 0
Whole base trees = (db : Database) × IsMade base db × (trees ≡ db.trees)

pub survives_making : (base : List ℕ) (old mid last new : State) → (HasCleanDisk new → IsMade base last.now) → Survives old mid (λ _. ⊥) → Survives mid last (λ _. ⊥) → Survives last new (λ db. db ≡ last.now.trees)
    → Survives old new (Whole base)
survives_making base old mid last new made one two three =
    survives_then old last new _ _ (Whole base) (λ _ db none. absurd none) (λ clean db it. (last.now, made clean, it)) (survives_then old mid last _ _ (λ _. ⊥) (λ _ db none. none) (λ _ db none. none) one two) three

pub survives_failing : (base : List ℕ) (old mid new : State) → Survives old mid (λ _. ⊥) → Survives mid new (λ _. ⊥) → Survives old new (Whole base)
survives_failing base old mid new one two = survives_then old mid new _ _ (Whole base) (λ _ db none. absurd none) (λ _ db none. absurd none) one two

pub rests : (base : List ℕ) (last new : State) → IsMade base last.now → Shows last new last.now last.now false → IsMade base new.committed × IsAtRest new
rests base last new made k = (subst (IsMade base) (sym k.committed_is) made, record { is_open = k.is_open; autocommit = k.mode; settled = k.now_is ∙ sym k.committed_is })

pub all_taken : {X : Type 0} (P : X → Type 0) (k : ℕ) (xs : List X) → AllByRecursion P xs → AllByRecursion P (take k xs)
all_taken P zero xs h = tt
all_taken P (suc k) [] h = tt
all_taken P (suc k) (x ∷ xs) h = (h.0, all_taken P k xs h.1)

kept_twice : (tables : List Table) (a b c : Trees) → AllByRecursion (λ t. b t.tree ≡ a t.tree) tables → AllByRecursion (λ t. c t.tree ≡ b t.tree) tables → AllByRecursion (λ t. c t.tree ≡ a t.tree) tables
kept_twice [] a b c one two = tt
kept_twice (t ∷ more) a b c one two = (two.0 ∙ one.0, kept_twice more a b c one.1 two.1)

-- both tables of readers are made
pub extends : (old mid new : State) → Grows old_schema (first_of_ours 11 7) 17 old mid → Grows (first_of_ours 11 7) ours 18 mid new → Extends old new
extends old mid new one two = record {
  kept = kept_twice old_schema.tables old.now.trees mid.now.trees new.now.trees one.kept (all_taken (λ t. new.now.trees t.tree ≡ mid.now.trees t.tree) 10 (first_of_ours 11 7).tables two.kept);
  restricted = two.kept.1.1.1.1.1.1.1.1.1.1.0 ∙ one.empty;
  readers = two.empty;
  committed = two.committed ∙ one.committed;
  inside = two.inside;
}

pub extends_makes : (old new : State) → HasMade old_schema old → Extends old new → Makes ours old new
extends_makes old new has it =
    let e = still_empty old_schema.tables old.now.trees new.now.trees it.kept has.made.empty in
    let none = λ (t : Table). new.now.trees t.tree ≡ [] in
    let empty : AllByRecursion none our_tables = and_last none (first_of_ours 11 7).tables readers (and_last none old_schema.tables restricted e it.restricted) it.readers in
    record { has = record { made = record { schema_is = it.inside.schema_is; empty = empty }; is_open = it.inside.is_open; inside = it.inside.inside }; committed = it.committed }

pub extends_then : (a b c : State) → Makes old_schema a b → Extends b c → Makes ours a c
extends_then a b c one two = record { has = (extends_makes b c one.has two).has; committed = two.committed ∙ one.committed }
