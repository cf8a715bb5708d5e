-- What a crash may leave where a change of the tables was refused.
use Rattle.std.proofs.Common.{◌≡◌, ◌∙◌, inl, inr, Bool, IsTrue, true, false, Ok, Err, Result, OnOk, OnErr, ap, arith, refl, subst, sym}
use Rattle.std.proofs.lemmas.Bool.{false≢true}
use Rattle.std.specs.Result.{is_err}
use Rattle.sqlite_trees.specs.declared.store.Store.{Ghosts}
use Rattle.sqlite.specs.Effect.{Database, IsDatabase}
use Rattle.sqlite_catalog.proofs.ReadLemmas.{lists_once}
use Rattle.sqlite_trees.specs.Objects.{catalog_tree}
use Rattle.sqlite.specs.Held.{Held, state}
use Rattle.sqlite.specs.State.{State, HasCleanDisk, IsLive, KeepsCommit, Shows, Survives}
use Rattle.sqlite_catalog.specs.Listing.{IsSound}
use Rattle.sqlite.specs.Tree.{Trees}
use Rattle.sqlite.proofs.StateLemmas.{survives_then, survives_weaker}
use Rattle.reg_tables_schema.proofs.MakeLemmas.{undone_keeps}
use Rattle.reg_tables_schema.specs.declared.edition.SchemaVersion.{SchemaVersion}
use Rattle.reg_tables_schema.specs.declared.edition.SchemaVersion.TheVariants.{First, Second}
use Rattle.reg_tables_schema.specs.declared.make.MakeFault.{MakeFault}
use Rattle.reg_tables_schema.specs.declared.make.MakeFault.TheVariants.{UnknownSchema, Storage}
use Rattle.reg_tables_schema.specs.States.{HasSchema, IsInside, IsUndone, LeavesCommit, LeavesOurs}
use Rattle.reg_tables_schema.specs.Schema.{schema_of}
use Rattle.reg_tables_represent.proofs.Raising.{commit_undone, upgraded}
use Rattle.reg_tables_represent.specs.Upgrades.{AreUpgraded, BeginsSecond, IsUpgraded, Upgrades}
use Rattle.reg_tables.specs.Ends.{Begins, IsEnded, LeavesLast}
use Rattle.reg_tables.specs.Works.{IsSame, edition_in, seen, shown}
use Rattle.reg_tables.specs.declared.tables.Tables.{Tables}
use Rattle.reg_tables.specs.declared.work.Work.{Work}

keeps_itself : (s : State) → KeepsCommit s s
keeps_itself s = record { was_open = λ up. up; committed = λ up. refl }

-- no two answers are one
pub not_ok : {T E : Type 0} {e : E} {x : T} → Err e ≡ Ok x → ⊥
not_ok is = cc

pub not_false : {E : Type 0} → ◌≡◌ {A = Result Bool E} (Ok true) (Ok false) → ⊥
not_false is = cc

pub storage_known : Storage ≡ UnknownSchema → ⊥
storage_known is = cc

pub same_fault : {T E : Type 0} {d e : E} → ◌≡◌ {A = Result T E} (Err d) (Err e) → d ≡ e
same_fault is = cc

-- what an answer tells, by whether it is one
pub if_done : {T E A : Type 0} (r : Result T E) (b : Bool) → b ≡ is_err r → b ≡ false → OnOk r A → A
if_done (Ok x) b is said a = a
if_done (Err e) b is said a = absurd (false≢true (sym said ∙ is))

pub if_refused : {T E A : Type 0} (r : Result T E) (b : Bool) → b ≡ is_err r → b ≡ true → OnErr r A → A
if_refused (Ok x) b is said a = absurd (false≢true (sym is ∙ said))
if_refused (Err e) b is said a = a

-- where no transaction was begun
pub undone_itself : (s : State) → (s.in_transaction ≡ false → IsTrue s.is_open → s.now ≡ s.committed) → s.in_transaction ≡ false → IsUndone s s
undone_itself s law out = record { was_open = λ up. up; undone = λ up. (law out up, refl); autocommit = out }

pub survives_itself : (s : State) → Survives s s (λ _. ⊥)
survives_itself s = record { clean = omega arith; shield = λ h. h; counts = omega arith; limit = refl; closes = λ clean h. inl h; crash = λ clean db h. inl h }

-- an open connection leaves a stop its last commit, and only the disk shuts it
pub leaves_last : (old new : State) (P : Trees → Type 0) → (IsTrue new.is_open → LeavesCommit new) → KeepsCommit old new → Survives old new P → HasCleanDisk new → LeavesLast old new
leaves_last old new P law kept survives clean was = elim (survives.closes clean was) [
  | inl up ↦ inl (λ db l. law up db l ∙ ap (λ (d : Database). d.trees) (kept.committed up))
  | inr faults ↦ inr faults
]

-- a crash leaves what an open connection committed, which is a database of its schema
pub live_leaves : (e : SchemaVersion) (s : State) → IsLive s → (IsTrue s.is_open → LeavesCommit s) → (IsTrue s.is_open → s.now ≡ s.committed) → s.now.schema ≡ schema_of e → IsTrue s.is_open → LeavesOurs e s
live_leaves e s live law settled is up clean db l =
    subst (HasSchema e) (sym (law up db l)) (subst (λ schema. IsSound schema s.committed.trees) (ap (λ (d : Database). d.schema) (sym (settled up)) ∙ is) (live up).1)

-- a transaction of ours commits what it sees, which is a database of our schema
module _ (old new : State) (live : IsLive old) (ready : HasCleanDisk old → IsInside old) where
  sees_ours : HasCleanDisk old → HasSchema Second old.now.trees
  sees_ours clean = let it = ready clean in subst (λ s. IsSound s old.now.trees) it.schema_is (live it.is_open).0

  pub commits_ours : Survives old new (λ db. db ≡ old.now.trees) → Survives old new (λ db. (db ≡ old.now.trees) × HasSchema Second db)
  commits_ours s = survives_weaker old new _ _ (λ clean db is. (is, subst (HasSchema Second) (sym is) (sees_ours (omega (arith, clean, s.clean))))) s

  pub committed_ours : Survives old new (λ db. db ≡ old.now.trees) → (HasCleanDisk new → Shows old new old.now old.now false) → (HasCleanDisk new → LeavesCommit new) → LeavesOurs Second new
  committed_ours s kept alone clean db l =
      subst (HasSchema Second) (sym (alone clean db l ∙ ap (λ (d : Database). d.trees) (kept clean).committed_is)) (sees_ours (omega (arith, clean, s.clean)))

-- rows that list a schema of ours list no other
pub one_schema : (e : SchemaVersion) (db : Database) → HasSchema e db.trees → IsDatabase db → db.schema ≡ schema_of e
one_schema e db has is = lists_once (db.trees catalog_tree) db.schema (schema_of e) is.lists has.lists

-- and what commits nothing leaves no more
pub silent_leaves : (e : SchemaVersion) (old new : State) → Survives old new (λ _. ⊥) → (HasCleanDisk new → LeavesOurs e old) → LeavesOurs e new
silent_leaves e old new survives ours clean db l = elim (survives.crash clean db l) [ inl was ↦ ours clean (omega (arith, clean, survives.clean)) db was | inr none ↦ absurd none ]

module _ {S : Type 0} (g : Ghosts S) where
  pub make_leaves : {T : Type 0} (old new : Held S) (r : Result T MakeFault) (fault : MakeFault) (P : Trees → Type 0) → r ≡ Err fault → (IsTrue (state g new).is_open → LeavesCommit (state g new))
      → (r ≡ Err UnknownSchema → new ≡ old) → (HasCleanDisk (state g new) → r ≡ Err Storage → IsUndone (state g old) (state g new)) → Survives (state g old) (state g new) P
      → HasCleanDisk (state g new) → LeavesLast (state g old) (state g new)
  make_leaves old new r UnknownSchema P is law untouched undone survives clean =
      leaves_last (state g old) (state g new) P law (subst (λ h. KeepsCommit (state g old) (state g h)) (sym (untouched is)) (keeps_itself (state g old))) survives clean
  make_leaves old new r Storage P is law untouched undone survives clean =
      leaves_last (state g old) (state g new) P law (undone_keeps (state g old) (state g new) (undone clean is)) survives clean

-- what a migration leaves, or a crash in it, after its transaction began
begins_first : (e : SchemaVersion) (old mid : State) → e ≡ First → BeginsSecond e old mid → Upgrades old mid
begins_first First old mid is h = h
begins_first Second old mid is h = absurd cc

module _ {S : Type 0} (g : Ghosts S) (old : Tables S) (w : Work S) (new : Tables S) (is : edition_in old ≡ First) (begun : Begins g (BeginsSecond (edition_in old)) old w) where
  upgrades_first : {P : Trees → Type 0} → Survives (seen g w) (shown g new) P → HasCleanDisk (shown g new) → Upgrades (shown g old) (seen g w)
  upgrades_first two clean = begins_first (edition_in old) (shown g old) (seen g w) is (begun.view (omega (arith, clean, two.clean)))

  -- the tables that are handed back are those that the transaction left
  pub ends_as : {T E : Type 0} (r : Result T E) (left : Tables S) → left ≡ new → IsEnded g r w new → IsEnded g r w left
  ends_as r left same ended = subst (λ t. IsEnded g r w t) (sym same) ended

  pub migrated : {T E : Type 0} (x : T) → IsEnded {E = E} g (Ok x) w new → HasCleanDisk (shown g new) → IsUpgraded (shown g old) (shown g new)
  migrated x ended clean = upgraded (edition_in old) (shown g old) (seen g w) (shown g new) is (begun.view (omega (arith, clean, ended.survives.clean))) (ended.committed.kept clean)

  pub migration_stops : {T E : Type 0} (r : Result T E) → IsEnded g r w new → Survives (shown g old) (shown g new) (λ db. IsTrue (shown g old).is_open × AreUpgraded (shown g old).now db × HasSchema Second db)
  migration_stops r ended = survives_then (shown g old) (seen g w) (shown g new) _ _ _ (λ _ db none. absurd none) (λ clean db it.
      let up = upgrades_first ended.survives clean in
      (up.shows.was_open, ((seen g w).now, up.made, it.1), it.2)) begun.survives ended.survives

  module _ {T E : Type 0} (e : E) (ended : IsEnded {T = T} g (Err e) w new) where
    pub not_migrated : HasCleanDisk (shown g new) → IsSame g old new
    not_migrated clean = inr (commit_undone (edition_in old) (shown g old) (seen g w) (shown g new) (begun.view (omega (arith, clean, ended.survives.clean))) (ended.refused.undone clean))

    pub migration_last : HasCleanDisk (shown g new) → LeavesLast (shown g old) (shown g new)
    migration_last clean was =
        let s = (upgrades_first ended.survives clean).shows in
        elim (ended.refused.alone clean s.is_open) [
          | inl only ↦ inl (λ db l. only db l ∙ ap (λ (d : Database). d.trees) s.committed_is)
          | inr faults ↦ inr (omega (arith, faults, begun.survives.counts))
        ]
