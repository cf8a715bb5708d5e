-- What is found in the files of a store is what a crash may leave of it.
use Rattle.std.proofs.Common.{◌≡◌, IsTrue, arith, refl, subst, sym}
use Rattle.std.proofs.Math.Logic.{∥∥₁_elim}
use mathlib.Core.HLevel.{×_prop, Σ_prop_path}
use Rattle.sqlite_disk.specs.declared.Disk.{Ghosts}
use Rattle.sqlite_disk.specs.declared.Files.{Files}
use Rattle.sqlite_wal.proofs.LogLemmas.{SeenMayStay}
use Rattle.sqlite_wal.specs.Files.{seen_image}
use Rattle.sqlite_wal.specs.Reads.{AreClean}
use Rattle.sqlite_wal.specs.Recovery.{Image}
use Rattle.sqlite_pages.specs.PageMap.{PageMap}
use Rattle.sqlite_pool.proofs.PoolLemmas.{pages_from}
use Rattle.sqlite_pool.proofs.ResealLemmas.{adopts_of}
use Rattle.sqlite_pool.proofs.StateLemmas.{clean_is, seen_may_be_left, size_is_allowed}
use Rattle.sqlite_pool.specs.Stored.{Recovers}
use Rattle.sqlite_pool.specs.StoredLaws.{recovers_once}
use Rattle.sqlite_trees.proofs.Doubt.{clean_of, no_doubt}
use Rattle.sqlite_trees.specs.Props.{Trees-set}
use Rattle.sqlite_trees.specs.Tree.{Trees}
use Rattle.sqlite_trees.specs.View.{IsClean, IsQuiet}
use Rattle.sqlite_store.specs.FileStore.{faults, files, is_shielded, reading, recovers, schema_in, state, view}
use Rattle.sqlite_store.specs.Listing.{IsOurs}
use Rattle.sqlite_store.specs.declared.store.FileStore.{FileStore}
use Rattle.sqlite.specs.Effect.{Database}
use Rattle.sqlite.specs.Files.{Finds, HoldsDatabase, IsOpened, file_state}
use Rattle.sqlite.specs.Held.{AreDatabases, Held}
use Rattle.sqlite.specs.State.{HasCleanDisk}
use Rattle.reg_cli.specs.Openings.{FindsLeft}

module _ {D : Type 0} {g : Ghosts D} (it : FileStore D g) (left : Image) where
  -- these files recover to these pages, which read as these trees
  abbrev ReadsAs : Trees → PageMap → Type 0
  ReadsAs db pages = ∥ Recovers (state it).page_size left pages ∥₁ × (db ≡ reading it pages)

  -- they recover to one set of pages
  ReadsAs-prop : (db : Trees) → IsProp ((pages : PageMap) × ReadsAs db pages)
  ReadsAs-prop db u v = Σ_prop_path {B = ReadsAs db} (λ pages. ×_prop squash₁ (Trees-set _ _)) {u = u} {v = v}
      (pages_from _ _ u.1.0 (λ one. pages_from _ _ v.1.0 (λ other. recovers_once _ left _ _ one other)))

  pub found_may_be_left : IsTrue (view it).is_numbered → AreDatabases (recovers it) → (state it).may_leave left → (found : Trees)
      → ((db : Trees) → HoldsDatabase left db → found ≡ db) → recovers it found
  found_may_be_left numbered sound may found is =
      let it_reads = ∥∥₁_elim it.safe (ReadsAs-prop found) (λ all.
      let there = all left may in
      let db = reading it there.0 in
      let schema = sound db (left, there.0, may, ∣ there.1 ∣₁, refl) in (
        there.0,
        (
          ∣ there.1 ∣₁,
          ∥∥₁_elim (size_is_allowed it.pool) (Trees-set _ _) (λ size. ∥∥₁_elim there.2 (Trees-set _ _) (λ ours. is db (
            (state it).page_size,
            size,
            record {
              pages = there.0;
              wanted = schema_in it there.0;
              schema = schema.0;
              found = adopts_of _ left there.0 there.1;
              reads = refl;
              sound = schema.1;
              ours = subst (λ b. IsOurs (state it).page_size b (schema_in it there.0) there.0) numbered ours;
            },
          ))),
        ),
      )) in
      (left, it_reads.0, may, it_reads.1.0, it_reads.1.1)

-- A connection was made a store, its files were taken, and opened.
pub finds_left : {D : Type 0} {g : Ghosts D} (old : Held (FileStore D g)) (it : FileStore D g) (held : Files D) (new : Held (FileStore D g))
    → SeenMayStay g → (IsClean (view it) → IsTrue (view it).is_numbered) → (IsClean (view it) → AreDatabases (recovers it))
    → IsQuiet view faults recovers is_shielded old.store it → (held.log, held.db) ≡ files it
    → (HasCleanDisk (file_state new) → IsOpened new) → (HasCleanDisk (file_state new) → Finds held new) → FindsLeft (file_state old) (file_state new)
finds_left {D} {g} old it held new stays numbered sound quiet taken opened finds clean =
    let found = finds clean in
    let opens = (opened clean).0 in
    let honest = subst (λ (p : D × D). AreClean g p.0 p.1) taken found.honest in
    let was : IsClean (view it) = no_doubt (view it).is_clean (subst IsTrue (sym (clean_is it.pool)) honest) in
    let may = found_may_be_left it _ (numbered was) (sound was) (seen_may_be_left it.pool stays (clean_of _ was)) _
    (λ db holds. found.holds db (subst (λ (p : D × D). HoldsDatabase (seen_image g p.0 p.1) db) (sym taken) holds)) in (
      omega (arith, was, quiet.clean),
      opens.is_open,
      subst (λ (d : Database). (file_state old).may_leave d.trees) (sym opens.clean) (quiet.outcomes _ may),
    )
