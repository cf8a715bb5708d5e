-- The mark of an opening in a trail.
use Rattle.std.specs.Prelude.{◌≡◌, ◌<◌}
use Rattle.sqlite.specs.State.{HasCleanDisk}
use Rattle.sqlite_trees.specs.declared.store.Store.{Ghosts}
use Rattle.reg_model.specs.Registry.{Registry}
use Rattle.reg_model.specs.Trail.{opened as mark_of}
use Rattle.reg_http.specs.Trails.{Tail, Trails}
use Rattle.reg_service.specs.Answered.{StandsIn}
use Rattle.reg_service.specs.Looked.{Looked}
use Rattle.reg_service.specs.Registries.{Running, limits_of, tables_of}
use Rattle.reg_tables.specs.Works.{shown}

-- Where the trail is written, the registry was looked at, and its mark was told; else nothing was
-- done.
pub record MarksOpening {S : Type 0} (g : Ghosts S) (old new : Running S) (k0 k1 : Tail)
    : Type 0 where
  pub limits : limits_of new ≡ limits_of old
  pub untold : k0.left ≡ 0 → (new ≡ old) × (k1 ≡ k0)
  pub looked : 0 < k0.left → Looked g (tables_of old) (tables_of new)
  pub told : 0 < k0.left → HasCleanDisk (shown g (tables_of new)) → (s : Registry)
      → StandsIn s (shown g (tables_of old)) → Trails k0 k1 (mark_of s)
