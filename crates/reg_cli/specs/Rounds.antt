-- A registry that is served over several openings of its store.
use Rattle.std.specs.Prelude.{◌≡◌, ◌⊎◌, ◌+◌, ℕ, true, List, [], ◌∷◌, None, Option}
use Rattle.sqlite.specs.Held.{Held, state}
use Rattle.sqlite.specs.State.{HasCleanDisk, State}
use Rattle.sqlite.specs.Tree.{Trees}
use Rattle.sqlite_trees.specs.declared.store.Store.{Ghosts}
use Rattle.reg_body.specs.declared.limits.Limits.{Limits}
use Rattle.reg_model.specs.Events.{Answer, Event}
use Rattle.reg_model.specs.Registry.{Registry}
use Rattle.reg_tables_schema.specs.Schema.{old_schema}
use Rattle.reg_tables.specs.declared.tables.Tables.{Tables}
use Rattle.reg_tables.specs.Works.{is_stopped, shown}
use Rattle.reg_service.specs.Answered.{StandsIn}
use Rattle.reg_service.specs.Registries.{LeavesOpened, Running, limits_of, tables_of}
use Rattle.reg_service.specs.Sequences.{AreNoRoom, MayBeLeft}
use Rattle.reg_http.specs.Trails.{Tail}
use Rattle.reg_cli_run.specs.Marking.{MarksOpening}
use Rattle.reg_cli_run.specs.Visits.{IsServedSo}
use Rattle.reg_cli.specs.Openings.{FindsLeft, HoldsSame}

-- Its opening was marked, and then so many connections were served. What passes a port is not
-- known.
pub record ServesMarked {S : Type 0} (g : Ghosts S) (number : ℕ) (old new : Running S)
    (k0 k1 : Tail) : Type 0 where
  pub marked : Running S
  pub between : Tail
  pub marks : MarksOpening g old marked k0 between
  pub served : IsServedSo g number None None marked new between k1

-- Of what was found a registry was opened, and so many connections were served.
pub record ServesRound {S : Type 0} (g : Ghosts S) (limits : Limits) (found : Held S)
    (last : Running S) (number : ℕ) (k0 k1 : Tail) : Type 0 where
  pub opened : Running S
  pub limited : limits_of opened ≡ limits
  pub clean : HasCleanDisk (shown g (tables_of opened)) → HasCleanDisk (state g found)
  pub same : HoldsSame g (state g found).now.trees opened
  pub left : HasCleanDisk (shown g (tables_of opened))
      → LeavesOpened (state g found) (shown g (tables_of opened))
  pub served : ServesMarked g number opened last k0 k1

-- a round: what was found, the registry once it had stopped, how many connections were served, and
-- how far the trail was written before
pub record Round (S : Type 0) : Type 0 where
  pub found : Held S
  pub last : Running S
  pub number : ℕ
  pub trail : Tail

module _ {S : Type 0} (g : Ghosts S) (limits : Limits) (first : Held S) (k0 : Tail) where
  -- So many connections were served in these rounds, the newest first, from what was found at
  -- first. Each ended since the registry had stopped, and what was found after it, a crash could
  -- leave of it.
  abbrev pub ServesRounds : List (Round S) → ℕ → Held S → Tail → Type 0
  ServesRounds [] number found k1 = (number ≡ 0) × (found ≡ first) × (k1 ≡ k0)
  ServesRounds (r ∷ earlier) number found k1 =
      (before : ℕ) × (number ≡ before + r.number) × ServesRounds earlier before r.found r.trail
      × ServesRound g limits r.found r.last r.number r.trail k1
      × (is_stopped (tables_of r.last) ≡ true)
      × FindsLeft (shown g (tables_of r.last)) (state g found)

  -- so many connections were served in some rounds and a last one
  pub record ServesOpenings (total : ℕ) (k1 : Tail) : Type 0 where
    pub earlier : List (Round S)
    pub before : ℕ
    pub found : Held S
    pub trail : Tail
    pub rounds : ServesRounds earlier before found trail
    pub last : Running S
    pub number : ℕ
    pub end : ServesRound g limits found last number trail k1
    pub count : before + number ≡ total

-- After a run of these events, the registry that was opened next is one that a crash may leave of
-- the run; or there was no room for any of them, and what was found could be left before them.
abbrev pub GoesOnAs : {S : Type 0} → Ghosts S → Limits → Registry → Tables S → List Event
    → List Answer → Option ℕ → Held S → Running S → Type 0
GoesOnAs g limits s entry es xs stop found next =
    ((shown g entry).may_leave (state g found).now.trees × AreNoRoom es xs)
    ⊎ ((m : Registry) × MayBeLeft limits s es xs stop m × StandsIn m (shown g (tables_of next)))

-- these rows were found or, where what was found is of schema 1, are held once it is opened
abbrev pub IsAsFound : State → State → Trees → Type 0
IsAsFound found held db = (db ≡ found.now.trees)
    ⊎ ((found.now.schema ≡ old_schema) × (db ≡ held.now.trees))
