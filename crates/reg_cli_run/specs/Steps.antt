-- Steps of a registry that are one run of it, whose trail is told.
use Rattle.std.specs.Prelude.{List, map}
use Rattle.sqlite_trees.specs.declared.store.Store.{Ghosts}
use Rattle.reg_body.specs.declared.limits.Limits.{Limits}
use Rattle.reg_model.specs.Events.{Answer, Event}
use Rattle.reg_model.specs.Registry as model
use Rattle.reg_model.specs.Trail.{trail}
use Rattle.reg_service.specs.Sequences.{Ran}
use Rattle.reg_tables.specs.declared.tables.Tables.{Tables}
use Rattle.reg_http.specs.Trails.{Tail, Trails}

-- a step: a request or a command, and its answer
abbrev pub Step : Type 0
Step = Event × Answer

abbrev pub events_of : List Step → List Event
events_of steps = map (λ p. p.0) steps

abbrev pub answers_of : List Step → List Answer
answers_of steps = map (λ p. p.1) steps

-- The steps are one run of the registry, which holds its end, and its trail is told. So much is
-- said of them.
pub record RunsTold {S : Type 0} (g : Ghosts S) (limits : Limits) (s : model.Registry)
    (entry now : Tables S) (k0 k1 : Tail) (Said : List Step → Type 0) : Type 0 where
  pub steps : List Step
  pub after : model.Registry
  pub run : Ran g limits s entry (events_of steps) (answers_of steps) after now
  pub said : Said steps
  pub told : Trails k0 k1 (trail limits s (events_of steps) (answers_of steps))
