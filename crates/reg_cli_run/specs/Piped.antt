-- A setup, and a stream that is served after it.
use Rattle.std.proofs.Common.{inl, inr}
use Rattle.std.specs.Prelude.{◌≡◌, ◌⊎◌, ◌++◌, ℕ, List, [], length, Option, Result, Err}
use Rattle.sqlite.specs.State.{HasCleanDisk}
use Rattle.sqlite_trees.specs.declared.store.Store.{Ghosts}
use Rattle.reg_body.specs.Counting.{CountedEnd}
use Rattle.reg_body.specs.declared.limits.Limits.{Limits}
use Rattle.reg_model.specs.Registry as model
use Rattle.reg_model.specs.Registry.{Text}
use Rattle.reg_http_read.specs.Turns.{Spends, tally}
use Rattle.reg_http_read.specs.declared.fault.StreamFault.{StreamFault}
use Rattle.reg_tables.specs.declared.tables.Tables.{Tables}
use Rattle.reg_tables.specs.Works.{shown}
use Rattle.reg_service.specs.Answered.{StandsIn}
use Rattle.reg_service.specs.Registries.{Running, limits_of, tables_of}
use Rattle.reg_http.specs.Answering.{GoesOn}
use Rattle.reg_http.specs.Streams.{Serves, trail_in}
use Rattle.reg_http.specs.Trails.{IsTrailed, Tail, TrailEnd, Trails, tail}
use Rattle.reg_cli_line.specs.declared.exit.Exit.{Exit}
use Rattle.reg_cli_run.specs.declared.ordering.OrderFault.{OrderFault}
use Rattle.reg_cli_run.specs.Exits.{EndsSetup, EndsStream}
use Rattle.reg_cli_run.specs.Setups.{HasDoneAlone, IsSetUp, trail_done, trail_set_up}

module _ {S : Type 0} (g : Ghosts S) (limits : Limits) (s : model.Registry) (entry : Tables S)
    (lines : List Text) (now : Tables S) where
  -- the setup was not done to its end, and nothing was read or written
  pub record IsUnserved (r0 r1 w0 w1 : Option Text) (exit : Exit) : Type 0 where
    pub fault : OrderFault
    pub set_up : IsSetUp g limits s entry lines now (Err fault)
    pub ends : EndsSetup fault exit
    pub unread : r1 ≡ r0
    pub unwritten : w1 ≡ w0

  -- all lines were done, and from the registry that they made the stream was served
  pub record IsServed (r0 r1 w0 w1 : Option Text) (exit : Exit) : Type 0 where
    pub between : Tables S
    pub set_up : HasDoneAlone g limits s entry lines between (length lines)
    pub result : Result ℕ StreamFault
    pub serves : Serves g limits set_up.done.after between now r0 r1 w0 w1 result
    pub ends : EndsStream result exit

  abbrev pub IsPiped : Option Text → Option Text → Option Text → Option Text → Exit → Type 0
  IsPiped r0 r1 w0 w1 exit = IsUnserved r0 r1 w0 w1 exit ⊎ IsServed r0 r1 w0 w1 exit

  -- the trail: that of the lines, and that of the stream behind it
  abbrev pub trail_piped : (r0 r1 w0 w1 : Option Text) (exit : Exit) → IsPiped r0 r1 w0 w1 exit
      → Text
  trail_piped r0 r1 w0 w1 exit (inl it) =
      trail_set_up g limits s entry lines now (Err it.fault) it.set_up
  trail_piped r0 r1 w0 w1 exit (inr it) =
      trail_done g limits s entry lines it.between (length lines) [] it.set_up.done
      ++ trail_in limits it.set_up.done.after it.serves.0

  -- the same, and its trail is told
  abbrev pub IsPipedTraced : Tail → Tail → Option Text → Option Text → Option Text → Option Text
      → Exit → Type 0
  IsPipedTraced k0 k1 r0 r1 w0 w1 exit = (it : IsPiped r0 r1 w0 w1 exit)
      × Trails k0 k1 (trail_piped r0 r1 w0 w1 exit it)

-- the calls of the reader and the writer: none, or those of a stream, by its turns
abbrev pub SpendsIfServed : {R W : Type 0} → ℕ → CountedEnd R → CountedEnd R → CountedEnd W
    → CountedEnd W → Exit → Type 0
SpendsIfServed turns r0 r1 w0 w1 exit =
    ((r1 ≡ r0) × (w1 ≡ w0))
    ⊎ ((result : Result ℕ StreamFault) × (left : ℕ) × EndsStream result exit
    × Spends turns left (tally r0 w0) (tally r1 w1) result)

module _ {S R W : Type 0} (g : Ghosts S) (lines : List Text) (read : R → Option Text)
    (held : W → Option Text) (old new : Running S) (r0 r1 : CountedEnd R)
    (w0 w1 : CountedEnd W) where
  -- the lines were done and then the stream was served, whatever registry was held
  pub record Pipes (exit : Exit) : Type 0 where
    pub piped : HasCleanDisk (shown g (tables_of new)) → (s : model.Registry)
        → StandsIn s (shown g (tables_of old))
        → IsPiped g (limits_of old) s (tables_of old) lines (tables_of new)
        (read r0.inner) (read r1.inner) (held w0.inner) (held w1.inner) exit
    pub spends : SpendsIfServed (limits_of old).turns r0 r1 w0 w1 exit
    pub keeps : GoesOn g old new

  -- The same, and the trail of both is told. Whatever is wrong with the store, the trail got a text
  -- in no more calls than it had left.
  pub record PipesTraced {T : Type 0} (told_of : T → Option Text) (k0 k1 : TrailEnd T)
      (exit : Exit) : Type 0 where
    pub piped : HasCleanDisk (shown g (tables_of new)) → (s : model.Registry)
        → StandsIn s (shown g (tables_of old))
        → IsPipedTraced g (limits_of old) s (tables_of old) lines (tables_of new)
        (tail (told_of k0.end.inner) k0) (tail (told_of k1.end.inner) k1)
        (read r0.inner) (read r1.inner) (held w0.inner) (held w1.inner) exit
    pub spends : SpendsIfServed (limits_of old).turns r0 r1 w0 w1 exit
    pub told : IsTrailed (tail (told_of k0.end.inner) k0) (tail (told_of k1.end.inner) k1)
    pub keeps : GoesOn g old new
