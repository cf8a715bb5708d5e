-- What serving a stream takes, and what it does.
use Rattle.std.specs.Prelude.{◌+◌, ◌^◌, ◌<◌, ℕ, Option, Result}
use Rattle.sqlite_trees.specs.declared.store.Store.{Ghosts}
use Rattle.reg_body.specs.Counting.{CountedEnd}
use Rattle.reg_model.specs.Registry.{Text}
use Rattle.reg_http_read.specs.Turns.{Spends, SpendsTurns, Tally, tally}
use Rattle.reg_http_read.specs.declared.fault.StreamFault.{StreamFault}
use Rattle.reg_service.specs.Registries.{Running, limits_of}
use Rattle.reg_http.specs.Answering.{GoesOn}
use Rattle.reg_http.specs.Streams.{IsServing, IsServingTraced}
use Rattle.reg_http.specs.Trails.{IsTrailed, TrailEnd, tail}

-- as many reads and as many writes as a stream has turns can be counted
pub record MayServe {S R W : Type 0} (registry : Running S) (r : CountedEnd R) (w : CountedEnd W)
    : Type 0 where
  pub reads : r.calls + (limits_of registry).turns < 2 ^ 64
  pub writes : w.calls + (limits_of registry).turns < 2 ^ 64

-- each call was a turn, and a fault has its cause, which is not `Memory`: the server was lent
abbrev pub SpendsLent : ℕ → ℕ → Tally → Tally → Result ℕ StreamFault → Type 0
SpendsLent had left old new result = SpendsTurns had left old new result

-- the same, but `Memory` came before the first call: the server was made for the stream
abbrev pub SpendsOwn : ℕ → ℕ → Tally → Tally → Result ℕ StreamFault → Type 0
SpendsOwn had left old new result = Spends had left old new result

module _ {S R W : Type 0} (g : Ghosts S)
    (Counts : ℕ → ℕ → Tally → Tally → Result ℕ StreamFault → Type 0) (read : R → Option Text)
    (held : W → Option Text) (old new : Running S) (r0 r1 : CountedEnd R)
    (w0 w1 : CountedEnd W) where
  -- what was written is what a run of the registry replies to what was read
  pub record ServesStream (result : Result ℕ StreamFault) : Type 0 where
    pub serves : IsServing g old new (read r0.inner) (read r1.inner) (held w0.inner)
        (held w1.inner) result
    pub spends : (left : ℕ) × Counts (limits_of old).turns left (tally r0 w0) (tally r1 w1) result
    pub keeps : GoesOn g old new

  -- The same, and its trail is told. Whatever is wrong with the store, the trail got a text in no
  -- more calls than it had left.
  pub record ServesStreamTraced {T : Type 0} (told_of : T → Option Text) (k0 k1 : TrailEnd T)
      (result : Result ℕ StreamFault) : Type 0 where
    pub serves : IsServingTraced g old new (tail (told_of k0.end.inner) k0)
        (tail (told_of k1.end.inner) k1) (read r0.inner) (read r1.inner) (held w0.inner)
        (held w1.inner) result
    pub spends : (left : ℕ) × Counts (limits_of old).turns left (tally r0 w0) (tally r1 w1) result
    pub told : IsTrailed (tail (told_of k0.end.inner) k0) (tail (told_of k1.end.inner) k1)
    pub keeps : GoesOn g old new
