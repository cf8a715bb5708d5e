-- What was read of a stream, and what was written for it.
use Rattle.std.specs.Prelude.{◌≡◌, ◌⊎◌, ◌+◌, ◌≤◌, ◌<◌, ◌++◌, ℕ, Bool, true, false, List, [], ◌∷◌, length, None, Option, Result, Ok, Err, All}
use Rattle.std.specs.List.{flat_map}
use Rattle.std.specs.Io.KnownBytes.{Appends, Consumes, IsAtEnd}
use Rattle.sqlite.specs.State.{HasCleanDisk}
use Rattle.sqlite_trees.specs.declared.store.Store.{Ghosts}
use Rattle.reg_body.specs.declared.limits.Limits.{Limits}
use Rattle.reg_http_read.specs.Heads.{Facts, IsHeadAt}
use Rattle.reg_model.specs.declared.rule.Rule.{Rule}
use Rattle.reg_model.specs.Registry as model
use Rattle.reg_model.specs.Registry.{Text}
use Rattle.reg_model.specs.Trail.{trail}
use Rattle.reg_api_replies.specs.Texts.{refusal_text}
use Rattle.reg_service.specs.Answered.{StandsIn}
use Rattle.reg_service.specs.Registries.{Running, limits_of, tables_of}
use Rattle.reg_service.specs.Sequences.{Ran}
use Rattle.reg_tables.specs.declared.tables.Tables.{Tables}
use Rattle.reg_tables.specs.Works.{shown}
use Rattle.reg_http_read.specs.Begun.{IsBegun, IsRefused, interim_of}
use Rattle.reg_http.specs.Exchanges.{Exchange, IsExchange, IsOfFile, answers_in, closes, events_in, reply_of}
use Rattle.reg_http.specs.Trails.{Tail, Trails}
use Rattle.reg_http_read.specs.declared.fault.StreamFault.{StreamFault}
use Rattle.reg_http_read.specs.declared.fault.StreamFault.TheVariants.{Memory, ReadFault, StoreFault, TooManyTurns, WriteFault}

-- the bytes that were asked, and those that were replied, each after its interim line
abbrev pub asked : List Exchange → Text
asked xs = flat_map (λ x. x.message) xs

abbrev pub told : Limits → Bool → Exchange → Text
told limits close x = interim_of x.facts ++ reply_of limits close x

abbrev pub replied : Limits → List Exchange → Text
replied limits xs = flat_map (told limits false) xs

-- one exchange, after which the connection goes on
pub record IsOpen (limits : Limits) (x : Exchange) : Type 0 where
  pub exchange : IsExchange limits x
  pub goes_on : x.facts.close ≡ false

-- These exchanges were done, one after another, and the rest was read beyond them. None of them
-- closed the connection.
pub record HaveExchanged (limits : Limits) (done : List Exchange) (read written rest : Text)
    (count : ℕ)
    : Type 0 where
  pub reads : read ≡ asked done ++ rest
  pub wrote : written ≡ replied limits done
  pub count_is : count ≡ length done
  pub each : All (IsOpen limits) done
  pub before_last : limits.replies ≤ count → limits.replies ≡ 0

-- the last reply before the connection closes
abbrev pub closing_text : Rule → Bool → Text
closing_text r head_only = refusal_text r None true head_only

module _ (limits : Limits) (all : List Exchange) where
  -- all requests that were read are replied to, but for one that has only begun
  pub record IsEnded (read written : Text) (count : ℕ) : Type 0 where
    pub rest : Text
    pub before : Text
    pub more : Text
    pub goes : HaveExchanged limits all read before rest count
    pub begun : IsBegun limits rest more
    pub wrote : written ≡ before ++ more

  -- the last reply closes the connection, and what follows its request is not looked at
  pub record IsClosed (read written : Text) (count : ℕ) : Type 0 where
    pub done : List Exchange
    pub last : Exchange
    pub later : Text
    pub before : Text
    pub number : ℕ
    pub goes : HaveExchanged limits done read before (last.message ++ later) number
    pub exchange : IsExchange limits last
    pub closing : closes limits last.facts (number + 1) ≡ true
    pub wrote : written ≡ before ++ told limits true last
    pub count_is : count ≡ number + 1
    pub whole : all ≡ done ++ last ∷ []

  -- the rest is refused, and what follows is not looked at
  pub record IsCutShort (read written : Text) (count : ℕ) : Type 0 where
    pub rest : Text
    pub before : Text
    pub more : Text
    pub broken : Rule
    pub head_only : Bool
    pub number : ℕ
    pub goes : HaveExchanged limits all read before rest number
    pub refused : IsRefused limits rest more broken head_only
    pub wrote : written ≡ before ++ (more ++ closing_text broken head_only)
    pub count_is : count ≡ number + 1

  -- the next thing that was to be written after the exchanges: the interim line and the reply of a
  -- request that is done, the interim line of one that is not, or a refusal that closes
  abbrev pub IsNext : List Exchange → Text → ℕ → Text → Type 0
  IsNext done rest number text =
      ((x : Exchange) × (later : Text) × (rest ≡ x.message ++ later) × IsExchange limits x
      × (text ≡ told limits (closes limits x.facts (number + 1)) x) × (all ≡ done ++ x ∷ []))
      ⊎ (((f : Facts) × IsHeadAt limits rest f × (text ≡ interim_of f) × (all ≡ done))
      ⊎ ((more : Text) × (r : Rule) × (head_only : Bool) × IsRefused limits rest more r head_only
      × (text ≡ more ++ closing_text r head_only) × (all ≡ done)))

  -- the writing stopped: after the exchanges a front of the next thing was written
  pub record IsStopped (read written : Text) : Type 0 where
    pub done : List Exchange
    pub rest : Text
    pub before : Text
    pub front : Text
    pub back : Text
    pub number : ℕ
    pub goes : HaveExchanged limits done read before rest number
    pub next : IsNext done rest number (front ++ back)
    pub wrote : written ≡ before ++ front

  -- The store failed: after the exchanges, and the interim line of one more, whose answer is an
  -- index file, some of its reply was written, and not all of it.
  pub record IsBrokenOff (read written : Text) : Type 0 where
    pub done : List Exchange
    pub last : Exchange
    pub later : Text
    pub before : Text
    pub front : Text
    pub back : Text
    pub number : ℕ
    pub goes : HaveExchanged limits done read before (last.message ++ later) number
    pub exchange : IsExchange limits last
    pub of_file : IsOfFile last.outcome
    pub reply : reply_of limits (closes limits last.facts (number + 1)) last ≡ front ++ back
    pub some : 0 < length front
    pub unsent : 0 < length back
    pub wrote : written ≡ before ++ (interim_of last.facts ++ front)
    pub whole : all ≡ done ++ last ∷ []

  -- nothing was read or written
  pub record IsUntouched (read written : Text) : Type 0 where
    pub nothing_read : read ≡ []
    pub nothing_written : written ≡ []
    pub nothing_done : all ≡ []

  -- what the bytes that were read came to, by what is answered
  abbrev pub IsServed : Text → Text → Type 0 → Result ℕ StreamFault → Type 0
  IsServed read written at_end (Ok count) =
      (IsEnded read written count × at_end)
      ⊎ (IsClosed read written count ⊎ IsCutShort read written count)
  IsServed read written at_end (Err ReadFault) = (count : ℕ) × IsEnded read written count
  IsServed read written at_end (Err WriteFault) = IsStopped read written
  IsServed read written at_end (Err StoreFault) = IsBrokenOff read written
  IsServed read written at_end (Err TooManyTurns) =
      ((count : ℕ) × IsEnded read written count) ⊎ IsStopped read written
  IsServed read written at_end (Err Memory) = IsUntouched read written

  -- the same between two states of a reader and of a writer, however the reads cut the bytes
  abbrev pub AreServed : Option Text → Option Text → Option Text → Option Text
      → Result ℕ StreamFault → Type 0
  AreServed r0 r1 w0 w1 result =
      (read : Text) × (written : Text) × Consumes r0 r1 read × Appends w0 w1 written
      × IsServed read written (IsAtEnd r1) result

-- the events of the exchanges are a run of the registry, which holds its end
abbrev pub HasRun : {S : Type 0} → Ghosts S → Limits → model.Registry → Tables S → Tables S
    → List Exchange → Type 0
HasRun g limits s entry now xs = (t : model.Registry)
    × Ran g limits s entry (events_in limits xs) (answers_in limits xs) t now

-- the trail of their run
abbrev pub trail_in : Limits → model.Registry → List Exchange → Text
trail_in limits s xs = trail limits s (events_in limits xs) (answers_in limits xs)

-- some exchanges are a run, and are what was read and written
abbrev pub Serves : {S : Type 0} → Ghosts S → Limits → model.Registry → Tables S → Tables S
    → Option Text → Option Text → Option Text → Option Text → Result ℕ StreamFault → Type 0
Serves g limits s entry now r0 r1 w0 w1 result = (xs : List Exchange)
    × HasRun g limits s entry now xs × AreServed limits xs r0 r1 w0 w1 result

-- the same, and the trail of the run is told
abbrev pub ServesTraced : {S : Type 0} → Ghosts S → Limits → model.Registry → Tables S → Tables S
    → Tail → Tail → Option Text → Option Text → Option Text → Option Text
    → Result ℕ StreamFault → Type 0
ServesTraced g limits s entry now k0 k1 r0 r1 w0 w1 result = (xs : List Exchange)
    × HasRun g limits s entry now xs × AreServed limits xs r0 r1 w0 w1 result
    × Trails k0 k1 (trail_in limits s xs)

-- whatever registry was held, what was written is what a run of it replies to what was read
abbrev pub IsServing : {S : Type 0} → Ghosts S → Running S → Running S
    → Option Text → Option Text → Option Text → Option Text → Result ℕ StreamFault → Type 0
IsServing g old new r0 r1 w0 w1 result =
    HasCleanDisk (shown g (tables_of new)) → (s : model.Registry)
    → StandsIn s (shown g (tables_of old))
    → Serves g (limits_of old) s (tables_of old) (tables_of new) r0 r1 w0 w1 result

-- the same, and its trail is told
abbrev pub IsServingTraced : {S : Type 0} → Ghosts S → Running S → Running S → Tail → Tail
    → Option Text → Option Text → Option Text → Option Text → Result ℕ StreamFault → Type 0
IsServingTraced g old new k0 k1 r0 r1 w0 w1 result =
    HasCleanDisk (shown g (tables_of new)) → (s : model.Registry)
    → StandsIn s (shown g (tables_of old))
    → ServesTraced g (limits_of old) s (tables_of old) (tables_of new) k0 k1 r0 r1 w0 w1 result
