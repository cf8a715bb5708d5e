-- Callers that came to a door one after another, and the one run that they were served.
use Rattle.std.specs.Prelude.{◌≡◌, ◌⊎◌, ◌++◌, ℕ, true, List, [], ◌∷◌, length, Option, None, Some, Result}
use Rattle.std.specs.Io.KnownBytes.{Consumes}
use Rattle.std.specs.List.{flat_map}
use Rattle.sqlite.specs.State.{HasCleanDisk}
use Rattle.sqlite_trees.specs.declared.store.Store.{Ghosts}
use Rattle.reg_body.specs.declared.bytes.SendFault.{SendFault}
use Rattle.reg_body.specs.declared.limits.Limits.{Limits}
use Rattle.reg_body.specs.Sent.{Sends}
use Rattle.reg_model.specs.Registry as model
use Rattle.reg_model.specs.Registry.{Text}
use Rattle.reg_http_read.specs.Turns.{SpendsTurns}
use Rattle.reg_http_read.specs.declared.fault.StreamFault.{StreamFault}
use Rattle.reg_tables.specs.declared.tables.Tables.{Tables}
use Rattle.reg_tables.specs.Works.{is_stopped, shown}
use Rattle.reg_service.specs.Answered.{StandsIn}
use Rattle.reg_service.specs.Looked.{WasTried}
use Rattle.reg_service.specs.Registries.{Running, limits_of, tables_of}
use Rattle.reg_http.specs.Answering.{GoesOn}
use Rattle.reg_http.specs.Exchanges.{Exchange, steps_in}
use Rattle.reg_http.specs.Streams.{AreServed}
use Rattle.reg_http.specs.Trails.{Tail}
use Rattle.reg_cli_run.specs.declared.door.Caller.{Caller}
use Rattle.reg_cli_run.specs.declared.door.Caller.TheVariants.{Admin, Client}
use Rattle.reg_cli_run.specs.Messages.{IsHeard}
use Rattle.reg_cli_run.specs.Printing.{most_calls}
use Rattle.reg_cli_run.specs.Steps.{RunsTold, Step}

-- what happens at a door: a caller comes, of this to read, and this written to it; it goes, of this
-- left to read, and this written, after so many reads and writes that failed; or it had hung up
-- before
pub data Passing : Type 0 where
  Came : Caller → Option Text → Option Text → Passing
  Went : Option Text → Option Text → ℕ → ℕ → Passing
  Missed : Passing

-- a caller comes, or none does
abbrev pub arrival : {R W : Type 0} → (R → Option Text) → (W → Option Text)
    → Option (Caller × R × W) → List Passing
arrival read held None = Missed ∷ []
arrival read held (Some (caller, r, w)) = Came caller (read r) (held w) ∷ []

-- a visit: who came, what there was to read and what was left of it, what was written before and
-- after, and how many calls failed
pub record Visit : Type 0 where
  pub caller : Caller
  pub came : Option Text
  pub left : Option Text
  pub before : Option Text
  pub after : Option Text
  pub failed_reads : ℕ
  pub failed_writes : ℕ

-- how it passed the door
abbrev pub passings : Option Visit → List Passing
passings None = Missed ∷ []
passings (Some v) =
    Came v.caller v.came v.before ∷ Went v.left v.after v.failed_reads v.failed_writes ∷ []

-- these passed since, where it is known what passes
abbrev pub Logs : Option (List Passing) → Option (List Passing) → List Passing → Type 0
Logs None new more = Unit {0}
Logs (Some old) None more = ⊥
Logs (Some old) (Some new) more = new ≡ old ++ more

-- the calls of a client's ends, of which so many failed, by the turns of its stream
abbrev pub SpendsFailing : ℕ → ℕ → ℕ → Result ℕ StreamFault → Type 0
SpendsFailing turns failed_reads failed_writes result = (left reads writes : ℕ)
    × SpendsTurns turns left
    (record { reads = 0; writes = 0; failed_reads = 0; failed_writes = 0 })
    (record {
      reads = reads;
      writes = writes;
      failed_reads = failed_reads;
      failed_writes = failed_writes;
    })
    result

-- a client: what was written to it is what these steps reply to the requests that were read of it
abbrev pub IsServedClient : Limits → Visit → List Step → Type 0
IsServedClient limits v steps = (xs : List Exchange) × (steps ≡ steps_in limits xs)
    × (result : Result ℕ StreamFault)
    × SpendsFailing limits.turns v.failed_reads v.failed_writes result
    × AreServed limits xs v.came v.left v.before v.after result

-- the reply was written, or a front of it
abbrev pub IsReplySent : Text → Visit → Type 0
IsReplySent text v = (sent : Result ℕ SendFault) × (calls : ℕ) × Sends sent text most_calls
    (record { contents = v.before; calls = 0; failures = 0 })
    (record { contents = v.after; calls = calls; failures = v.failed_writes })

-- the administrator: what was written is the reply to the message that was read
pub record IsServedAdmin (v : Visit) (steps : List Step) : Type 0 where
  pub read : Text
  pub reads : Consumes v.came v.left read
  pub text : Text
  pub heard : IsHeard read v.left v.failed_reads text steps
  pub sent : IsReplySent text v

abbrev pub IsServedAs : Caller → Limits → Visit → List Step → Type 0
IsServedAs Client limits v steps = IsServedClient limits v steps
IsServedAs Admin limits v steps = IsServedAdmin v steps

abbrev pub IsVisited : Limits → Option Visit → List Step → Type 0
IsVisited limits None steps = steps ≡ []
IsVisited limits (Some v) steps = IsServedAs v.caller limits v steps

-- the callers, one after another, were served these steps, each its part
abbrev pub AreVisited : Limits → List (Option Visit) → List Step → Type 0
AreVisited limits [] steps = steps ≡ []
AreVisited limits (v ∷ vs) steps = (mine : List Step) × (others : List Step)
    × (steps ≡ mine ++ others) × IsVisited limits v mine × AreVisited limits vs others

-- the steps of all callers are one run of the registry, and its trail is told
abbrev pub ServesAll : {S : Type 0} → Ghosts S → Limits → model.Registry → Tables S → Tables S
    → Tail → Tail → List (Option Visit) → Type 0
ServesAll g limits s entry now k0 k1 visits =
    RunsTold g limits s entry now k0 k1 (AreVisited limits visits)

-- So many callers passed the door, and it is so, whatever registry was held.
pub record ServesVisits {S : Type 0} (g : Ghosts S) (number : ℕ)
    (log0 log1 : Option (List Passing)) (old new : Running S) (k0 k1 : Tail) : Type 0 where
  pub visits : List (Option Visit)
  pub count : length visits ≡ number
  pub logged : Logs log0 log1 (flat_map passings visits)
  pub serves : HasCleanDisk (shown g (tables_of new)) → (s : model.Registry)
      → StandsIn s (shown g (tables_of old))
      → ServesAll g (limits_of old) s (tables_of old) (tables_of new) k0 k1 visits
  pub keeps : GoesOn g old new

-- One caller came with these ends and was served so; it went.
pub record ServesVisit {S : Type 0} (g : Ghosts S) (caller : Caller) (came before : Option Text)
    (log0 log1 : Option (List Passing)) (old new : Running S) (k0 k1 : Tail) : Type 0 where
  pub left : Option Text
  pub after : Option Text
  pub failed_reads : ℕ
  pub failed_writes : ℕ
  pub logged : Logs log0 log1 (Went left after failed_reads failed_writes ∷ [])
  pub serves : HasCleanDisk (shown g (tables_of new)) → (s : model.Registry)
      → StandsIn s (shown g (tables_of old))
      → RunsTold g (limits_of old) s (tables_of old) (tables_of new) k0 k1
      (IsVisited (limits_of old) (Some (record {
        caller = caller;
        came = came;
        left = left;
        before = before;
        after = after;
        failed_reads = failed_reads;
        failed_writes = failed_writes;
      })))
  pub keeps : GoesOn g old new

-- Some callers passed, and then it was tried whether the store answers.
pub record ServesThenTries {S : Type 0} (g : Ghosts S) (number : ℕ)
    (log0 log1 : Option (List Passing)) (old new : Running S) (k0 k1 : Tail) : Type 0 where
  pub last : Running S
  pub visits : ServesVisits g number log0 log1 old last k0 k1
  pub tried : WasTried g (tables_of last) (tables_of new)
  pub limits : limits_of new ≡ limits_of last

-- the callers were served; at the end of the run, or before it was found to have stopped
abbrev pub IsServedSo : {S : Type 0} → Ghosts S → ℕ → Option (List Passing)
    → Option (List Passing) → Running S → Running S → Tail → Tail → Type 0
IsServedSo g number log0 log1 old new k0 k1 = ServesVisits g number log0 log1 old new k0 k1
    ⊎ (ServesThenTries g number log0 log1 old new k0 k1 × (is_stopped (tables_of new) ≡ true))
