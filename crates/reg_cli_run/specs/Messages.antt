-- What a message of the administrator asks for, and what is replied to it.
use Rattle.std.specs.Prelude.{◌≡◌, ◌⊎◌, ◌==◌, ◌+◌, ◌≤◌, ◌<◌, ◌++◌, ℕ, Bool, false, List, [], ◌∷◌, codes, length, if◌then◌else◌, Option, Some, None, option_and_then, option_map, Result, Ok, Err}
use Rattle.std.specs.List.{list_any, slice_split}
use Rattle.std.specs.Str.{bytes_eq, is_utf8}
use Rattle.std.specs.Io.KnownBytes.{Consumes, IsAtEnd}
use Rattle.clap.specs.Words.{Row, first_of, subcommand_rows_of}
use Rattle.clap.specs.declared.parser.matches.ArgMatches.{ArgMatches}
use Rattle.sqlite.specs.State.{HasCleanDisk}
use Rattle.sqlite_trees.specs.declared.store.Store.{Ghosts}
use Rattle.reg_body.specs.declared.limits.Limits.{Limits}
use Rattle.reg_model.specs.declared.rule.AdminRefusal.{AdminRefusal}
use Rattle.reg_model.specs.Events.{Command}
use Rattle.reg_model.specs.Events.Event.{Order}
use Rattle.reg_model.specs.Registry as model
use Rattle.reg_model.specs.Registry.{Text}
use Rattle.reg_policy.specs.Events.{reply_of}
use Rattle.reg_policy.specs.Words.{admin_text_of}
use Rattle.reg_policy.specs.declared.event.AdminReply.{AdminReply}
use Rattle.reg_service.specs.Answered.{StandsIn}
use Rattle.reg_service.specs.Registries.{Running, limits_of, tables_of}
use Rattle.reg_tables.specs.declared.tables.Tables.{Tables}
use Rattle.reg_tables.specs.Works.{shown}
use Rattle.reg_http.specs.Answering.{GoesOn}
use Rattle.reg_http.specs.Trails.{IsTrailed, Tail, TrailEnd, tail}
use Rattle.reg_cli_args.specs.Dashes.{is_dashed}
use Rattle.reg_cli_args.specs.Grammar.{message_app}
use Rattle.reg_cli_args.specs.Orders.{report_command}
use Rattle.reg_cli_run.specs.Exits.{refusal_status}
use Rattle.reg_cli_run.specs.LineOrders.{order_of, reading_by}
use Rattle.reg_cli_run.specs.Printing.{told}
use Rattle.reg_cli_run.specs.Setups.{IsObeyed}
use Rattle.reg_cli_run.specs.Steps.{RunsTold, Step}
use Rattle.reg_cli_run.specs.declared.message.MessageReply.{MessageReply}
use Rattle.reg_cli_run.specs.declared.message.MessageReply.TheVariants.{Paused, Said}
use Rattle.reg_cli_run.specs.declared.ordering.OrderFault.{OrderFault}
use Rattle.reg_cli_run.specs.declared.ordering.OrderFault.TheVariants.{Memory, Refused, Unreadable}

-- how many bytes a message has at most
abbrev pub most_bytes : ℕ
most_bytes = 65536

-- the pieces before the last, which has to be empty
abbrev pub if_empty : Text → Option (List Text)
if_empty [] = Some []
if_empty (b ∷ bs) = None

abbrev pub but_last : List Text → Option (List Text)
but_last [] = None
but_last (p ∷ []) = if_empty p
but_last (p ∷ q ∷ more) = option_map (λ ps. p ∷ ps) (but_last (q ∷ more))

-- the arguments in a message: texts, each ended by a zero byte
unfoldable pub arguments_in : Text → Option (List Text)
arguments_in bytes = if is_utf8 bytes then but_last (slice_split (λ b. b == 0) bytes) else None

-- a report, or else what changes a registry
abbrev pub report_else : Option Command → Option Command → Option Command
report_else (Some report) order = Some report
report_else None order = order

-- the command that a subcommand asks for, by its name and its values
abbrev pub asked_of : Option (Text × List Row) → Option Command
asked_of None = None
asked_of (Some (name, rows)) =
    report_else (report_command name (λ id. first_of id rows)) (order_of (Some (name, rows)))

abbrev pub asked_in : ArgMatches → Option Command
asked_in words = asked_of (subcommand_rows_of words)

-- the command with these arguments; no value begins with `-`
unfoldable pub message_order : List Text → Option Command
message_order words =
    if list_any is_dashed words then None else asked_of (reading_by message_app words)

-- what is wanted of a server: that it pauses, or a command of its registry
pub data Wanted : Type 0 where
  Pause : Wanted
  Ordered : Command → Wanted

abbrev pub is_pause : List Text → Bool
is_pause (word ∷ []) = bytes_eq word (codes "pause")
is_pause _ = false

abbrev pub wanted_by : List Text → Option Wanted
wanted_by words = if is_pause words then Some Pause else option_map Ordered (message_order words)

abbrev pub wanted_in : Text → Option Wanted
wanted_in bytes = option_and_then wanted_by (arguments_in bytes)

-- a fault of the arguments alone: there are none, or memory was refused
abbrev pub IsUnargued : Option (List Text) → OrderFault → Type 0
IsUnargued words (Refused r) = ⊥
IsUnargued words Unreadable = words ≡ None
IsUnargued words Memory = Unit {0}

-- this is a message, read to its end without a fault
pub record IsMessage (read : Text) (left : Option Text) (failed0 failed1 : ℕ) : Type 0 where
  pub ended : IsAtEnd left
  pub fits : length read ≤ most_bytes
  pub none_failed : failed1 ≡ failed0

-- why it was not read whole: there is more than a message has, or a call failed, or memory was
-- refused
abbrev pub IsCut : Text → ℕ → ℕ → OrderFault → Type 0
IsCut read failed0 failed1 Unreadable = (most_bytes < length read) ⊎ (failed1 ≡ failed0 + 1)
IsCut read failed0 failed1 Memory = Unit {0}
IsCut read failed0 failed1 (Refused r) = ⊥

-- what a message came to: the server pauses; or its command was done or refused; or it has none; or
-- memory was refused
abbrev pub IsAnswered : {S : Type 0} → Ghosts S → Limits → Option Wanted → Tables S → Tables S
    → Tail → Tail → Result MessageReply OrderFault → Type 0
IsAnswered g limits wanted old new k0 k1 (Ok Paused) =
    (wanted ≡ Some Pause) × (new ≡ old) × (k1 ≡ k0)
IsAnswered g limits wanted old new k0 k1 (Ok (Said reply)) = (ordered : Option Command)
    × (wanted ≡ option_map Ordered ordered) × IsObeyed g limits ordered old new k0 k1 (Ok reply)
IsAnswered g limits wanted old new k0 k1 (Err (Refused r)) = (ordered : Option Command)
    × (wanted ≡ option_map Ordered ordered)
    × IsObeyed g limits ordered old new k0 k1 (Err (Refused r))
IsAnswered g limits wanted old new k0 k1 (Err Unreadable) =
    (wanted ≡ None) × (new ≡ old) × (k1 ≡ k0)
IsAnswered g limits wanted old new k0 k1 (Err Memory) = (new ≡ old) × (k1 ≡ k0)

-- A message was answered, and told. Whatever is wrong with the store, the trail got a text, and the
-- registry goes on.
pub record AnswersMessage {S T : Type 0} (g : Ghosts S) (bytes : Text)
    (told_of : T → Option Text) (old new : Running S) (k0 k1 : TrailEnd T)
    (result : Result MessageReply OrderFault) : Type 0 where
  pub answered : IsAnswered g (limits_of old) (wanted_in bytes) (tables_of old) (tables_of new)
      (tail (told_of k0.end.inner) k0) (tail (told_of k1.end.inner) k1) result
  pub told : IsTrailed (tail (told_of k0.end.inner) k0) (tail (told_of k1.end.inner) k1)
  pub keeps : GoesOn g old new

-- the reply: the exit status, and behind it what the command would print
abbrev pub status_line : ℕ → Text
status_line status = (48 + status) ∷ 10 ∷ []

abbrev pub said : AdminReply → Text
said reply = status_line 0 ++ told reply None

abbrev pub unreadable_text : Text
unreadable_text = status_line 2 ++ codes "bad words"

abbrev pub memory_text : Text
memory_text = status_line 3 ++ codes "memory"

abbrev pub paused_text : Text
paused_text = status_line 0 ++ codes "paused\n"

abbrev pub refused_text : AdminRefusal → Text
refused_text r = status_line (refusal_status r) ++ admin_text_of r

abbrev pub reply_text : Result AdminReply AdminRefusal → Text
reply_text (Ok reply) = said reply
reply_text (Err r) = refused_text r

abbrev pub reply_to : Result MessageReply OrderFault → Text
reply_to (Ok Paused) = paused_text
reply_to (Ok (Said reply)) = said reply
reply_to (Err (Refused r)) = refused_text r
reply_to (Err Unreadable) = unreadable_text
reply_to (Err Memory) = memory_text

-- what a message that was read comes to: the steps of the registry, and the reply
abbrev pub IsReplied : Option Wanted → List Step → Text → Type 0
IsReplied None steps text = (steps ≡ []) × (text ≡ unreadable_text)
IsReplied (Some Pause) steps text = (steps ≡ []) × (text ≡ paused_text)
IsReplied (Some (Ordered c)) steps text = (reply : Result AdminReply AdminRefusal)
    × (steps ≡ (Order c, reply_of reply) ∷ []) × (text ≡ reply_text reply)

-- what a message came to: what it asks for; or nothing, where it is too long or could not be read;
-- or nothing for want of memory
abbrev pub IsHeard : Text → Option Text → ℕ → Text → List Step → Type 0
IsHeard read left failed text steps =
    (IsMessage read left 0 failed × IsReplied (wanted_in read) steps text)
    ⊎ ((((most_bytes < length read) ⊎ (failed ≡ 1)) × (steps ≡ []) × (text ≡ unreadable_text))
    ⊎ ((steps ≡ []) × (text ≡ memory_text)))

-- A message was read of these bytes, and it is so, whatever registry was held: its reply is that of
-- a run.
pub record Hears {S : Type 0} (g : Ghosts S) (came left : Option Text) (failed : ℕ)
    (old new : Running S) (k0 k1 : Tail) (text : Text) : Type 0 where
  pub read : Text
  pub reads : Consumes came left read
  pub heard : HasCleanDisk (shown g (tables_of new)) → (s : model.Registry)
      → StandsIn s (shown g (tables_of old))
      → RunsTold g (limits_of old) s (tables_of old) (tables_of new) k0 k1
      (IsHeard read left failed text)
  pub keeps : GoesOn g old new
