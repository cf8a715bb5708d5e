-- How a run ends: its status, and the line for standard error.
use Rattle.std.specs.Prelude.{◌≡◌, ℕ, [], codes, Result, Ok, Err}
use Rattle.reg_model.specs.Registry.{Text}
use Rattle.reg_model.specs.declared.rule.AdminRefusal.{AdminRefusal}
use Rattle.reg_model.specs.declared.rule.AdminRefusal.TheVariants as refusal
use Rattle.reg_policy.specs.Words.{admin_text_of}
use Rattle.reg_http_read.specs.declared.fault.StreamFault.{StreamFault}
use Rattle.reg_http_read.specs.declared.fault.StreamFault.TheVariants as stream
use Rattle.reg_cli_line.specs.declared.exit.Exit.{Exit}
use Rattle.reg_cli_run.specs.declared.ordering.OrderFault.{OrderFault}
use Rattle.reg_cli_run.specs.declared.ordering.OrderFault.TheVariants.{Memory, Refused, Unreadable}

-- the run ends with this status, and this line for standard error; none where it is empty
pub record EndsWith (status : ℕ) (words : Text) (exit : Exit) : Type 0 where
  pub status_is : exit.status ≡ status
  pub words_are : exit.message.now ≡ words

-- 1 of a command that is refused, 3 where that is for want of room
abbrev pub refusal_status : AdminRefusal → ℕ
refusal_status refusal.G10 = 3
refusal_status _ = 1

abbrev pub EndsRefused : AdminRefusal → Exit → Type 0
EndsRefused r exit = EndsWith (refusal_status r) (admin_text_of r) exit

-- the setup was not done to its end
abbrev pub EndsSetup : OrderFault → Exit → Type 0
EndsSetup (Refused r) exit = EndsRefused r exit
EndsSetup Unreadable exit = EndsWith 2 (codes "bad setup line") exit
EndsSetup Memory exit = EndsWith 3 (codes "memory") exit

-- a message's command was not done
abbrev pub EndsMessage : OrderFault → Exit → Type 0
EndsMessage (Refused r) exit = EndsRefused r exit
EndsMessage Unreadable exit = EndsWith 2 (codes "bad words") exit
EndsMessage Memory exit = EndsWith 3 (codes "memory") exit

-- what a stream's fault is called
abbrev pub stream_words : StreamFault → Text
stream_words stream.ReadFault = codes "read fault"
stream_words stream.WriteFault = codes "write fault"
stream_words stream.TooManyTurns = codes "too many turns"
stream_words stream.StoreFault = codes "store fault"
stream_words stream.Memory = codes "memory"

-- the stream ended, or stopped
abbrev pub EndsStream : Result ℕ StreamFault → Exit → Type 0
EndsStream (Ok replies) exit = EndsWith 0 [] exit
EndsStream (Err fault) exit = EndsWith 3 (stream_words fault) exit
