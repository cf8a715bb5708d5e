-- Turns: how many read and write calls a stream may make, and what sending does with those that
-- are left.
use Rattle.std.specs.Prelude.{◌≡◌, ◌+◌, ◌≤◌, ◌<◌, ℕ, Option, Result, Ok, Err}
use Rattle.std.specs.Io.KnownBytes.{Appends}
use Rattle.reg_body.specs.Counting.{CountedEnd}
use Rattle.reg_model.specs.Registry.{Text}
use Rattle.reg_body.specs.Sent.{AppendsFront}
use Rattle.reg_http_read.specs.declared.fault.StreamFault.{StreamFault}
use Rattle.reg_http_read.specs.declared.fault.StreamFault.TheVariants.{Memory, ReadFault, StoreFault, TooManyTurns, WriteFault}

-- how often a reader and a writer were called, and how often each failed
pub record Tally : Type 0 where
  pub reads : ℕ
  pub writes : ℕ
  pub failed_reads : ℕ
  pub failed_writes : ℕ

abbrev pub tally : {R W : Type 0} → CountedEnd R → CountedEnd W → Tally
tally r w = record {
  reads = r.calls;
  writes = w.calls;
  failed_reads = r.failures;
  failed_writes = w.failures;
}

-- the same where only one of them is called
abbrev pub reads_of : {R : Type 0} → CountedEnd R → Tally
reads_of r = record {
  reads = r.calls;
  writes = 0;
  failed_reads = r.failures;
  failed_writes = 0;
}

abbrev pub writes_of : {W : Type 0} → CountedEnd W → Tally
writes_of w = record {
  reads = 0;
  writes = w.calls;
  failed_reads = 0;
  failed_writes = w.failures;
}

module _ (had left : ℕ) (old new : Tally) where
  -- calls were made, each by a turn of those that were had, and none failed
  pub record SpendsSome : Type 0 where
    pub turns : new.reads + new.writes + left ≡ old.reads + old.writes + had
    pub reads : old.reads ≤ new.reads
    pub writes : old.writes ≤ new.writes
    pub failed_reads : new.failed_reads ≡ old.failed_reads
    pub failed_writes : new.failed_writes ≡ old.failed_writes

  -- so many failed at last
  pub record SpendsUntil (failed_reads failed_writes : ℕ) : Type 0 where
    pub turns : new.reads + new.writes ≤ old.reads + old.writes + had
    pub reads_are : new.failed_reads ≡ old.failed_reads + failed_reads
    pub writes_are : new.failed_writes ≡ old.failed_writes + failed_writes

  -- a write was made, and none failed
  pub record SpendsBegun : Type 0 where
    pub turns : new.reads + new.writes ≤ old.reads + old.writes + had
    pub begun : old.writes < new.writes
    pub failed_reads : new.failed_reads ≡ old.failed_reads
    pub failed_writes : new.failed_writes ≡ old.failed_writes

  -- all turns were used up
  pub record SpendsAll : Type 0 where
    pub turns : new.reads + new.writes ≡ old.reads + old.writes + had
    pub failed_reads : new.failed_reads ≡ old.failed_reads
    pub failed_writes : new.failed_writes ≡ old.failed_writes

  -- a fault comes only of its cause; no read and no write stops for want of memory
  abbrev pub SpendsFor : StreamFault → Type 0
  SpendsFor ReadFault = SpendsUntil 1 0
  SpendsFor WriteFault = SpendsUntil 0 1
  SpendsFor StoreFault = SpendsBegun
  SpendsFor TooManyTurns = SpendsAll
  SpendsFor Memory = ⊥

  -- what a call did with the turns
  abbrev pub SpendsTurns : {A : Type 0} → Result A StreamFault → Type 0
  SpendsTurns (Ok a) = SpendsSome
  SpendsTurns (Err fault) = SpendsFor fault

  -- what a whole stream did with them: where memory was refused, no call was made
  abbrev pub Spends : {A : Type 0} → Result A StreamFault → Type 0
  Spends (Err Memory) = new ≡ old
  Spends r = SpendsTurns r

module _ (text : Text) (old new : Option Text) where
  -- what sending a text did to what a writer holds: a front was sent where it stopped
  abbrev pub Sends : {A : Type 0} → Result A StreamFault → Type 0
  Sends (Ok a) = Appends old new text
  Sends (Err WriteFault) = AppendsFront text old new
  Sends (Err TooManyTurns) = AppendsFront text old new
  Sends (Err fault) = ⊥
