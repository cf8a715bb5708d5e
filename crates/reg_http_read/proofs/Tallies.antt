-- Turns of the reader or of the writer alone, told of both.
use Rattle.reg_http_read.proofs.Common.{ℕ, arith, refl, SpendsFor, SpendsSome, reads_of, tally, StreamFault, Memory, ReadFault, StoreFault}
use Rattle.reg_http_read.proofs.Common.{TooManyTurns, WriteFault}
use Rattle.reg_body.specs.Counting.{CountedEnd}
use Rattle.reg_http_read.specs.Turns.{writes_of}
use Rattle.reg_http_read.proofs.Adding.{spends_some}

pub reads_some : {R W : Type 0} (had left : ℕ) (r s : CountedEnd R) (w : CountedEnd W)
    → SpendsSome had left (reads_of r) (reads_of s) → SpendsSome had left (tally r w) (tally s w)
reads_some had left r s w it = record {
  turns = omega (arith, it.turns);
  reads = it.reads;
  writes = omega arith;
  failed_reads = it.failed_reads;
  failed_writes = refl;
}

pub writes_some : {R W : Type 0} (had left : ℕ) (r : CountedEnd R) (w v : CountedEnd W)
    → SpendsSome had left (writes_of w) (writes_of v) → SpendsSome had left (tally r w) (tally r v)
writes_some had left r w v it = record {
  turns = omega (arith, it.turns);
  reads = omega arith;
  writes = it.writes;
  failed_reads = refl;
  failed_writes = it.failed_writes;
}

pub reads_for : {R W : Type 0} (had left : ℕ) (r s : CountedEnd R) (w : CountedEnd W) (f : StreamFault)
    → SpendsFor had left (reads_of r) (reads_of s) f → SpendsFor had left (tally r w) (tally s w) f
reads_for had left r s w ReadFault it = record {
  turns = omega (arith, it.turns);
  reads_are = it.reads_are;
  writes_are = omega arith;
}
reads_for had left r s w WriteFault it = absurd (omega (arith, it.writes_are))
reads_for had left r s w StoreFault it = absurd (omega (arith, it.begun))
reads_for had left r s w TooManyTurns it = record {
  turns = omega (arith, it.turns);
  failed_reads = it.failed_reads;
  failed_writes = refl;
}
reads_for had left r s w Memory it = absurd it

pub writes_for : {R W : Type 0} (had left : ℕ) (r : CountedEnd R) (w v : CountedEnd W) (f : StreamFault)
    → SpendsFor had left (writes_of w) (writes_of v) f → SpendsFor had left (tally r w) (tally r v) f
writes_for had left r w v ReadFault it = absurd (omega (arith, it.reads_are))
writes_for had left r w v WriteFault it = record {
  turns = omega (arith, it.turns);
  reads_are = omega arith;
  writes_are = it.writes_are;
}
writes_for had left r w v StoreFault it = record {
  turns = omega (arith, it.turns);
  begun = it.begun;
  failed_reads = refl;
  failed_writes = it.failed_writes;
}
writes_for had left r w v TooManyTurns it = record {
  turns = omega (arith, it.turns);
  failed_reads = refl;
  failed_writes = it.failed_writes;
}
writes_for had left r w v Memory it = absurd it

-- a read and then a write
pub asked : {R W : Type 0} (had mid left : ℕ) (r s : CountedEnd R) (w v : CountedEnd W)
    → SpendsSome had mid (reads_of r) (reads_of s) → SpendsSome mid left (writes_of w) (writes_of v) → SpendsSome had left (tally r w) (tally s v)
asked had mid left r s w v first next =
    spends_some had mid left (tally r w) (tally s w) (tally s v) (reads_some had mid r s w first) (writes_some mid left s w v next)

-- and then one more read
pub all_asked : {R W : Type 0} (had mid less left : ℕ) (r s t : CountedEnd R) (w v : CountedEnd W)
    → SpendsSome had mid (reads_of r) (reads_of s) → SpendsSome mid less (writes_of w) (writes_of v) → SpendsSome less left (reads_of s) (reads_of t)
    → SpendsSome had left (tally r w) (tally t v)
all_asked had mid less left r s t w v first next last =
    spends_some had less left (tally r w) (tally s v) (tally t v) (asked had mid less r s w v first next) (reads_some less left s t v last)
