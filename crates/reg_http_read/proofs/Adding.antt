-- Several reads are one, and turns add up.
use Rattle.reg_http_read.proofs.Common.{◌≡◌, ◌++◌, ℕ, [], refl, sym, ap, ◌∙◌, subst, arith, append_assoc, append-nil, Option, Result, Ok}
use Rattle.reg_http_read.proofs.Common.{Err, Consumes-nil, Consumes-trans, Text, Reads, SpendsFor, SpendsSome, StreamFault, Memory}
use Rattle.reg_http_read.proofs.Common.{ReadFault, StoreFault, TooManyTurns, WriteFault}
use Rattle.reg_http_read.specs.Turns.{Spends, SpendsTurns, Tally}

pub reads_nothing : (r : Option Text) (was now : Text) (holds : Text → Type 0) → holds was → Reads r r was now holds
reads_nothing r was now holds h = ([], Consumes-nil r, subst holds (sym (append-nil was)) h)

-- what was read behind what was read
pub reads_on : (r0 r1 r2 : Option Text) (was mid now : Text) (holds : Text → Type 0)
    → Reads r0 r1 was mid (λ rest. mid ≡ rest) → Reads r1 r2 mid now holds → Reads r0 r2 was now holds
reads_on r0 r1 r2 was mid now holds (a, c, same) (b, d, h) = (
  a ++ b,
  Consumes-trans r0 r1 r2 a b c d,
  subst holds (ap (λ l. l ++ b) same ∙ append_assoc was a b) h,
)

pub spends_nothing : (left : ℕ) (t : Tally) → SpendsSome left left t t
spends_nothing left t = record {
  turns = refl;
  reads = omega arith;
  writes = omega arith;
  failed_reads = refl;
  failed_writes = refl;
}

module _ (had mid left : ℕ) (s t u : Tally) (first : SpendsSome had mid s t) where
  pub spends_some : SpendsSome mid left t u → SpendsSome had left s u
  spends_some more = record {
    turns = omega (arith, first.turns, more.turns);
    reads = omega (arith, first.reads, more.reads);
    writes = omega (arith, first.writes, more.writes);
    failed_reads = more.failed_reads ∙ first.failed_reads;
    failed_writes = more.failed_writes ∙ first.failed_writes;
  }

  pub spends_for : (f : StreamFault) → SpendsFor mid left t u f → SpendsFor had left s u f
  spends_for ReadFault more = record {
    turns = omega (arith, first.turns, more.turns);
    reads_are = omega (arith, first.failed_reads, more.reads_are);
    writes_are = omega (arith, first.failed_writes, more.writes_are);
  }
  spends_for WriteFault more = record {
    turns = omega (arith, first.turns, more.turns);
    reads_are = omega (arith, first.failed_reads, more.reads_are);
    writes_are = omega (arith, first.failed_writes, more.writes_are);
  }
  spends_for StoreFault more = record {
    turns = omega (arith, first.turns, more.turns);
    begun = omega (arith, first.writes, more.begun);
    failed_reads = more.failed_reads ∙ first.failed_reads;
    failed_writes = more.failed_writes ∙ first.failed_writes;
  }
  spends_for TooManyTurns more = record {
    turns = omega (arith, first.turns, more.turns);
    failed_reads = more.failed_reads ∙ first.failed_reads;
    failed_writes = more.failed_writes ∙ first.failed_writes;
  }
  spends_for Memory more = absurd more

-- a stream whose memory was there from the first call on
pub spends_whole : {A : Type 0} (had left : ℕ) (s t : Tally) (r : Result A StreamFault) → SpendsTurns had left s t r → Spends had left s t r
spends_whole had left s t (Ok a) it = it
spends_whole had left s t (Err ReadFault) it = it
spends_whole had left s t (Err WriteFault) it = it
spends_whole had left s t (Err StoreFault) it = it
spends_whole had left s t (Err TooManyTurns) it = it
spends_whole had left s t (Err Memory) it = absurd it
