-- A run of `line`: what was read of its input, and what it printed.
use Rattle.std.specs.Prelude.{◌≡◌, ◌⊎◌, ◌+◌, ◌≤◌, ℕ, List, [], Option, IfSome}
use Rattle.std.specs.Io.KnownBytes.{Appends, IsAtEnd}
use Rattle.reg_body.specs.Counting.{CountedEnd}
use Rattle.reg_body.specs.declared.limits.Limits.{Limits}
use Rattle.reg_cli_line.specs.Answers.{Breaks, IsAnswer, IsStop}
use Rattle.reg_cli_line.specs.Ends.{AppendsFront, NoneFailed}
use Rattle.reg_cli_line.specs.Faults.{memory, words_of}
use Rattle.reg_cli_line.specs.declared.fault.LineFault.{LineFault}

-- what an end was before the run and after it, with the bytes that it has left or has taken
pub record End (T : Type 0) : Type 0 where
  pub old : CountedEnd T
  pub new : CountedEnd T
  pub before : Option (List ℕ)
  pub after : Option (List ℕ)

abbrev pub an_end : {T : Type 0} → CountedEnd T → CountedEnd T → Option (List ℕ)
    → Option (List ℕ) → End T
an_end old new before after = record { old = old; new = new; before = before; after = after }

-- the run of `line` within some limits that ended with this status and these words
pub record IsRun {R W : Type 0} (limits : Limits) (status : ℕ) (words : List ℕ) (r : End R)
    (w : End W) : Type 0 where
  -- done: the whole answer was printed
  pub done : status ≡ 0 → (words ≡ []) × IfSome r.before (λ input. (text : List ℕ)
      × IsAnswer limits input text × Appends w.before w.after text)
  -- refused: nothing was printed, and the words are those of the first broken rule
  pub refused : status ≡ 1 → (w.new ≡ w.old) × IfSome r.before (λ input. (fault : LineFault)
      × Breaks limits input fault × ¬ (fault ≡ memory) × (words ≡ words_of fault))
  -- done or refused: the input was read to its end, and no call of an end failed
  pub whole : ¬ (status ≡ 3) → IsAtEnd r.after × NoneFailed r.old r.new × NoneFailed w.old w.new
  -- stopped: nothing was printed, or, once the whole input was read, a front of the answer
  pub stopped : status ≡ 3 → (w.new ≡ w.old) ⊎ (IsAtEnd r.after × IfSome r.before (λ input.
      (text : List ℕ) × IsAnswer limits input text × AppendsFront w.before w.after text))
  -- stopped: the words say why, and nothing else went wrong
  pub cause : status ≡ 3 → IsStop words limits.turns r.old r.new w.old w.new
  pub ends : (status ≡ 0) ⊎ ((status ≡ 1) ⊎ (status ≡ 3))
  pub turns : r.new.calls + w.new.calls ≤ r.old.calls + w.old.calls + limits.turns
