use Rattle.std.proofs.Common.{◌≡◌, ◌+◌}
use Rattle.std.proofs.Common.{List, ℕ, ◌++◌}
use Rattle.std.specs.Io.KnownBytes.{Appends}
use Rattle.reg_cli_line.proofs.ends.write_all.Given as goal

abbrev pub invariant-loop-turn : goal.invariant-loop-turn
invariant-loop-turn g l = record {
  calls : l.writer.calls ≡ l.fn.writer.calls + l._turn;
  failures : l.writer.failures ≡ l.fn.writer.failures;
  front : (front : List ℕ) × (l.bytes ≡ front ++ l.rest)
      × Appends (g.W.Write.contents l.fn.writer.inner) (g.W.Write.contents l.writer.inner) front;
}
