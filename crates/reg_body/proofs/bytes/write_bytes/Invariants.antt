use Rattle.std.proofs.Common.{◌≡◌, ◌+◌, ◌-◌, ◌≤◌, ◌<◌, ◌++◌, ℕ, List, length}
use Rattle.std.specs.Io.KnownBytes.{Appends}
use Rattle.reg_body.proofs.bytes.write_bytes.Given as goal

abbrev pub invariant-rest : goal.invariant-rest
invariant-rest g l = record {
  used : l.used ≤ l.writes;
  calls : l.w.calls ≡ l.fn.w.calls + l.used;
  failures : l.w.failures ≡ l.fn.w.failures;
  sent : 0 < l.used → 0 < length l.bytes;
  begun : l.used ≡ 0 → length l.rest ≡ length l.bytes;
  front : (front : List ℕ) × (l.bytes ≡ front ++ l.rest)
      × Appends (g.W.Write.contents l.fn.w.inner) (g.W.Write.contents l.w.inner) front;
}

abbrev pub decreases-rest : goal.decreases-rest
decreases-rest g l = l.writes - l.used
