use Rattle.std.proofs.Common.{◌≡◌, ◌+◌, ◌<◌, vec_len}
use Rattle.std.specs.Io.KnownBytes.{Consumes}
use Rattle.reg_cli_line.proofs.ends.read_all.Given as goal

abbrev pub invariant-loop-turn : goal.invariant-loop-turn
invariant-loop-turn g l = record {
  calls : l.reader.calls ≡ l.fn.reader.calls + l._turn;
  failures : l.reader.failures ≡ l.fn.reader.failures;
  room : 0 < vec_len l.chunk;
  bytes : Consumes (g.R.Read.remaining l.fn.reader.inner) (g.R.Read.remaining l.reader.inner) l.bytes.items;
}
