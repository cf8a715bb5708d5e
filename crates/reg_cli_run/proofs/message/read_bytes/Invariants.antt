use Rattle.std.proofs.Common.{◌≡◌, ◌+◌, ◌-◌, ◌≤◌, ◌<◌, length, vec_len}
use Rattle.std.specs.Io.KnownBytes.{Consumes}
use Rattle.reg_cli_run.proofs.message.read_bytes.Given as goal

-- what was read so far, each byte by one call at most
abbrev pub invariant-reading : goal.invariant-reading
invariant-reading g l = record {
  calls : l.reader.calls ≤ l.fn.reader.calls + length l.bytes.items;
  failures : l.reader.failures ≡ l.fn.reader.failures;
  room : 0 < vec_len l.chunk;
  bytes : Consumes (g.R.Read.remaining l.fn.reader.inner) (g.R.Read.remaining l.reader.inner) l.bytes.items;
}

abbrev pub decreases-reading : goal.decreases-reading
decreases-reading g l = 65537 - length l.bytes.items
