use Rattle.reg_http_read.proofs.Common.{◌≡◌, ◌≤◌, length, IsUnfinished, Reads, SpendsSome, reads_of}
use Rattle.reg_http_read.proofs.reading.read_line.Given as goal

-- all that was read waits, and nothing can be judged yet
abbrev pub invariant-pieces : goal.invariant-pieces
invariant-pieces g l = record {
  reads : Reads (g.R.Read.remaining l.fn.r.inner) (g.R.Read.remaining l.r.inner) l.fn.pending.items l.pending.items
      (λ rest. l.pending.items ≡ rest);
  begun : IsUnfinished l.limits l.pending.items;
  spends : SpendsSome l.fn.left l.left (reads_of l.fn.r) (reads_of l.r);
  chunk : length l.chunk ≡ length l.fn.chunk;
  fewer : l.left ≤ l.fn.left;
}

abbrev pub decreases-pieces : goal.decreases-pieces
decreases-pieces g l = l.left
