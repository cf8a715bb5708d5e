use Rattle.reg_http_read.proofs.Common.{◌≡◌, ◌≤◌, length, Reads, SpendsSome, reads_of}
use Rattle.reg_http_read.proofs.taking.await_rest.Given as goal

-- all that was read waits
abbrev pub invariant-pieces : goal.invariant-pieces
invariant-pieces g l = record {
  reads : Reads (g.R.Read.remaining l.fn.r.inner) (g.R.Read.remaining l.r.inner) l.fn.pending.items l.pending.items
      (λ rest. l.pending.items ≡ rest);
  spends : SpendsSome l.fn.left l.left (reads_of l.fn.r) (reads_of l.r);
  chunk : length l.chunk ≡ length l.fn.chunk;
  head : l.len ≤ length l.pending.items;
}

abbrev pub decreases-pieces : goal.decreases-pieces
decreases-pieces g l = l.left
