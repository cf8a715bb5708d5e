use Rattle.reg_http_read.proofs.Common.{◌≡◌, length, Reads, SpendsSome, reads_of}
use Rattle.reg_http_read.proofs.taking.await_head.Given as goal

-- all that was read waits
abbrev pub invariant-judged : goal.invariant-judged
invariant-judged g l = record {
  reads : Reads (g.R.Read.remaining l.fn.r.inner) (g.R.Read.remaining l.r.inner) l.fn.pending.items l.pending.items
      (λ rest. l.pending.items ≡ rest);
  spends : SpendsSome l.fn.left l.left (reads_of l.fn.r) (reads_of l.r);
  chunk : length l.chunk ≡ length l.fn.chunk;
}

abbrev pub decreases-judged : goal.decreases-judged
decreases-judged g l = l.left
