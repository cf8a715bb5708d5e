use Rattle.reg_http.proofs.Words.{◌≤◌, ◌<◌, ◌+◌, length, limits_of}
use Rattle.reg_http.proofs.Requests.{Answered}
use Rattle.reg_http.proofs.stream.serve_requests.Given as goal

-- the requests so far are answered
abbrev pub invariant-requests : goal.invariant-requests
invariant-requests g l = record {
  so_far : Answered g.S.Store g.R.Read.remaining g.W.Write.contents g.T.Write.contents l.fn.registry l.fn.r l.fn.w l.fn.trail l.registry l.trail l.r l.w l.pending.items l.replies l.left;
  chunk : 0 < length l.chunk;
  replies : l.replies + l.left ≤ (limits_of l.fn.registry).turns;
}

abbrev pub decreases-requests : goal.decreases-requests
decreases-requests g l = l.left
