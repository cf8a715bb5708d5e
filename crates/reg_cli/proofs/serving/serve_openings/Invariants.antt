use Rattle.std.proofs.Common.{◌≡◌, ◌+◌, ℕ, List, false}
use Rattle.sqlite.specs.Files.{over_files}
use Rattle.reg_http.specs.Trails.{tail}
use Rattle.reg_cli.specs.Rounds.{Round, ServesRounds}
use Rattle.reg_cli.proofs.serving.serve_openings.Given as goal

-- the connections that came in, and those that are left; no transaction is open; those that came
-- were served in rounds
abbrev pub invariant-openings : goal.invariant-openings
invariant-openings g l = record {
  counts : l.listener.accepted + l.left ≡ l.service.connections;
  begun : l.conn.in_transaction ≡ false;
  rounds : (before : ℕ) × (before + l.left ≡ l.service.connections) × (earlier : List (Round _)) × ServesRounds over_files l.limits l.fn.conn (tail (g.T.Write.contents l.fn.trail.end.inner) l.fn.trail) earlier before l.conn (tail (g.T.Write.contents l.trail.end.inner) l.trail);
}

abbrev pub decreases-openings : goal.decreases-openings
decreases-openings g l = l.left
