use Rattle.std.proofs.Common.{◌≡◌, ◌+◌, ◌≤◌, ℕ}
use Rattle.reg_http.specs.Trails.{tail}
use Rattle.reg_service.specs.Registries.{limits_of}
use Rattle.reg_cli_run.specs.Limited.{HasTurns}
use Rattle.reg_cli_run.specs.Visits.{ServesVisits}
use Rattle.reg_cli_run.proofs.connections.serve_connections.Given as goal

-- the registry goes on, and each connection was counted once and served its part of one run
abbrev pub invariant-connections : goal.invariant-connections
invariant-connections g l = record {
  turns : HasTurns (limits_of l.registry);
  counts : g.D.Door.accepted l.door + l.left ≡ g.D.Door.accepted l.fn.door + l.fn.left;
  fewer : l.left ≤ l.fn.left;
  number : ℕ;
  of_all : l.left + number ≡ l.fn.left;
  serves : ServesVisits g.S.Store number (g.D.Door.log l.fn.door) (g.D.Door.log l.door) l.fn.registry l.registry (tail (g.T.Write.contents l.fn.trail.end.inner) l.fn.trail) (tail (g.T.Write.contents l.trail.end.inner) l.trail);
}

abbrev pub decreases-connections : goal.decreases-connections
decreases-connections g l = l.left
