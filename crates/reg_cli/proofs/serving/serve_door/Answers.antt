use Rattle.reg_http.specs.Trails.{tail}
use Rattle.reg_cli.proofs.Rounds.{on_ok}
use Rattle.reg_cli.proofs.serving.serve_door.Goals as goal

pub returns-clause-served : goal.returns-clause-served
returns-clause-served g c =
    let serves = c.serve_connections.ensures.serves in
    on_ok c.serve_connections.result (
      serves.0,
      serves.1,
      record {
        marked = c.mark_opening.new.registry;
        between = tail (g.T.Write.contents c.mark_opening.new.trail.end.inner) c.mark_opening.new.trail;
        marks = c.in_ok-mark_opening.ensures;
        served = serves.2;
      },
    )
