use Rattle.reg_cli.proofs.Rounds.{on_both}
use Rattle.reg_cli.proofs.serving.serve_store.Goals as goal

pub returns-clause-served : goal.returns-clause-served
returns-clause-served g c =
    on_both c.serve_door-served.result (λ ended served. (
      c.serve_door-served.new.registry,
      served.0,
      c.into_connection.ensures,
      served.1,
      ended,
      record {
        opened = c.in_ok-registry.registry;
        same = c.in_ok-registry.ensures.same;
        clean = c.in_ok-registry.ensures.clean;
        limited = c.in_ok-registry.ensures.limited;
        left = c.in_ok-registry.ensures.left;
        served = served.2;
      },
    )) c.serve_door-served.ensures.ended c.serve_door-served.ensures.served
