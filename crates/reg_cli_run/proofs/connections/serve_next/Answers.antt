use Rattle.std.proofs.Common.{rules}
use Rattle.reg_cli_run.specs.declared.door.Caller.TheVariants.{Admin, Client}
use Rattle.reg_cli_run.proofs.Visiting.{visit_missed, visit_served}
use Rattle.reg_cli_run.proofs.connections.serve_next.Goals as goal
use Rattle.reg_cli_run.proofs.connections.serve_next.Goals.{in-Some-Client-default-default, in-Some-Admin-default-default, in-None}

pub returns-clause-told : goal.returns-clause-told
returns-clause-told g c = search rules

pub returns-clause-serves : goal.returns-clause-serves
returns-clause-serves g c = record {
  last = c.match-branch-2.registry;
  visits = elim c.match-branch-2.branch [
    | in-Some-Client-default-default w ↦ rw (w.registry-is, w.trail-is, w.door-is) (visit_served g.S.Store Client _ _ _ _ _ _ _ _ _ (rw (w.in-Some-Client-default-default.is, w.in-Some-Client-default-default.field-0-0-is) at c.in_ok-reader.ensures.came) w.serve_connection.ensures.serves)
    | in-Some-Admin-default-default w ↦ rw (w.registry-is, w.trail-is, w.door-is) (visit_served g.S.Store Admin _ _ _ _ _ _ _ _ _ (rw (w.in-Some-Admin-default-default.is, w.in-Some-Admin-default-default.field-0-0-is) at c.in_ok-reader.ensures.came) w.serve_message.ensures.serves)
    | in-None w ↦ rw (w.registry-is, w.trail-is, w.door-is) (visit_missed g.S.Store c.history_law.ensures.begins _ _ c.args.registry.now _ (rw w.in-None.is at c.in_ok-reader.ensures.came))
  ];
  tried = c.is_stopped.ensures.tried;
  limits = c.is_stopped.ensures.limits;
}
