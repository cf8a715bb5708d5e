use Rattle.std.proofs.Common.{subst}
use Rattle.reg_policy.specs.Events.{command_of}
use Rattle.reg_service.specs.Traced.{IsOrdered}
use Rattle.reg_service.specs.Registries.{limits_of, tables_of}
use Rattle.reg_http.specs.Trails.{tail}
use Rattle.reg_cli_run.proofs.Orders.{obeys}
use Rattle.reg_cli_run.proofs.ordering.obey_traced.Goals as goal

pub returns : goal.returns
returns g c =
    let limits = limits_of c.args.registry.now in
    let command = command_of c.args.command.now in
    let old = tables_of c.args.registry.now in
    let new = tables_of c.command_traced-answer.new.self in
    let ordered = c.command_traced-answer.ensures in
    record {
      obeyed =
          obeys g.S.Store limits command old new (tail (g.T.Write.contents c.args.trail.now.end.inner) c.args.trail.now) (tail (g.T.Write.contents c.tell.new.self.end.inner) c.tell.new.self) c.command_traced-answer.result c.order_result.result c.requires.fit
          (subst (λ b. IsOrdered g.S.Store limits b command c.command_traced-answer.result old new) c.is_open.ensures ordered.answers) c.tell.ensures.tells c.order_result.ensures;
      told = (_, c.tell.ensures.tells);
      keeps = record { clean = ordered.clean; limits = ordered.limits };
    }
