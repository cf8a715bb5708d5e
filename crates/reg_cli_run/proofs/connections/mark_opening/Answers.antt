use Rattle.std.proofs.Common.{rules, subst}
use Rattle.reg_http.specs.Trails.{Trails, tail}
use Rattle.reg_cli_run.proofs.connections.mark_opening.Goals as goal

pub returns : goal.returns
returns g c = record {
  limits = c.mark.ensures.limits;
  untold = search rules;
  looked = λ some. c.mark.ensures.looked;
  told = λ some clean s h.
      subst (λ text. Trails (tail (g.T.Write.contents c.args.trail.now.end.inner) c.args.trail.now) (tail (g.T.Write.contents c.tell.new.self.end.inner) c.tell.new.self) text)
      (c.in-Ok.ensures.marked clean s h) c.tell.ensures.tells;
}
