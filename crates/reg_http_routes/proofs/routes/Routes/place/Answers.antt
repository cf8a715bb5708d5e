use Rattle.std.proofs.Common.{ap, sym, ◌∙◌}
use Rattle.matchit.specs.Seek.{first}
use Rattle.reg_http_routes.proofs.Parts.{table_took}
use Rattle.reg_http_routes.proofs.routes.Routes.place.Goals as goal

pub returns-in-Ok-clause-params : goal.returns-in-Ok-clause-params
returns-in-Ok-clause-params c =
    let path = c.args.path.now in
    let found = ap (λ rows. first rows path) (sym c.args.self.now.whole) ∙ c.in-Ok.ensures.found in
    rw c.in-Ok.ensures.path (table_took path c.utf8.path _ found)
