use Rattle.reg_http.proofs.Words.{refl, limits_of, tables_of, tail}
use Rattle.reg_http.proofs.Kept.{owned, still}
use Rattle.reg_http.proofs.Trails.{trailed_nothing}
use Rattle.reg_http.proofs.Steps.{untouched}
use Rattle.reg_http.proofs.server.serve_traced.Goals as goal

pub returns-in_default : goal.returns-in_default
returns-in_default g c =
    let limits = limits_of c.args.registry.now in
    let tables = tables_of c.args.registry.now in
    let k = tail (g.T.Write.contents c.args.trail.now.end.inner) c.args.trail.now in
    record {
      serves = λ clean s shows. untouched g.S.Store limits s tables k (g.R.Read.remaining c.args.r.now.inner) (g.W.Write.contents c.args.w.now.inner) tables (c.history_law.ensures.begins limits s tables shows);
      spends = (limits.turns, refl);
      told = trailed_nothing k;
      keeps = still;
    }

pub returns : goal.returns
returns g c = owned c.serve_traced.ensures
