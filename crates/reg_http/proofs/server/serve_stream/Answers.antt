use Rattle.reg_http.proofs.Kept.{untraced}
use Rattle.reg_http.proofs.server.serve_stream.Goals as goal

pub returns : goal.returns
returns g c = untraced c.serve_traced.ensures
