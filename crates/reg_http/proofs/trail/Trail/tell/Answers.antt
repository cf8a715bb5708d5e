use Rattle.reg_http.proofs.Words.{◌∙◌, ◌-◌, ap, refl, subst, sym, string_bytes, Tail, Trails, tail}
use Rattle.std.proofs.Common.{rules}
use Rattle.reg_http.proofs.Trails.{trails_all, trails_nothing, trails_spent}
use Rattle.reg_http.proofs.trail.Trail.tell.Goals as goal

pub returns-in_default-clause-tells : goal.returns-in_default-clause-tells
returns-in_default-clause-tells g c = rw c.in_default.is (trails_nothing (tail (g.T.Write.contents c.args.self.now.end.inner) c.args.self.now))

pub returns-then-self-eq0-clause-tells : goal.returns-then-self-eq0-clause-tells
returns-then-self-eq0-clause-tells g c =
    trails_spent (tail (g.T.Write.contents c.args.self.now.end.inner) c.args.self.now) _ (ap (λ t. t.left) (sym c.self.view_is) ∙ c.if-self-eq0.true)

pub returns-in-Ok-clause-tells : goal.returns-in-Ok-clause-tells
returns-in-Ok-clause-tells g c =
    let was = c.self.inside.writer in
    let now = c.write_bytes.new.w in
    let k0 : Tail = record { contents = g.T.Write.contents was.inner; calls = was.calls; failures = was.failures; left = c.self.inside.left } in
    let k1 : Tail = record { contents = g.T.Write.contents now.inner; calls = now.calls; failures = now.failures; left = c.self.inside.left - c.in-Ok.used } in
    rw c.in-Some.is
    (subst (λ t. Trails (tail (g.T.Write.contents t.end.inner) t) k1 (string_bytes c.in-Some.line)) c.self.view_is
    (subst (Trails k0 k1) c.as_bytes.ensures.value (trails_all k0 k1 c.as_bytes.result.now c.in-Ok.used c.in-Ok.ensures refl)))

pub invariant_of-self-in-Err : goal.invariant_of-self-in-Err
invariant_of-self-in-Err g c = search rules
