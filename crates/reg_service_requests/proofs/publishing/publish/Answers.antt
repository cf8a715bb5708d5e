use Rattle.reg_service_requests.proofs.Words.{◌≡◌, [], ◌∷◌, Bool, true, false, refl, rules, ◌&&◌, codes, Publish, publication_of}
use Rattle.reg_service_requests.proofs.Words.{runs_ended}
use Rattle.reg_service_requests.proofs.Asking.{change_told, publish_has}
use Rattle.reg_service_requests.proofs.publishing.publish.Goals as goal

always : (b : Bool) → b ≡ (b && true)
always true = refl
always false = refl

pub returns : goal.returns
returns g c =
    let who = c.args.principal.now in
    let limits = c.args.limits.now in
    let p = publication_of c.args.new.now in
    let words = codes "publish" ∷ p.name ∷ p.version ∷ [] in
    runs_ended g.S.Store c.in_ok-served.served c.in_ok-line.line _ c.args.work.now c.publish_version.new.work c.tell_change.new.work c.in_ok-served.ensures c.in_ok-line.ensures
    (λ serves told digest lets asks. (
      serves digest lets asks,
      change_told c.args.traced true c.args.traced limits who (Publish p) _ words c.in_ok-line.line (always c.args.traced) (search (rules, told)) (publish_has limits who p _) digest asks,
    ))
