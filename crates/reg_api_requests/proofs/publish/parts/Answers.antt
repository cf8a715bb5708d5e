use Rattle.reg_api_requests.proofs.Releases.{split_parts}
use Rattle.reg_api_requests.proofs.publish.parts.Goals as goal

pub returns : goal.returns
returns c =
    let e = c.split.ensures in
    split_parts c.args.limits.now c.args.body.now c.split.result e.parts e.short e.trailing e.too_long
