use Rattle.std.proofs.Common.{rules}
use Rattle.reg_api_replies.proofs.refused.error_body.Goals as goal

pub returns : goal.returns
returns c = search rules
