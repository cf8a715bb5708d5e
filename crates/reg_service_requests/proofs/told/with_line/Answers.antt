use Rattle.std.proofs.Common.{rules}
use Rattle.reg_service_requests.proofs.told.with_line.Goals as goal

pub returns-in-Denied : goal.returns-in-Denied
returns-in-Denied c = search rules
