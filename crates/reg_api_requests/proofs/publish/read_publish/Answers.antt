use Rattle.reg_api_requests.specs.Publish.{publish_of}
use Rattle.reg_api_requests.proofs.publish.read_publish.Goals as goal

pub returns-clause-read : goal.returns-clause-read
unfolding publish_of
returns-clause-read c = rw c.in_ok-json.ensures c.read_metadata.ensures.read
