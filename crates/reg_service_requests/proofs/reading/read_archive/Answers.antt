use Rattle.reg_service_requests.proofs.Words.{IsArchiveWithId, runs_asked, runs_refused}
use Rattle.reg_service_requests.proofs.ReadingServed.{archive_served}
use Rattle.reg_service_requests.proofs.reading.read_archive.Goals as goal

pub returns-in-Some : goal.returns-in-Some
returns-in-Some g c =
    runs_asked g.S.Store {P = IsArchiveWithId c.args.version} c.in_ok-archive.field-0 _ c.args.work.now c.archive_with_id.new.self
    c.in_ok-archive.ensures
    (λ finds name text. archive_served name text c.args.version c.in-Some.archive _ (rw c.in-Some.is at finds))

pub returns-in-None : goal.returns-in-None
returns-in-None g c =
    runs_refused g.S.Store c.in_ok-archive.field-0 c.fail.result c.args.work.now c.archive_with_id.new.self c.fail.new.self c.fail.ensures.fails c.in_ok-archive.ensures c.fail.ensures.leaves
