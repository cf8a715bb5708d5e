use Rattle.reg_service_requests.proofs.Words.{FindsSummary, runs_asked, runs_refused}
use Rattle.reg_service_requests.proofs.ReadingServed.{file_found}
use Rattle.reg_service_requests.proofs.reading.find_file.Goals as goal

pub returns-in-Some : goal.returns-in-Some
returns-in-Some g c =
    runs_asked g.S.Store {P = FindsSummary c.args.found.now.id} c.in_ok-summary.field-0 _ c.args.work.now c.summary_of.new.self
    c.in_ok-summary.ensures
    (λ finds path. file_found path c.args.found.now c.in-Some.summary _ (rw c.in-Some.is at finds))

pub returns-in-None : goal.returns-in-None
returns-in-None g c =
    runs_refused g.S.Store c.in_ok-summary.field-0 c.fail.result c.args.work.now c.summary_of.new.self c.fail.new.self c.fail.ensures.fails c.in_ok-summary.ensures c.fail.ensures.leaves
