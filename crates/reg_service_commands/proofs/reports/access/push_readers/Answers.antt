use Rattle.reg_service_commands.proofs.Words.{arith, string_bytes, line_of_reader}
use Rattle.reg_service_commands.proofs.Behind.{next_line}
use Rattle.reg_service_commands.proofs.reports.access.push_readers.Goals as goal

pub loop-reader-preserved : goal.loop-reader-preserved
loop-reader-preserved c =
    next_line line_of_reader (string_bytes c.args.report.now) c.args.readers.now c.loop-reader.reader-index c.reader-item.result (string_bytes c.loop-reader.report) (string_bytes c.push_reader.new.report) (omega arith) c.reader-item.is c.in_ok-push_reader.ensures c.loop-reader.invariant
