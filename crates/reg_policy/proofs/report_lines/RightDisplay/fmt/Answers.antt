use Rattle.std.proofs.Output.{has_written_of_eq}
use Rattle.reg_policy.proofs.ReportLines.{number_column}
use Rattle.reg_policy.proofs.report_lines.RightDisplay.fmt.Goals as goal

pub returns-clause-writes : goal.returns-clause-writes
returns-clause-writes g c plain ok =
    has_written_of_eq _ _ _ _ _ (number_column _ c.args.self.now.0 c.args.self.now.1 c.laid_out.ensures)
    (c.write.ensures.writes plain ok)
