use Rattle.std.proofs.Common.{rules}
use Rattle.reg_line.specs.StemCheck.{fits}
use Rattle.reg_line.proofs.stem_check.fits.Goals as goal

pub returns-clause-answer : goal.returns-clause-answer
unfolding fits
returns-clause-answer c = search rules
