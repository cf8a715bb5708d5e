use Rattle.std.proofs.Common.{arith}
use Rattle.reg_line.proofs.Shortest.{line_long}
use Rattle.reg_line.proofs.laws.no_line_is_shorter.Goals as goal

pub returns : goal.returns
returns c = λ h. line_long c.args.stem.now c.args.name.now c.args.vers.now c.args.digest.now c.args.yanked (omega arith) h
