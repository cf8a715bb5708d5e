use Rattle.reg_http_read.proofs.Common.{◌≡◌, length}
use Rattle.reg_http_read.specs.Begun.{skip_newlines}
use Rattle.reg_http_read.proofs.method.skip_newlines.Given as goal

abbrev pub invariant-loop-rest : goal.invariant-loop-rest
invariant-loop-rest l = skip_newlines l.rest ≡ skip_newlines l.bytes

abbrev pub decreases-loop-rest : goal.decreases-loop-rest
decreases-loop-rest l = length l.rest
