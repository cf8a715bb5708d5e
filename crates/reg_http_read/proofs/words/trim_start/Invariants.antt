use Rattle.reg_http_read.proofs.Common.{◌≡◌, length, skip_ows}
use Rattle.reg_http_read.proofs.words.trim_start.Given as goal

abbrev pub invariant-loop-rest : goal.invariant-loop-rest
invariant-loop-rest l = skip_ows l.rest ≡ skip_ows l.text

abbrev pub decreases-loop-rest : goal.decreases-loop-rest
decreases-loop-rest l = length l.rest
