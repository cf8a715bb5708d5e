use Rattle.std.proofs.Common.{◌≡◌, ℕ, ◌<◌, get_or, false}
use Rattle.reg_http_read.proofs.Lists.{is_comma}
use Rattle.reg_http_read.proofs.words.to_comma.Given as goal

abbrev pub invariant-loop-i : goal.invariant-loop-i
invariant-loop-i l = (k : ℕ) → k < l.i → is_comma (get_or l.rest k 0) ≡ false
