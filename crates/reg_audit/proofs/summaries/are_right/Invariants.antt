use Rattle.reg_audit.proofs.Words.{◌≡◌, take, true, list_all}
use Rattle.reg_audit.specs.Checks.{is_summary}
use Rattle.reg_audit.proofs.summaries.are_right.Given as goal

-- the summaries so far are right
abbrev pub invariant-loop-summary : goal.invariant-loop-summary
invariant-loop-summary l = list_all (is_summary l.rows) (take l.summary-index l.rows.summaries.items) ≡ true
