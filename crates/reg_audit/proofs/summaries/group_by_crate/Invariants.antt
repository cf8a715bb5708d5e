use Rattle.reg_audit.proofs.Words.{◌≡◌, ℕ, map, take, ◌==◌, filter, shown_version}
use Rattle.reg_audit.specs.Marks.{marks_at}
use Rattle.reg_audit.proofs.summaries.group_by_crate.Given as goal

abbrev pub invariant-loop-version : goal.invariant-loop-version
invariant-loop-version l = (id : ℕ) → marks_at l.groups id ≡ map shown_version (filter (λ v. v.crate_id == id) (take l.version-index l.versions))
