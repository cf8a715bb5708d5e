use Rattle.reg_audit.proofs.Words.{◌≡◌, take, true, false, list_all, HasCleanDisk, IsUnchanged, seen, archives_with_id, is_archive}
use Rattle.reg_tables.specs.Works.{has_failed}
use Rattle.reg_tables.specs.Looks.{Looks}
use Rattle.reg_audit.proofs.archives.archives_pass.Given as goal

-- the versions before the index have their archives
abbrev pub invariant-loop-version : goal.invariant-loop-version
invariant-loop-version g l =
    let old = seen g.S.Store l.initial.work in
    let new = seen g.S.Store l.work in
    (HasCleanDisk new → list_all (λ v. is_archive v.digest.items (archives_with_id v.id old.now.trees)) (take l.version-index l.versions) ≡ true)
    × (has_failed l.work ≡ false)
    × (HasCleanDisk new → IsUnchanged old new)
    × Looks g.S.Store l.initial.work l.work
