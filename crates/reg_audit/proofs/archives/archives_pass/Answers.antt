use Rattle.reg_audit.proofs.Words.{◌≡◌, ◌∙◌, arith, sym, subst, true, HasCleanDisk, IsUnchanged, Database, archives_with_id, seen}
use Rattle.reg_audit.proofs.Words.{is_archive}
use Rattle.reg_tables_represent.proofs.Readings.{same_then}
use Rattle.reg_tables.proofs.Looking.{looks_then}
use Rattle.reg_audit.proofs.SameIds.{all_more, all_taken}
use Rattle.reg_audit.proofs.archives.archives_pass.Goals as goal

pub loop-version-preserved : goal.loop-version-preserved
loop-version-preserved g c =
    let old = seen g.S.Store c.args.work.now in
    let mid = seen g.S.Store c.loop-version.work in
    let new = seen g.S.Store c.has_archive.new.work in
    let i = c.loop-version.version-index in
    let looks = c.has_archive.ensures.looks in
    let early : HasCleanDisk new → HasCleanDisk mid = λ clean. omega (arith, clean, looks.survives.clean) in
    let same : HasCleanDisk new → IsUnchanged old new = λ clean. same_then old mid new (c.loop-version.invariant.2 (early clean)) (c.in_ok-has_archive.ensures.same clean) in
    let passes : HasCleanDisk new → is_archive c.version-item.result.digest.items (archives_with_id c.version-item.result.id old.now.trees) ≡ true = λ clean.
    subst (λ (d : Database). is_archive c.version-item.result.digest.items (archives_with_id c.version-item.result.id d.trees) ≡ true) (c.loop-version.invariant.2 (early clean)).0.now_is (sym (c.in_ok-has_archive.ensures.found clean) ∙ c.if-not-branch.false) in (
      λ clean. all_more (λ v. is_archive v.digest.items (archives_with_id v.id old.now.trees)) c.args.versions.now i c.version-item.result c.loop-version-test.true c.version-item.is (c.loop-version.invariant.0 (early clean)) (passes clean),
      c.in_ok-has_archive.ensures.went_on,
      same,
      looks_then g.S.Store c.args.work.now c.loop-version.work c.has_archive.new.work c.loop-version.invariant.3 looks,
    )

pub returns-clause-found : goal.returns-clause-found
returns-clause-found g c clean =
    all_taken (λ v. is_archive v.digest.items (archives_with_id v.id (seen g.S.Store c.args.work.now).now.trees)) c.args.versions.now c.loop-version.version-index (omega arith) (c.loop-version.invariant.0 clean)
