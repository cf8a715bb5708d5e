use Rattle.reg_tables_rows.proofs.Words.{subst, sym, owners_tree, readers_tree, reserved_tree, rows_in, AreCratesById, AreOwnerships}
use Rattle.reg_tables_rows.proofs.Words.{AreVersions, HaveOwnRowids, ◌⨾◌, fails, left, so_far, told_before, was_clean}
use Rattle.reg_tables_schema.specs.Places.{crates_tree, versions_tree}
use Rattle.reg_tables_represent.proofs.Readings.{still_ready}
use Rattle.reg_tables_rows.proofs.all_rows.crate_tables.Goals as goal

pub returns-clause-obeys : goal.returns-clause-obeys
returns-clause-obeys g c clean =
    c.in_ok-see_rules.ensures.obeys (was_clean (c.in_ok-check_rowids.ensures.same ⨾ left c.in_ok-crates.ensures ⨾ left c.in_ok-owners.ensures ⨾ left c.in_ok-versions.ensures) clean)

pub returns-clause-crates : goal.returns-clause-crates
returns-clause-crates g c clean =
    told_before (λ db. AreCratesById db c.in_ok-crates.crates.items) (c.in_ok-see_rules.ensures.same ⨾ c.in_ok-check_rowids.ensures.same) (left c.in_ok-crates.ensures)
    (was_clean (left c.in_ok-owners.ensures ⨾ left c.in_ok-versions.ensures) clean) c.in_ok-crates.ensures.told

pub returns-clause-owners : goal.returns-clause-owners
returns-clause-owners g c clean =
    told_before (λ db. AreOwnerships db c.in_ok-owners.owners.items) (c.in_ok-see_rules.ensures.same ⨾ c.in_ok-check_rowids.ensures.same ⨾ left c.in_ok-crates.ensures) (left c.in_ok-owners.ensures)
    (was_clean (left c.in_ok-versions.ensures) clean) c.in_ok-owners.ensures.told

pub returns-clause-versions : goal.returns-clause-versions
returns-clause-versions g c clean =
    told_before (λ db. AreVersions db c.in_ok-versions.versions.items)
    (c.in_ok-see_rules.ensures.same ⨾ c.in_ok-check_rowids.ensures.same ⨾ left c.in_ok-crates.ensures ⨾ left c.in_ok-owners.ensures) (left c.in_ok-versions.ensures) clean c.in_ok-versions.ensures.told

pub returns-clause-apart : goal.returns-clause-apart
returns-clause-apart g c clean =
    let rules = c.in_ok-see_rules.ensures.same in
    let rowids = c.in_ok-check_rowids.ensures in
    let of_crates = rows_in g.S.Store c.check_rowids.new.conn in
    let of_versions = rows_in g.S.Store c.all.new.conn in
    let crates_read = was_clean (left c.in_ok-owners.ensures ⨾ left c.in_ok-versions.ensures) clean in
    let rowids_read = was_clean (left c.in_ok-crates.ensures) crates_read in
    record {
      crates = told_before (λ db. HaveOwnRowids (db crates_tree)) (rules ⨾ rowids.same) (left c.in_ok-crates.ensures) crates_read
          (λ clean. c.in_ok-check_crates.ensures of_crates (subst (AreCratesById of_crates) (sym c.deref.ensures.value) (c.in_ok-crates.ensures.told clean)));
      versions = told_before (λ db. HaveOwnRowids (db versions_tree)) (rules ⨾ rowids.same ⨾ left c.in_ok-crates.ensures ⨾ left c.in_ok-owners.ensures) (left c.in_ok-versions.ensures) clean
          (λ clean. c.in_ok-check_versions.ensures of_versions (subst (AreVersions of_versions) (sym c.deref-2.ensures.value) (c.in_ok-versions.ensures.told clean)));
      owners = told_before (λ db. HaveOwnRowids (db owners_tree)) rules rowids.same rowids_read rowids.owners;
      readers = told_before (λ db. HaveOwnRowids (db readers_tree)) rules rowids.same rowids_read rowids.readers;
      reserved = told_before (λ db. HaveOwnRowids (db reserved_tree)) rules rowids.same rowids_read rowids.reserved;
    }

pub returns-clause-same : goal.returns-clause-same
returns-clause-same g c =
    so_far (c.in_ok-see_rules.ensures.same ⨾ c.in_ok-check_rowids.ensures.same ⨾ left c.in_ok-crates.ensures ⨾ left c.in_ok-owners.ensures ⨾ left c.in_ok-versions.ensures)

pub returns-in_err-check_rowids-clause-same : goal.returns-in_err-check_rowids-clause-same
returns-in_err-check_rowids-clause-same g c = fails _ c.from_residual-in_err-check_rowids.ensures.0 (c.in_ok-see_rules.ensures.same ⨾ c.in_err-check_rowids.ensures.same)

pub returns-in_err-crates-clause-same : goal.returns-in_err-crates-clause-same
returns-in_err-crates-clause-same g c =
    fails _ c.from_residual-in_err-crates.ensures.0 (c.in_ok-see_rules.ensures.same ⨾ c.in_ok-check_rowids.ensures.same ⨾ left c.in_err-crates.ensures)

pub returns-in_err-check_crates-clause-same : goal.returns-in_err-check_crates-clause-same
returns-in_err-check_crates-clause-same g c = so_far (c.in_ok-see_rules.ensures.same ⨾ c.in_ok-check_rowids.ensures.same ⨾ left c.in_ok-crates.ensures)

pub returns-in_err-owners-clause-same : goal.returns-in_err-owners-clause-same
returns-in_err-owners-clause-same g c =
    fails _ c.from_residual-in_err-owners.ensures.0 (c.in_ok-see_rules.ensures.same ⨾ c.in_ok-check_rowids.ensures.same ⨾ left c.in_ok-crates.ensures ⨾ left c.in_err-owners.ensures)

pub returns-in_err-versions-clause-same : goal.returns-in_err-versions-clause-same
returns-in_err-versions-clause-same g c =
    fails _ c.from_residual-in_err-versions.ensures.0
    (c.in_ok-see_rules.ensures.same ⨾ c.in_ok-check_rowids.ensures.same ⨾ left c.in_ok-crates.ensures ⨾ left c.in_ok-owners.ensures ⨾ left c.in_err-versions.ensures)

pub returns-in_err-check_versions-clause-same : goal.returns-in_err-check_versions-clause-same
returns-in_err-check_versions-clause-same g c =
    so_far (c.in_ok-see_rules.ensures.same ⨾ c.in_ok-check_rowids.ensures.same ⨾ left c.in_ok-crates.ensures ⨾ left c.in_ok-owners.ensures ⨾ left c.in_ok-versions.ensures)

pub check_rowids-requires : goal.check_rowids-requires
check_rowids-requires g c = still_ready c.in_ok-see_rules.ensures.same c.requires

pub all_by_id-requires : goal.all_by_id-requires
all_by_id-requires g c = still_ready (c.in_ok-see_rules.ensures.same ⨾ c.in_ok-check_rowids.ensures.same) c.requires

pub all-requires : goal.all-requires
all-requires g c = still_ready (c.in_ok-see_rules.ensures.same ⨾ c.in_ok-check_rowids.ensures.same ⨾ left c.in_ok-crates.ensures) c.requires

pub all-requires-2 : goal.all-requires-2
all-requires-2 g c = still_ready (c.in_ok-see_rules.ensures.same ⨾ c.in_ok-check_rowids.ensures.same ⨾ left c.in_ok-crates.ensures ⨾ left c.in_ok-owners.ensures) c.requires
