use Rattle.reg_tables_represent.proofs.Common.{arith, HasCleanDisk, option_map, Publication, state}
use Rattle.reg_tables_represent.proofs.CratesStand.{adds_first}
use Rattle.reg_tables_represent.proofs.Writings.{◌⨾◌, ends, fails, steps}
use Rattle.reg_tables_represent.proofs.crates.add_new.Goals as goal

pub returns-in_err-first-clause-leaves : goal.returns-in_err-first-clause-leaves
returns-in_err-first-clause-leaves g c =
    fails _ c.from_residual-in_err-first.ensures.0 (steps c.in_ok-id.ensures.leaves ⨾ steps c.in_err-first.ensures.leaves) c.requires

pub returns-in_err-insert-clause-leaves : goal.returns-in_err-insert-clause-leaves
returns-in_err-insert-clause-leaves g c =
    fails _ c.from_residual-in_err-insert.ensures.0
    (steps c.in_ok-id.ensures.leaves ⨾ steps c.in_ok-first.ensures.leaves ⨾ steps c.in_err-insert.ensures.leaves) c.requires

pub returns-clause-stands : goal.returns-clause-stands
returns-clause-stands g c clean ids s h fresh =
    let old = state g.S.Store c.args.conn.now in
    let mid = state g.S.Store c.insert_crate.new.conn in
    let added = state g.S.Store c.insert_version.new.conn in
    let new = state g.S.Store c.insert.new.conn in
    let clean_added : HasCleanDisk added = omega (arith, c.insert.ensures.leaves.survives.clean) in
    let clean_mid : HasCleanDisk mid = omega (arith, c.insert_version.ensures.leaves.survives.clean) in
    let version = c.args.version.now in
    let p : Publication = record { name = c.args.name.now; version = version.text.now; description = option_map (λ d. d.now) version.description; stem = version.stem.now; digest = version.digest.now; archive = version.archive.now } in
    adds_first ids s c.in_ok-id.id c.args.owner c.in_ok-first.first p old.now.trees mid.now.trees added.now.trees new.now.trees h fresh (c.in_ok-id.ensures.added clean_mid) (c.in_ok-first.ensures.added clean_added c.args.name.now) (c.in_ok-insert.ensures.added clean)

pub returns-clause-leaves : goal.returns-clause-leaves
returns-clause-leaves g c =
    ends (steps c.in_ok-id.ensures.leaves ⨾ steps c.in_ok-first.ensures.leaves ⨾ steps c.in_ok-insert.ensures.leaves) c.requires
