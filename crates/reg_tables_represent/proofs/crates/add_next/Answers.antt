use Rattle.reg_tables_represent.proofs.Common.{arith, HasCleanDisk, option_map, Publication, state}
use Rattle.reg_tables_represent.proofs.CratesStand.{adds_next}
use Rattle.reg_tables_represent.proofs.Writings.{◌⨾◌, ends, fails, steps}
use Rattle.reg_tables_represent.proofs.crates.add_next.Goals as goal

pub returns-in_err-push-clause-leaves : goal.returns-in_err-push-clause-leaves
returns-in_err-push-clause-leaves g c =
    fails _ c.from_residual-in_err-push.ensures.0 (steps c.in_ok-id.ensures.leaves ⨾ steps c.in_err-push.ensures.leaves) c.requires

pub returns-clause-stands : goal.returns-clause-stands
returns-clause-stands g c clean ids s name h at fresh =
    let old = state g.S.Store c.args.conn.now in
    let added = state g.S.Store c.insert_version.new.conn in
    let new = state g.S.Store c.push.new.conn in
    let clean_added : HasCleanDisk added = omega (arith, c.push.ensures.leaves.survives.clean) in
    let version = c.args.version.now in
    let p : Publication = record { name = name; version = version.text.now; description = option_map (λ d. d.now) version.description; stem = version.stem.now; digest = version.digest.now; archive = version.archive.now } in
    adds_next ids s c.args.crate_id c.in_ok-id.id p old.now.trees added.now.trees new.now.trees h at fresh (c.in_ok-id.ensures.added clean_added name) (c.in_ok-push.ensures.pushed clean)

pub returns-clause-leaves : goal.returns-clause-leaves
returns-clause-leaves g c = ends (steps c.in_ok-id.ensures.leaves ⨾ steps c.in_ok-push.ensures.leaves) c.requires
