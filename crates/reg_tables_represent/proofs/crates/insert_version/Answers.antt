use Rattle.reg_tables_represent.proofs.Common.{◌≡◌, arith, HasCleanDisk, option_map, Publication, state}
use Rattle.reg_tables_represent.proofs.Additions.{version_added}
use Rattle.reg_tables_represent.proofs.Writings.{◌⨾◌, adds, ends, fails, reads}
use Rattle.reg_tables_represent.proofs.crates.insert_version.Goals as goal

pub returns-clause-added : goal.returns-clause-added
returns-clause-added g c clean name =
    let old = state g.S.Store c.args.conn.now in
    let read = state g.S.Store c.last_id.new.conn in
    let mid = state g.S.Store c.insert.new.conn in
    let new = state g.S.Store c.insert-2.new.conn in
    let clean_mid : HasCleanDisk mid = omega (arith, c.insert-2.ensures.survives.clean) in
    let clean_read : HasCleanDisk read = omega (arith, c.insert.ensures.survives.clean) in
    let same : read.now ≡ old.now = (c.in_ok-last.ensures.only clean_read).0.0.now_is in
    let p : Publication = record { name = name; version = c.args.version.now.text.now; description = option_map (λ d. d.now) c.args.version.now.description; stem = c.args.version.now.stem.now; digest = c.args.version.now.digest.now; archive = c.args.version.now.archive.now } in
    version_added old read mid new same c.in_ok-last.last c.in_ok-id.id c.args.crate_id p (c.in_ok-last.ensures.told clean_read) c.in_ok-id.ensures.0 _ c.release_key-release.ensures (c.in_ok-insert.ensures.changes clean_mid) (c.in_ok-insert-2.ensures.changes clean)

pub returns-in_err-last-clause-leaves : goal.returns-in_err-last-clause-leaves
returns-in_err-last-clause-leaves g c = fails _ c.from_residual.ensures.0 (reads c.in_err-last.ensures) c.requires

pub returns-in_err-id-clause-leaves : goal.returns-in_err-id-clause-leaves
returns-in_err-id-clause-leaves g c = ends (reads c.in_ok-last.ensures) c.requires

pub returns-in_err-insert-clause-leaves : goal.returns-in_err-insert-clause-leaves
returns-in_err-insert-clause-leaves g c =
    fails _ c.from_residual-in_err-insert.ensures.0 (reads c.in_ok-last.ensures ⨾ adds c.in_err-insert.ensures) c.requires

pub returns-in_err-insert-2-clause-leaves : goal.returns-in_err-insert-2-clause-leaves
returns-in_err-insert-2-clause-leaves g c =
    fails _ c.from_residual-in_err-insert-2.ensures.0
    (reads c.in_ok-last.ensures ⨾ adds c.in_ok-insert.ensures ⨾ adds c.in_err-insert-2.ensures) c.requires

pub returns-clause-leaves : goal.returns-clause-leaves
returns-clause-leaves g c = ends (reads c.in_ok-last.ensures ⨾ adds c.in_ok-insert.ensures ⨾ adds c.in_ok-insert-2.ensures) c.requires
