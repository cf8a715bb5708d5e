use Rattle.reg_tables_represent.proofs.Common.{[], arith, HasCleanDisk, refl, state, Token, true}
use Rattle.reg_tables_represent.proofs.Writings.{◌⨾◌, ends, fails, steps}
use Rattle.reg_tables_represent.proofs.tokens.add.Goals as goal

pub returns-in_err-add_scopes-clause-leaves : goal.returns-in_err-add_scopes-clause-leaves
returns-in_err-add_scopes-clause-leaves g c =
    fails _ c.from_residual-in_err-add_scopes.ensures.0
    (steps c.in_ok-id.ensures.leaves ⨾ steps c.in_err-add_scopes.ensures.leaves) c.requires

pub returns-clause-stands : goal.returns-clause-stands
returns-clause-stands g c clean ids s h =
    let old = state g.S.Store c.add_row.new.conn in
    let early : HasCleanDisk old = omega (arith, clean, c.add_scopes.ensures.leaves.survives.clean) in
    let added = c.in_ok-id.ensures.stands early ids s h in
    let t : Token = record { digest = c.args.digest.now; account = c.args.account; live = true; endpoints = c.args.endpoints.now; patterns = [] } in
    (added.0, c.in_ok-add_scopes.ensures.given clean ids s s.tokens t added.0 refl added.1)

pub returns-clause-leaves : goal.returns-clause-leaves
returns-clause-leaves g c = ends (steps c.in_ok-id.ensures.leaves ⨾ steps c.in_ok-add_scopes.ensures.leaves) c.requires
