use Rattle.reg_tables_represent.proofs.Common.{rules, state}
use Rattle.reg_tables_represent.proofs.Writings.{adds_columns, ends, fails, none}
use Rattle.reg_tables_represent.proofs.tokens.add_scope.Goals as goal

pub returns-in_err-range-clause-leaves : goal.returns-in_err-range-clause-leaves
returns-in_err-range-clause-leaves g c = ends (none (state g.S.Store c.args.conn.now)) c.requires

pub returns-in_err-insert-clause-leaves : goal.returns-in_err-insert-clause-leaves
returns-in_err-insert-clause-leaves g c = fails _ c.from_residual-in_err-insert.ensures.0 (adds_columns c.in_err-insert.ensures) c.requires

pub returns-clause-leaves : goal.returns-clause-leaves
returns-clause-leaves g c = ends (adds_columns c.in_ok-insert.ensures) c.requires

pub returns-clause-added : goal.returns-clause-added
returns-clause-added g c = search rules
