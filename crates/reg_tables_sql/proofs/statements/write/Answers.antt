use Rattle.reg_tables_sql.proofs.Words.{state, bound, err_of}
use Rattle.reg_tables_schema.proofs.Writing.{write_done, write_fails}
use Rattle.reg_tables_sql.proofs.statements.write.Goals as goal

pub returns-in_err-execute : goal.returns-in_err-execute
returns-in_err-execute g c =
    let is = err_of c.from_residual.result c.from_residual.ensures.0 in
    write_fails c.args.text.now (bound c.args.params.now) (state g.S.Store c.args.conn.now) (state g.S.Store c.execute.new.self) c.execute.result c.requires.writes c.requires.ready c.execute.ensures.runs
    c.execute.ensures.survives c.from_residual.result _ is.0 _ c.in_err-execute.was is.1

pub returns : goal.returns
returns g c =
    write_done c.args.text.now (bound c.args.params.now) (state g.S.Store c.args.conn.now) (state g.S.Store c.execute.new.self) c.execute.result c.requires.writes c.requires.ready c.execute.ensures.runs
    c.execute.ensures.survives _ c.in_ok-execute.was
