use Rattle.reg_tables_schema.proofs.laws.stop_law.Goals as goal

pub returns : goal.returns
returns g c is_open db left = g.met.S.Store.settled c.args.conn.now.store db is_open left
