use Rattle.reg_tables_sql.proofs.Words.{Ok, refl, string_bytes, option_map, state, Second, IsAboutOf}
use Rattle.reg_tables_schema.specs.Statements.{rows_in}
use Rattle.reg_tables_schema.proofs.Reading.{reads_made}
use Rattle.reg_tables_sql.specs.Abouts.{IsBaseOf}
use Rattle.reg_tables_sql.proofs.about.base.Goals as goal

pub read-requires : goal.read-requires
read-requires g c = (Second, c.requires)

pub returns : goal.returns
returns g c =
    let db = rows_in g.S.Store c.args.conn.now in
    reads_made (state g.S.Store c.args.conn.now) (state g.S.Store c.read.new.conn) (IsAboutOf db) (λ base. IsBaseOf db (option_map string_bytes base)) c.read.result (Ok c.second_base.result) c.in_ok-about.about c.second_base.result c.in_ok-about.was refl (c.second_base.ensures _) c.read.ensures
