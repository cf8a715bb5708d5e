use Rattle.reg_tables_represent.proofs.Common.{[], ◌∷◌, Int, pos, state}
use Rattle.sqlite.proofs.Callers.{given_begin}
use Rattle.reg_tables_sql.proofs.StemQueries.{stems_begun}
use Rattle.reg_tables_sql.specs.Stems.{entries_text}
use Rattle.reg_tables_represent.proofs.laws.walk_law.Goals as goal

pub returns : goal.returns
returns g c clean schema up id rows given =
    stems_begun (state g.S.Store c.args.conn.now) id schema rows up (given_begin g.S.Store entries_text (Int (pos id) ∷ []) c.args.conn.now rows given)
