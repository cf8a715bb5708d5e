use Rattle.reg_tables_schema.specs.Statements.{rows_in}
use Rattle.reg_tables_represent.proofs.Results.{if_there}
use Rattle.reg_tables_represent.proofs.SummaryRows.{kept_found}
use Rattle.reg_tables_represent.proofs.summaries.find_kept.Goals as goal

pub returns-clause-told : goal.returns-clause-told
returns-clause-told g c clean = if_there c.in_ok-found.found _ c.ok_or.result c.ok_or.ensures.value (λ m is. kept_found c.args.crate_id (rows_in g.S.Store c.args.conn.now) c.in_ok-found.found m is (c.in_ok-found.ensures.told clean))
