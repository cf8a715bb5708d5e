use Rattle.reg_tables_schema.specs.Statements.{rows_in}
use Rattle.reg_tables_represent.proofs.Results.{if_ok}
use Rattle.reg_tables_represent.proofs.SummaryFound.{finds_summary}
use Rattle.reg_tables_represent.proofs.summaries.of_crate.Goals as goal

pub returns-clause-found : goal.returns-clause-found
returns-clause-found g c clean = if_ok c.of_crate.result (λ o found ids s h. finds_summary ids s (rows_in g.S.Store c.args.conn.now) h.stands.crates h.stands.summaries c.args.crate_id o found) (c.of_crate.ensures.told clean)
