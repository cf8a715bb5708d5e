use Rattle.sqlite.specs.Held.{state}
use Rattle.reg_tables_represent.proofs.Relations.{lists_related}
use Rattle.reg_tables_represent.proofs.Results.{if_ok}
use Rattle.reg_tables_represent.proofs.pairs.list.Goals as goal

pub returns-clause-found : goal.returns-clause-found
returns-clause-found g c clean =
    if_ok c.of_crate.result (λ list e ids s h. lists_related c.args.relation ids s (state g.S.Store c.args.conn.now).now.trees h.stands c.args.crate_id list.items e) (c.of_crate.ensures.told clean)
