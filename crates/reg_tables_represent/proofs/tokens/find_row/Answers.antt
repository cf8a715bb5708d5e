use Rattle.sqlite.specs.Held.{state}
use Rattle.reg_tables_represent.proofs.FoundTokens.{finds_row}
use Rattle.reg_tables_represent.proofs.Results.{if_ok}
use Rattle.reg_tables_represent.proofs.tokens.find_row.Goals as goal

pub returns-clause-found : goal.returns-clause-found
returns-clause-found g c clean =
    if_ok c.by_digest.result (λ found e ids s h. finds_row ids s (state g.S.Store c.args.conn.now).now.trees h.stands c.args.digest.now h.sound found e) (c.by_digest.ensures.told clean)
