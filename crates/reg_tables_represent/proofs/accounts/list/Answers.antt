use Rattle.sqlite.specs.Held.{state}
use Rattle.reg_tables_represent.proofs.AccountEntries.{lists_accounts}
use Rattle.reg_tables_represent.proofs.Results.{if_ok}
use Rattle.reg_tables_represent.proofs.accounts.list.Goals as goal

pub returns-clause-found : goal.returns-clause-found
returns-clause-found g c clean =
    if_ok c.all.result (λ list e ids s h. lists_accounts s.accounts (state g.S.Store c.args.conn.now).now.trees h.stands.accounts list.items e) (c.all.ensures.told clean)
