use Rattle.sqlite.specs.Held.{state}
use Rattle.reg_tables_represent.proofs.AccountEntries.{account_found}
use Rattle.reg_tables_represent.proofs.Results.{if_ok}
use Rattle.reg_tables_represent.proofs.accounts.find.Goals as goal

pub returns-clause-found : goal.returns-clause-found
returns-clause-found g c clean =
    if_ok c.by_login.result (λ found e ids s h. account_found s.accounts (state g.S.Store c.args.conn.now).now.trees h.stands.accounts c.args.login.now found e) (c.by_login.ensures.told clean)
