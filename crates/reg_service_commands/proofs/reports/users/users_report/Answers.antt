use Rattle.reg_service_commands.proofs.Words.{Ok, string_bytes, ListsAccounts, StoreFault, Queries, asks_made}
use Rattle.reg_service_commands.proofs.ReportTexts.{users_told}
use Rattle.reg_service_commands.proofs.reports.users.users_report.Goals as goal

pub returns-in-Ok : goal.returns-in-Ok
returns-in-Ok g c =
    let all = c.in_ok-accounts.accounts in
    let told = c.in_ok-accounts.ensures in
    let asked : Queries {E = StoreFault} g.S.Store c.args.work.now c.all_accounts.new.self (Ok all) (λ db list. ListsAccounts db list.items) = told in
    asks_made g.S.Store all c.in-Ok.text c.args.work.now c.all_accounts.new.self
    (λ lists ids s holds. users_told s all.items (string_bytes c.in-Ok.text) (rw c.deref.ensures.value at c.in-Ok.ensures) (lists ids s holds)) asked
