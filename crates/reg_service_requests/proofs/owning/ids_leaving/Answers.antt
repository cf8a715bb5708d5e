use Rattle.std.proofs.Common.{sym, ◌∙◌}
use Rattle.reg_service_requests.proofs.OwningIds.{all_leave, some_leave}
use Rattle.reg_service_requests.proofs.owning.ids_leaving.Goals as goal

pub returns-then-are_named : goal.returns-then-are_named
returns-then-are_named c =
    let all = rw c.in-Some.is at c.in_ok-ids.ensures in
    all_leave c.args.owners.now c.args.logins.now all.0 (sym c.are_all_named-are_named.ensures ∙ c.if-are_named.true)

pub returns : goal.returns
returns c = some_leave c.args.owners.now c.args.logins.now c.in-Some.ids (rw c.in-Some.is at c.in_ok-ids.ensures) (sym c.are_all_named-are_named.ensures ∙ c.if-are_named.false)
