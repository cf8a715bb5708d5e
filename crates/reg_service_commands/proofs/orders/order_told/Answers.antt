use Rattle.std.proofs.Common.{refl}
use Rattle.reg_service_commands.proofs.Dispatch.{always_given, as_given, report_given}
use Rattle.reg_service_commands.proofs.orders.order_told.Goals as goal

pub returns-in-UserAdd : goal.returns-in-UserAdd
returns-in-UserAdd g c =
    as_given g.S.Store c.args.traced c.args.limits.now c.args.command.now _ c.in-UserAdd.is c.add_account.result c.args.work.now c.add_account.new.work c.add_account.ensures

pub returns-in-UserDisable : goal.returns-in-UserDisable
returns-in-UserDisable g c =
    always_given g.S.Store c.args.traced c.args.limits.now c.args.command.now _ c.in-UserDisable.is c.set_enabled.result c.args.work.now c.set_enabled.new.work c.set_enabled.ensures

pub returns-in-UserEnable : goal.returns-in-UserEnable
returns-in-UserEnable g c =
    always_given g.S.Store c.args.traced c.args.limits.now c.args.command.now _ c.in-UserEnable.is c.set_enabled-in-UserEnable.result c.args.work.now c.set_enabled-in-UserEnable.new.work c.set_enabled-in-UserEnable.ensures

pub returns-in-TokenAdd : goal.returns-in-TokenAdd
returns-in-TokenAdd g c =
    as_given g.S.Store c.args.traced c.args.limits.now c.args.command.now _ c.in-TokenAdd.is c.add_token.result c.args.work.now c.add_token.new.work c.add_token.ensures

pub returns-in-TokenRevoke : goal.returns-in-TokenRevoke
returns-in-TokenRevoke g c =
    always_given g.S.Store c.args.traced c.args.limits.now c.args.command.now _ c.in-TokenRevoke.is c.revoke.result c.args.work.now c.revoke.new.work c.revoke.ensures

pub returns-in-Reserve : goal.returns-in-Reserve
returns-in-Reserve g c =
    always_given g.S.Store c.args.traced c.args.limits.now c.args.command.now _ c.in-Reserve.is c.reserve.result c.args.work.now c.reserve.new.work c.reserve.ensures

pub returns-in-Unreserve : goal.returns-in-Unreserve
returns-in-Unreserve g c =
    always_given g.S.Store c.args.traced c.args.limits.now c.args.command.now _ c.in-Unreserve.is c.unreserve.result c.args.work.now c.unreserve.new.work c.unreserve.ensures

pub returns-in-OwnerAdd : goal.returns-in-OwnerAdd
returns-in-OwnerAdd g c =
    always_given g.S.Store c.args.traced c.args.limits.now c.args.command.now _ c.in-OwnerAdd.is c.add_owner.result c.args.work.now c.add_owner.new.work c.add_owner.ensures

pub returns-in-CrateRestrict : goal.returns-in-CrateRestrict
returns-in-CrateRestrict g c =
    always_given g.S.Store c.args.traced c.args.limits.now c.args.command.now _ c.in-CrateRestrict.is c.set_restricted.result c.args.work.now c.set_restricted.new.work c.set_restricted.ensures

pub returns-in-CrateOpen : goal.returns-in-CrateOpen
returns-in-CrateOpen g c =
    always_given g.S.Store c.args.traced c.args.limits.now c.args.command.now _ c.in-CrateOpen.is c.set_restricted-in-CrateOpen.result c.args.work.now c.set_restricted-in-CrateOpen.new.work c.set_restricted-in-CrateOpen.ensures

pub returns-in-ReaderAdd : goal.returns-in-ReaderAdd
returns-in-ReaderAdd g c =
    always_given g.S.Store c.args.traced c.args.limits.now c.args.command.now _ c.in-ReaderAdd.is c.add_reader.result c.args.work.now c.add_reader.new.work c.add_reader.ensures

pub returns-in-ReaderRemove : goal.returns-in-ReaderRemove
returns-in-ReaderRemove g c =
    always_given g.S.Store c.args.traced c.args.limits.now c.args.command.now _ c.in-ReaderRemove.is c.remove_reader.result c.args.work.now c.remove_reader.new.work c.remove_reader.ensures

pub returns-in-Access : goal.returns-in-Access
returns-in-Access g c =
    report_given g.S.Store c.args.traced c.args.limits.now c.args.command.now _ c.in-Access.is c.untold.result c.args.work.now c.report_access.new.work c.report_access.result c.untold.ensures refl c.report_access.ensures

pub returns-in-Users : goal.returns-in-Users
returns-in-Users g c =
    report_given g.S.Store c.args.traced c.args.limits.now c.args.command.now _ c.in-Users.is c.untold-in-Users.result c.args.work.now c.report_users.new.work c.report_users.result c.untold-in-Users.ensures refl c.report_users.ensures

pub returns-in-Tokens : goal.returns-in-Tokens
returns-in-Tokens g c =
    report_given g.S.Store c.args.traced c.args.limits.now c.args.command.now _ c.in-Tokens.is c.untold-in-Tokens.result c.args.work.now c.report_tokens.new.work c.report_tokens.result c.untold-in-Tokens.ensures refl c.report_tokens.ensures

pub returns-in-Crates : goal.returns-in-Crates
returns-in-Crates g c =
    report_given g.S.Store c.args.traced c.args.limits.now c.args.command.now _ c.in-Crates.is c.untold-in-Crates.result c.args.work.now c.report_crates.new.work c.report_crates.result c.untold-in-Crates.ensures refl c.report_crates.ensures
