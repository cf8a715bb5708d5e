use Rattle.std.proofs.Common.{◌<◌, length, arith, rules}
use Rattle.std.proofs.lemmas.List.{take_all}
use Rattle.reg_service_requests.proofs.OwningRuns.{all_set, more_set, none_set, set_fails}
use Rattle.reg_service_requests.proofs.owning.set_owners.Goals as goal

pub loop-account-init : goal.loop-account-init
loop-account-init g c = none_set g.S.Store c.args.are_owners c.args.crate_id c.args.accounts.now c.args.work.now c.requires.goes_on c.requires.at_work

pub set_owner-requires : goal.set_owner-requires
set_owner-requires g c = c.loop-account.invariant.leaves.at_work

pub returns-in_err-set_owner : goal.returns-in_err-set_owner
returns-in_err-set_owner g c =
    set_fails g.S.Store c.args.are_owners c.args.crate_id c.args.accounts.now c.args.work.now c.loop-account.account-index c.loop-account.work c.set_owner.new.work c.loop-account.invariant
    c.in_err-set_owner.field-0.0 c.from_residual.result (search rules) c.in_err-set_owner.ensures.leaves

pub loop-account-preserved : goal.loop-account-preserved
loop-account-preserved g c =
    let below : c.loop-account.account-index < length c.args.accounts.now = omega arith in
    more_set g.S.Store c.args.are_owners c.args.crate_id c.args.accounts.now c.args.work.now c.loop-account.account-index c.loop-account.work c.set_owner.new.work c.loop-account.invariant
    c.in_ok-set_owner.field-0 below c.in_ok-set_owner.ensures.leaves c.in_ok-set_owner.ensures.told

pub returns : goal.returns
returns g c =
    all_set g.S.Store c.args.are_owners c.args.crate_id c.args.accounts.now c.args.work.now c.loop-account.account-index c.loop-account.work (take_all c.loop-account.account-index c.args.accounts.now c.loop-account-test.false) c.loop-account.invariant
