use Rattle.reg_service_requests.proofs.Words.{◌≡◌, Ok, refl, rules, Download, Index, ListOwners, runs_nothing}
use Rattle.reg_policy.specs.declared.event.Asked.TheVariants.{Read}
use Rattle.reg_policy.specs.declared.event.Reading.TheVariants.{Config, Search}
use Rattle.reg_service_requests.proofs.Deciding.{always_given, as_given, crate_given, malformed_told, seeks, told_given, untold_given, version_given}
use Rattle.reg_service_requests.proofs.serving.grant.Goals as goal

pub returns-in-Malformed : goal.returns-in-Malformed
returns-in-Malformed g c =
    told_given g.S.Store c.args.traced c.args.limits.now c.args.principal.now c.args.asked.now _ c.in-Malformed.is _ c.args.work.now c.args.work.now
    (runs_nothing g.S.Store _ c.args.work.now c.requires.goes_on c.requires.at_work
    (λ digest lets who. malformed_told c.args.traced c.args.limits.now digest c.in-Malformed.rule _ c.denied.result c.denied.ensures.served c.denied.ensures.line lets))

pub returns-in-Read-Search : goal.returns-in-Read-Search
returns-in-Read-Search g c =
    let same : c.args.asked.now ≡ Read (Search c.in-Read-Search.field-0-0 c.in-Read-Search.field-0-1) = search rules in
    untold_given g.S.Store c.args.traced c.args.limits.now c.args.principal.now c.args.asked.now _ same c.untold-in-Read-Search.result c.args.work.now c.args.work.now (Ok _) c.untold-in-Read-Search.ensures refl
    (as_given g.S.Store c.args.limits.now c.args.principal.now c.args.asked.now _ same _ c.args.work.now c.args.work.now
    (runs_nothing g.S.Store _ c.args.work.now c.requires.goes_on c.requires.at_work
    (λ digest lets who. seeks c.args.limits.now digest c.in-Read-Search.field-0-0.now c.in-Read-Search.field-0-1 c.args.principal.now.account _ (λ ids s h. (who ids s h).account) lets)))

pub returns-in-Read-Config : goal.returns-in-Read-Config
returns-in-Read-Config g c =
    let same : c.args.asked.now ≡ Read Config = search rules in
    untold_given g.S.Store c.args.traced c.args.limits.now c.args.principal.now c.args.asked.now _ same c.untold.result c.args.work.now c.read_config.new.work c.read_config.result c.untold.ensures refl
    (always_given g.S.Store c.args.limits.now c.args.principal.now c.args.asked.now _ same c.read_config.result c.args.work.now c.read_config.new.work c.read_config.ensures)

pub returns-in-Index : goal.returns-in-Index
returns-in-Index g c =
    untold_given g.S.Store c.args.traced c.args.limits.now c.args.principal.now c.args.asked.now _ c.in-Index.is c.untold-in-Index.result c.args.work.now c.find_file.new.work c.find_file.result c.untold-in-Index.ensures refl
    (crate_given g.S.Store c.args.limits.now c.args.principal.now c.args.asked.now _ c.in-Index.is c.find_file.result c.args.work.now c.find_file.new.work
    Index c.in-Index.field-0.now c.found_crate.result.now refl c.found_crate.ensures c.find_file.ensures)

pub returns-in-Download : goal.returns-in-Download
returns-in-Download g c =
    untold_given g.S.Store c.args.traced c.args.limits.now c.args.principal.now c.args.asked.now _ c.in-Download.is c.untold-in-Download.result c.args.work.now c.read_archive.new.work c.read_archive.result c.untold-in-Download.ensures refl
    (version_given g.S.Store c.args.limits.now c.args.principal.now c.args.asked.now _ c.in-Download.is c.read_archive.result c.args.work.now c.read_archive.new.work
    Download c.in-Download.field-0.now c.in-Download.field-1.now c.found_version.result refl c.found_version.ensures c.read_archive.ensures)

pub returns-in-ListOwners : goal.returns-in-ListOwners
returns-in-ListOwners g c =
    untold_given g.S.Store c.args.traced c.args.limits.now c.args.principal.now c.args.asked.now _ c.in-ListOwners.is c.untold-in-ListOwners.result c.args.work.now c.list_owners.new.work c.list_owners.result c.untold-in-ListOwners.ensures refl
    (crate_given g.S.Store c.args.limits.now c.args.principal.now c.args.asked.now _ c.in-ListOwners.is c.list_owners.result c.args.work.now c.list_owners.new.work
    ListOwners c.in-ListOwners.field-0.now c.found_crate-in-ListOwners.result.now refl c.found_crate-in-ListOwners.ensures c.list_owners.ensures)

pub returns-in-Publish : goal.returns-in-Publish
returns-in-Publish g c =
    told_given g.S.Store c.args.traced c.args.limits.now c.args.principal.now c.args.asked.now _ c.in-Publish.is c.publish.result c.args.work.now c.publish.new.work c.publish.ensures

pub returns-in-Yank : goal.returns-in-Yank
returns-in-Yank g c =
    told_given g.S.Store c.args.traced c.args.limits.now c.args.principal.now c.args.asked.now _ c.in-Yank.is c.set_yanked.result c.args.work.now c.set_yanked.new.work (c.set_yanked.ensures c.args.limits.now c.in-Yank.field-0.now)

pub returns-in-Unyank : goal.returns-in-Unyank
returns-in-Unyank g c =
    told_given g.S.Store c.args.traced c.args.limits.now c.args.principal.now c.args.asked.now _ c.in-Unyank.is c.set_yanked-in-Unyank.result c.args.work.now c.set_yanked-in-Unyank.new.work (c.set_yanked-in-Unyank.ensures c.args.limits.now c.in-Unyank.field-0.now)

pub returns-in-AddOwners : goal.returns-in-AddOwners
returns-in-AddOwners g c =
    told_given g.S.Store c.args.traced c.args.limits.now c.args.principal.now c.args.asked.now _ c.in-AddOwners.is c.own.result c.args.work.now c.own.new.work (rw c.deref.ensures.value at c.own.ensures c.args.limits.now c.in-AddOwners.field-0.now)

pub returns-in-RemoveOwners : goal.returns-in-RemoveOwners
returns-in-RemoveOwners g c =
    told_given g.S.Store c.args.traced c.args.limits.now c.args.principal.now c.args.asked.now _ c.in-RemoveOwners.is c.own-in-RemoveOwners.result c.args.work.now c.own-in-RemoveOwners.new.work (rw c.deref-in-RemoveOwners.ensures.value at c.own-in-RemoveOwners.ensures c.args.limits.now c.in-RemoveOwners.field-0.now)
