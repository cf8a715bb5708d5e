use Rattle.reg_service.proofs.Words.{Some, arith, refl, rules, subst, sym, ◌∙◌, state, HasCleanDisk, if_ok, edition_in, held, shown}
use Rattle.reg_service.proofs.Words.{AreChecked, IsFirstFailing, BadBase, Damaged, Storage, UnknownSchema}
use Rattle.reg_service.proofs.Faults.{apart}
use Rattle.reg_service.proofs.Opened.{examined_brought, examined_left, examined_undone, if_refused, returned_left, returned_undone}
use Rattle.reg_service.proofs.opening.check_then_migrate.Goals as goal

pub returns-in-Err : goal.returns-in-Err
returns-in-Err g c =
    let before = shown g.S.Store c.args.tables in
    let looked = held c.audit.new.tables in
    record {
      begun = tt;
      brought = tt;
      clean = tt;
      passed = tt;
      known = (apart Storage UnknownSchema refl, apart Storage BadBase refl);
      found = λ clean check is. absurd (apart Storage (Damaged check) refl is);
      undone = returned_undone g.S.Store before looked c.into_connection.result c.into_connection.ensures c.audit.ensures.rests;
      handed_back = returned_left g.S.Store before looked c.into_connection.result _ c.into_connection.ensures c.audit.ensures.survives;
    }

pub returns-in-Ok-Some : goal.returns-in-Ok-Some
returns-in-Ok-Some g c =
    let before = shown g.S.Store c.args.tables in
    let looked = held c.audit.new.tables in
    record {
      begun = tt;
      brought = tt;
      clean = tt;
      passed = tt;
      known = (apart (Damaged c.in-Ok-Some.check) UnknownSchema refl, apart (Damaged c.in-Ok-Some.check) BadBase refl);
      found = λ clean check is.
          let still = subst (λ it. HasCleanDisk (state g.S.Store it)) c.into_connection-in-Ok-Some.ensures clean in
          (c.in-Ok-Some.ensures.was_open still, subst (λ it. IsFirstFailing (edition_in c.args.tables) before.now (Some it)) (cc is) (rw c.in-Ok-Some.field-0-is at c.in-Ok-Some.ensures.found still));
      undone = returned_undone g.S.Store before looked c.into_connection-in-Ok-Some.result c.into_connection-in-Ok-Some.ensures c.audit.ensures.rests;
      handed_back = returned_left g.S.Store before looked c.into_connection-in-Ok-Some.result _ c.into_connection-in-Ok-Some.ensures c.audit.ensures.survives;
    }

pub returns-in-Ok-None-clause-passed : goal.returns-in-Ok-None-clause-passed
returns-in-Ok-None-clause-passed g c =
    if_ok c.migrate_if_old.result (λ r early clean. subst (λ it. AreChecked (edition_in c.args.tables) (shown g.S.Store c.args.tables) it) c.in-Ok-None.field-0-is (c.in-Ok-None.ensures.was_open (early clean), c.in-Ok-None.ensures.found (early clean))) c.migrate_if_old.ensures.clean

pub returns-in-Ok-None-clause-brought : goal.returns-in-Ok-None-clause-brought
returns-in-Ok-None-clause-brought g c =
    examined_brought g.S.Store c.args.tables c.audit.new.tables c.migrate_if_old.result c.requires.ours c.audit.ensures.ours c.audit.ensures.edition c.audit.ensures.kept c.audit.ensures.survives c.migrate_if_old.ensures.clean c.migrate_if_old.ensures.brought

pub returns-in-Ok-None-clause-undone : goal.returns-in-Ok-None-clause-undone
returns-in-Ok-None-clause-undone g c =
    examined_undone g.S.Store c.args.tables c.audit.new.tables c.migrate_if_old.result c.audit.ensures.rests c.migrate_if_old.ensures.handed_back c.migrate_if_old.ensures.undone

pub returns-in-Ok-None-clause-handed_back : goal.returns-in-Ok-None-clause-handed_back
returns-in-Ok-None-clause-handed_back g c =
    examined_left g.S.Store c.args.tables c.audit.new.tables c.migrate_if_old.result c.requires.ours c.audit.ensures.ours c.audit.ensures.edition c.audit.ensures.kept c.audit.ensures.survives c.migrate_if_old.ensures.refused c.migrate_if_old.ensures.handed_back

pub returns-in-Ok-None-clause-begun : goal.returns-in-Ok-None-clause-begun
returns-in-Ok-None-clause-begun g c =
    if_ok c.migrate_if_old.result (λ r b. record { limited = b.limited; goes_on = b.goes_on ∙ c.audit.ensures.open }) c.migrate_if_old.ensures.begun

pub returns-in-Ok-None-clause-found : goal.returns-in-Ok-None-clause-found
returns-in-Ok-None-clause-found g c = search rules

pub returns-in-Ok-None-clause-known : goal.returns-in-Ok-None-clause-known
returns-in-Ok-None-clause-known g c =
    if_refused c.migrate_if_old.result (λ e is. (λ unknown. apart Storage UnknownSchema refl (sym is ∙ unknown), λ bad. apart Storage BadBase refl (sym is ∙ bad))) c.migrate_if_old.ensures.refused

pub returns-in-Ok-None-clause-clean : goal.returns-in-Ok-None-clause-clean
returns-in-Ok-None-clause-clean g c =
    if_ok c.migrate_if_old.result (λ r early clean. let still = early clean in omega (arith, still, c.audit.ensures.survives.clean)) c.migrate_if_old.ensures.clean
