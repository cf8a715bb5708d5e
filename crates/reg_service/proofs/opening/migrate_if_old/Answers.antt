use Rattle.reg_service.proofs.Words.{Ok, ap, arith, refl, sym, ◌∙◌, edition_in, shown}
use Rattle.reg_service.proofs.Opened.{still_brought, upgrade_brought, upgrade_left, upgrade_undone}
use Rattle.reg_service.proofs.opening.migrate_if_old.Goals as goal

pub returns-in-Second : goal.returns-in-Second
returns-in-Second g c =
    let second = sym c.edition.ensures ∙ c.in-Second.is in
    record {
      begun = record { limited = refl; goes_on = refl };
      brought = λ clean. still_brought (edition_in c.args.tables) (shown g.S.Store c.args.tables) (shown g.S.Store c.args.tables) second refl;
      clean = λ clean. clean;
      refused = tt;
      undone = λ auto. tt;
      handed_back = tt;
    }

pub returns-in-Ok : goal.returns-in-Ok
returns-in-Ok g c =
    let first = sym c.edition.ensures ∙ c.in-First.is in
    let done = c.in-Ok.is ∙ ap Ok (c.in-Ok.ensures.which.1 first) in
    record {
      begun = record { limited = refl; goes_on = c.in-Ok.ensures.open };
      brought = λ clean. upgrade_brought (edition_in c.args.tables) (shown g.S.Store c.args.tables) (shown g.S.Store c.migrate.new.self) first (c.migrate.ensures.upgraded clean done) (c.migrate.ensures.alone clean done);
      clean = λ clean. omega (arith, clean, c.migrate.ensures.survives.clean);
      refused = tt;
      undone = λ auto. tt;
      handed_back = tt;
    }

pub returns-in-Err : goal.returns-in-Err
returns-in-Err g c = record {
  begun = tt;
  brought = tt;
  clean = tt;
  refused = refl;
  undone = λ auto clean. upgrade_undone g.S.Store c.args.tables c.migrate.new.self c.into_connection.result c.requires.ours c.into_connection.ensures c.in-Err.ensures.refused auto clean;
  handed_back = upgrade_left g.S.Store c.args.tables c.migrate.new.self c.into_connection.result (sym c.edition.ensures ∙ c.in-First.is) c.into_connection.ensures c.migrate.ensures.survives;
}
