use Rattle.std.proofs.Common.{◌∙◌, refl, sym}
use Rattle.reg_tables_schema.proofs.Writing.{err_of}
use Rattle.reg_tables.proofs.Stopping.{ends_as, migrated, not_migrated, migration_last, migration_stops, not_false, not_ok}
use Rattle.reg_tables.proofs.tables.Tables.migrate.Goals as goal

pub returns-in_err-commit : goal.returns-in_err-commit
returns-in_err-commit g c =
    let begun = c.in_ok-work.ensures.begun in
    let same = c.self-2-1.given.1 (sym c.in_ok-work.ensures.same_reference) in
    let ended = ends_as g.S.Store c.args.self.now _ _ c.in-First.is begun _ _ same c.in_err-commit.ensures in
    let is = err_of c.from_residual-in_err-commit.result c.from_residual-in_err-commit.ensures.0 in
    rw is.1 (record {
      which = tt;
      same = λ e. absurd (not_ok e);
      upgraded = λ clean e. absurd (not_ok e);
      alone = λ clean e. absurd (not_ok e);
      leaves = λ e. absurd (not_ok e);
      «open» = tt;
      refused = not_migrated g.S.Store c.args.self.now _ _ c.in-First.is begun _ ended;
      ours = ended.ours;
      second = tt;
      edition = ended.refused.edition ∙ begun.edition;
      stopped = λ e. refl;
      survives = migration_stops g.S.Store c.args.self.now _ _ c.in-First.is begun _ ended;
      last = migration_last g.S.Store c.args.self.now _ _ c.in-First.is begun _ ended;
    })

pub returns : goal.returns
returns g c =
    let begun = c.in_ok-work.ensures.begun in
    let same = c.self-2-1.given.1 (sym c.in_ok-work.ensures.same_reference) in
    let ended = ends_as g.S.Store c.args.self.now _ _ c.in-First.is begun _ _ same c.in_ok-commit.ensures in record {
      which = (λ e. c.in-First.is, λ e. refl);
      same = λ e. absurd (not_false e);
      upgraded = λ clean e. migrated g.S.Store c.args.self.now _ _ c.in-First.is begun _ ended clean;
      alone = λ clean e. ended.committed.alone clean;
      leaves = λ e. ended.committed.leaves;
      «open» = ended.committed.same_mode ∙ begun.still_open ∙ sym begun.was_open;
      refused = λ clean. tt;
      ours = ended.ours;
      second = ended.committed.second;
      edition = tt;
      stopped = λ e. sym begun.was_open ∙ e;
      survives = migration_stops g.S.Store c.args.self.now _ _ c.in-First.is begun _ ended;
      last = λ clean. tt;
    }

pub upgrade-requires : goal.upgrade-requires
upgrade-requires g c = c.requires

pub commit-requires : goal.commit-requires
commit-requires g c = c.in_ok-work.ensures.begun.at_work
