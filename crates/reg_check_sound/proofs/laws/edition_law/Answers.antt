use Rattle.reg_check_sound.proofs.Editions.{either_edition, either_found}
use Rattle.reg_check_sound.proofs.laws.edition_law.Goals as goal

pub returns-clause-same : goal.returns-clause-same
returns-clause-same c = either_edition c.migrate_law.ensures

pub returns-clause-audit : goal.returns-clause-audit
returns-clause-audit c = either_found c.opening_law.ensures.audit (either_edition c.migrate_law.ensures)
