use Rattle.reg_service.proofs.Words.{◌≡◌, Option, rules, subst, Database, Trees, Check, SchemaVersion, First, Second, if_ok, AreBegun, edition_in}
use Rattle.reg_service.proofs.Words.{shown, tables_of}
use Rattle.reg_audit.specs.Checks.{IsFirst}
use Rattle.reg_tables_rows.specs.declared.all_rows.AllRows.{AllRows}
use Rattle.reg_tables_rows.specs.WholeRows.{AreAllRows}
use Rattle.reg_service.proofs.registry.Registry.audit.Goals as goal

-- tables of schema 2 are checked as they are
as_they_are : (e : SchemaVersion) (d : Database) (found : Option Check) → e ≡ Second → (db : Trees) × AreBegun e d db × (it : AllRows) × AreAllRows it db × IsFirst it db found → (it : AllRows) × AreAllRows it d.trees × IsFirst it d.trees found
as_they_are First d found is h = absurd cc
as_they_are Second d found is (db, same, it, rows, first) = (it, subst (AreAllRows it) same rows, subst (λ t. IsFirst it t found) same first)

pub returns-clause-found : goal.returns-clause-found
returns-clause-found g c clean =
    let old = c.self.inside.tables in
    rw (← c.self.view_is) (if_ok c.audit.result (λ found. as_they_are (edition_in old) (shown g.S.Store old).now found c.self.invariant.second) (c.audit.ensures.found clean))

-- and so a sound registry is there exactly where none fails
pub returns-clause-sound : goal.returns-clause-sound
returns-clause-sound g c clean =
    let db = (shown g.S.Store (tables_of c.args.self.now)).now.trees in
    if_ok c.audit.result (λ found first. c.opening_law.ensures.audit first.0 db first.1 found first.2) (returns-clause-found g c clean)

pub returns-clause-looked : goal.returns-clause-looked
returns-clause-looked g c = rw (← c.self.view_is) (search rules)
