use Rattle.std.proofs.Common.{sym, subst}
use Rattle.sqlite.specs.Held.{state}
use Rattle.reg_tables_schema.specs.States.{IsOurs}
use Rattle.reg_tables.specs.Works.{edition_in}
use Rattle.test_tables.proofs.Texts.{logins_plain_on}
use Rattle.test_tables.proofs.script.read_logins.Goals as goal

pub rows_of-requires : goal.rows_of-requires
rows_of-requires g c =
    let e = edition_in c.args.tables.now in (e, subst (λ h. IsOurs e (state g.S.Store h)) (sym c.reading.ensures.value) c.requires, logins_plain_on e)
