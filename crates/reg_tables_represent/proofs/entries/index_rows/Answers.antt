use Rattle.reg_tables_represent.proofs.Words.{refl, Second}
use Rattle.reg_tables_sql.proofs.StemQueries.{stems_are}
use Rattle.reg_tables_represent.proofs.entries.index_rows.Goals as goal

pub rows_of-requires : goal.rows_of-requires
rows_of-requires g c = (Second, c.requires, stems_are.plain)

pub returns : goal.returns
returns g c =
    let made = c.rows_of.ensures in
    let told = c.rows_of.follows in (
      (refl, told.holds, told.holds-at-none),
      record { refused = tt; same_reference = made.same_reference; begun = rw c.params-to_sql.ensures at made.begun; same = made.same; ours = made.ours; survives = made.survives },
    )
