use Rattle.std.proofs.Common.{refl}
use Rattle.reg_tables_rows.proofs.OwnRowids.{rises_nowhere}
use Rattle.reg_tables_rows.proofs.apart.rise.Goals as goal

pub returns-in-empty : goal.returns-in-empty
returns-in-empty c = (λ yes. rises_nowhere c.args.ids.now c.in-empty.len_below, λ up. refl)
