use Rattle.reg_tables_rows.proofs.ArchiveIds.{ids_there}
use Rattle.reg_tables_rows.proofs.all_rows.see_ids.Goals as goal

pub returns : goal.returns
returns c tree db h = ids_there tree db c.args.first h
