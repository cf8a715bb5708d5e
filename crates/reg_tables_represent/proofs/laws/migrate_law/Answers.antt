use Rattle.reg_tables_represent.proofs.Migrated.{migrated}
use Rattle.reg_tables_represent.proofs.laws.migrate_law.Goals as goal

pub returns : goal.returns
returns c ids s old new stands upgrade = migrated ids s old new stands upgrade
