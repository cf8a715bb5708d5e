use Rattle.reg_tables_schema.specs.declared.edition.SchemaVersion.TheVariants.{Second}
use Rattle.reg_tables_sql.proofs.about.second_base.Goals as goal

pub returns-in_err-edition : goal.returns-in_err-edition
returns-in_err-edition c = rw (c.in_err-edition.was, c.from_residual.ensures) (λ rows none base. none Second base)
