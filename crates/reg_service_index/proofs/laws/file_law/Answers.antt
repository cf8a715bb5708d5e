use Rattle.reg_service_index.proofs.Words.{◌∙◌, [], ap, lines_in}
use Rattle.reg_tables_represent.specs.Changes.{told_of}
use Rattle.reg_tables_represent.specs.Entries.{entries}
use Rattle.reg_tables_represent.specs.Stands.{spelling_at}
use Rattle.reg_service_index.proofs.Rows.{lines_told}
use Rattle.reg_service_index.proofs.laws.file_law.Goals as goal

pub returns : goal.returns
returns c ids s db holds f rows are =
    ap lines_in (c.entries_law.ensures ids s db holds f.crate_id rows are) ∙ lines_told (told_of (spelling_at ids f.crate_id) [] (entries s))
