use Rattle.reg_tables_represent.proofs.VersionEntries.{lists_stems}
use Rattle.reg_tables_represent.proofs.laws.entries_law.Goals as goal

pub returns : goal.returns
returns c ids s db h id rows are = lists_stems ids s.publications s.yanked db h.stands.crates id rows are
