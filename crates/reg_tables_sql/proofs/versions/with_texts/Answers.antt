use Rattle.std.proofs.Common.{refl}
use Rattle.reg_tables_sql.proofs.VersionRows.{reads_text}
use Rattle.reg_tables_sql.proofs.versions.with_texts.Goals as goal

pub returns : goal.returns
returns c =
    rw (c.in_ok-get.ensures.ok.1, c.in_ok-get-2.ensures.ok.1, c.in_ok-get-3.ensures.ok.1, c.in_ok-get-4.ensures.ok.1, reads_text _ _ c.in_ok-get-5.ensures.ok.1) refl
