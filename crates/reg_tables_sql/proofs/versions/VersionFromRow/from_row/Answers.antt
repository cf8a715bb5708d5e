use Rattle.std.proofs.Common.{sym, ◌∙◌}
use Rattle.std.proofs.lemmas.Result.{IfOk-weaker}
use Rattle.reg_tables_sql.proofs.VersionRows.{eight}
use Rattle.reg_tables_sql.proofs.versions.VersionFromRow.from_row.Goals as goal

pub returns : goal.returns
returns c =
    IfOk-weaker c.with_texts.result _ _ (λ it reads.
    eight c.args.row.now c.in_ok-check_width.ensures
    ∙ rw (c.in_ok-get.ensures.ok.1, c.in_ok-get-2.ensures.ok.1, c.in_ok-mark_of.ensures) (sym reads)) c.with_texts.ensures
