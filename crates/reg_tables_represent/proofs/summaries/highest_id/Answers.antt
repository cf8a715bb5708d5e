use Rattle.reg_tables_represent.proofs.Words.{List, ◌∙◌, subst, IsTop, Marked}
use Rattle.reg_tables_represent.proofs.SummaryTops.{top_id}
use Rattle.reg_tables_represent.proofs.summaries.highest_id.Goals as goal

pub returns-in-Some : goal.returns-in-Some
returns-in-Some c =
    c.id_at.ensures
    ∙ top_id c.args.marks.now c.in_ok-releases.releases.items c.in_ok-releases.ensures c.in-Some.place (subst (λ (l : List Marked). IsTop l c.in-Some.place) c.deref.ensures.value c.in-Some.ensures.top)
