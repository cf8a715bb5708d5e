use Rattle.reg_service_commands.proofs.Words.{List, ◌∙◌, subst, IsTop, Marked}
use Rattle.reg_service_commands.proofs.Tops.{top_text}
use Rattle.reg_service_commands.proofs.reports.versions.highest_of.Goals as goal

pub returns-in-Some : goal.returns-in-Some
returns-in-Some c =
    c.text_at.ensures
    ∙ top_text c.args.versions.now c.in_ok-releases.releases.items c.in_ok-releases.ensures c.in-Some.place (subst (λ (l : List Marked). IsTop l c.in-Some.place) c.deref.ensures.value c.in-Some.ensures.top)
