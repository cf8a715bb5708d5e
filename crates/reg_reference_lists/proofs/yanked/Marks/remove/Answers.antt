use Rattle.reg_reference_lists.proofs.Words.{◌∙◌, ap, rules, filter_same, Mark, mark_cmp, mark_total, mark_apart, canon, mark_of}
use Rattle.std.specs.Prelude.{map}
use Rattle.std.specs.FinSet as set
use Rattle.reg_reference_lists.proofs.SetViews.{remove_view, mark_agrees}
use Rattle.reg_reference_lists.proofs.yanked.Marks.remove.Goals as goal

pub returns : goal.returns
returns c =
    let q : Mark = (canon c.args.name.now, c.args.version.now) in
    ap (λ l. set.from_list {R = mark_cmp} (map mark_of l)) (filter_same _ _ _ (λ x b f' k. search rules) _ _ c.retain.ensures.filtered)
    ∙ remove_view mark_total mark_apart mark_of q _ (λ m. mark_agrees q (mark_of m)) c.self.inside.list.items
    ∙ ap (λ s. set.remove s q) c.self.view_is
