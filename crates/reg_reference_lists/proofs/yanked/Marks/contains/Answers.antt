use Rattle.reg_reference_lists.proofs.Words.{sym, Mark, mark_total, mark_apart, mark_of}
use Rattle.reg_reference_lists.proofs.SetViews.{has_view, mark_agrees}
use Rattle.reg_reference_lists.proofs.yanked.Marks.contains.Goals as goal

pub returns : goal.returns
returns c =
    let q : Mark = (c.args.crate_text.now, c.args.version.now) in
    let e = has_view mark_total mark_apart mark_of q _ (λ m. mark_agrees q (mark_of m)) c.self.inside.list.items in
    rw (← c.self.view_is, c.has_mark.ensures, c.as_slice.ensures.value) (sym e)
