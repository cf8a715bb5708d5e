use Rattle.reg_reference_lists.proofs.SetViews.{has_text}
use Rattle.reg_reference_lists.proofs.crate_texts.CrateTexts.contains.Goals as goal

pub returns : goal.returns
returns c = rw (← c.self.view_is, c.has_text.ensures, c.as_slice.ensures.value) (has_text c.args.crate_text.now c.self.inside.list.items)
