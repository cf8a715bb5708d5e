use Rattle.reg_reference_lists.proofs.PublicationViews.{crates_view}
use Rattle.reg_reference_lists.proofs.publications.Publications.crates.Goals as goal

pub returns : goal.returns
returns c = rw (← c.self.view_is, c.count_crates.ensures.value, c.as_slice.ensures.value) (crates_view c.self.inside.list.items)
