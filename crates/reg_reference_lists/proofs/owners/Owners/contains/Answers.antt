use Rattle.reg_reference_lists.proofs.Words.{sym, Owner, owner_total, owner_apart, owner_of}
use Rattle.reg_reference_lists.proofs.SetViews.{has_view, owner_agrees}
use Rattle.reg_reference_lists.proofs.owners.Owners.contains.Goals as goal

pub returns : goal.returns
returns c =
    let q : Owner = (c.args.crate_text.now, c.args.account) in
    let e = has_view owner_total owner_apart owner_of q _ (λ m. owner_agrees q (owner_of m)) c.self.inside.list.items in
    rw (← c.self.view_is, c.has_owner.ensures, c.as_slice.ensures.value) (sym e)
