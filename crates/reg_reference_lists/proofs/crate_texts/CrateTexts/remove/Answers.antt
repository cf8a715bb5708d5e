use Rattle.reg_reference_lists.proofs.Words.{◌∙◌, ap, rules, filter_same, text_cmp, canon}
use Rattle.std.specs.FinSet as set
use Rattle.reg_reference_lists.proofs.SetViews.{remove_text}
use Rattle.reg_reference_lists.proofs.crate_texts.CrateTexts.remove.Goals as goal

pub returns : goal.returns
returns c =
    ap (λ l. set.from_list {R = text_cmp} l) (filter_same _ _ _ (λ x b f' k. search rules) _ _ c.retain.ensures.filtered)
    ∙ remove_text (canon c.args.name.now) c.self.inside.list.items
    ∙ ap (λ s. set.remove s (canon c.args.name.now)) c.self.view_is
