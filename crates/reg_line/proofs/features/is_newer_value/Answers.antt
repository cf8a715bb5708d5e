use Rattle.std.proofs.Common.{◌≡◌, codes, sym, ◌∙◌, false, ◌||◌, ap, nat_eq}
use Rattle.std.specs.List.{starts_with}
use Rattle.std.proofs.lemmas.Bool.{or_left}
use Rattle.std.proofs.lemmas.Str.Pattern.{starts_text, contains_text}
use Rattle.reg_line.specs.Features.{is_newer_value, has_weak}
use Rattle.reg_line.proofs.Weak.{weak_from}
use Rattle.reg_line.proofs.features.is_newer_value.Goals as goal

pub returns-then-starts_with : goal.returns-then-starts_with
unfolding is_newer_value
returns-then-starts_with c =
    let text = c.args.text.now in
    let st = starts_text c.starts_with.result (codes "dep:") text c.starts_with.ensures.cases in
    c.if-starts_with.true ∙ sym (or_left _ (has_weak text) (sym st ∙ c.if-starts_with.true))

pub returns-else-starts_with : goal.returns-else-starts_with
unfolding is_newer_value
returns-else-starts_with c =
    let text = c.args.text.now in
    let st = starts_text c.starts_with.result (codes "dep:") text c.starts_with.ensures.cases in
    let other : starts_with nat_eq text (codes "dep:") ≡ false = sym st ∙ c.if-starts_with.false in
    weak_from c.contains.result text (contains_text c.contains.result (codes "?/") text c.contains.ensures.cases) ∙ sym (ap (λ b. b || has_weak text) other)
