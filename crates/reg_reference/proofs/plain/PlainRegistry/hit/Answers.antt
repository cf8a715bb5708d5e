use Rattle.reg_reference.proofs.Words.{[], None, sym, ap, ◌∙◌, unwrap_or, option_map, publication_of, mapped}
use Rattle.reg_model.specs.Search.{top}
use Rattle.reg_reference.proofs.plain.PlainRegistry.hit.Goals as goal

pub returns : goal.returns
unfolding top
returns c =
    let spelling = c.in_ok-from_str.ensures.ok ∙ c.spelling_of-spelling.ensures ∙ ap (λ o. unwrap_or o []) c.first.ensures in
    let version = c.in_ok-from_str-2.ensures.ok ∙ c.version_of.ensures ∙ ap (λ o. unwrap_or o []) (sym (mapped (λ p. p.version) (λ p. publication_of p.now) c.in_ok-top.top) ∙ ap (option_map (λ p. p.version)) c.in_ok-top.ensures) in
    let description = c.in_ok-text_of.ensures ∙ c.description_of.ensures ∙ ap (λ o. unwrap_or o None) (sym (mapped (λ p. p.description) (λ p. publication_of p.now) c.in_ok-top.top) ∙ ap (option_map (λ p. p.description)) c.in_ok-top.ensures) in
    λ i. record { name = spelling i; version = version i; description = description i }
