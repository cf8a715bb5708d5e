use Rattle.reg_reference.proofs.Words.{◌++◌, length, [], sym, ap, ◌∙◌, unwrap_or, string_bytes, length-map, crate_line, option_map}
use Rattle.reg_reference.proofs.Words.{publication_of, mapped}
use Rattle.reg_model.specs.Search.{top}
use Rattle.reg_reference.proofs.ReportTexts.{on_ok}
use Rattle.reg_reference.proofs.plain.PlainRegistry.push_crate.Goals as goal

pub returns : goal.returns
unfolding top
returns c =
    let count = c.len.ensures ∙ c.in_ok-versions.versions.ok.0 ∙ sym (length-map c.in_ok-versions.versions.items (λ t. t.now)) ∙ ap length c.in_ok-versions.ensures ∙ length-map _ (λ p. p.version) in
    let highest = c.version_of.ensures ∙ ap (λ o. unwrap_or o []) (sym (mapped (λ p. p.version) (λ p. publication_of p.now) c.in_ok-top.top) ∙ ap (option_map (λ p. p.version)) c.in_ok-top.ensures) in
    let spelling = c.spelling_of-spelling.ensures ∙ ap (λ o. unwrap_or o []) c.first.ensures in
    on_ok c.push_crate_line.result c.push_crate_line.ensures (λ e. e ∙ (λ i. string_bytes c.args.report.now ++ crate_line (spelling i) (count i) (highest i)))
