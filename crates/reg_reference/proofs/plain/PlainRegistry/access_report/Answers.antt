use Rattle.reg_reference.proofs.Words.{List, ◌++◌, map, sym, ap, ◌∙◌, enumerate_from, flat_map, Text, Token, Registry, reader_line}
use Rattle.reg_reference.proofs.Words.{grant_lines, registry_of, token_of}
use Rattle.reg_model.specs.Grants.{who_reads}
use Rattle.reg_model.specs.Reports.{access_text}
use Rattle.reg_reference.proofs.ReportTexts.{grants_told}
use Rattle.reg_reference.proofs.plain.PlainRegistry.access_report.Goals as goal

pub returns : goal.returns
unfolding access_text
returns c =
    let s : Registry = registry_of c.args.self.now in
    let n : Text = c.args.name.now in
    let lines : List Token → Text = λ tokens. flat_map (grant_lines s n) (enumerate_from 1 tokens) in
    let granted = c.in_ok-push_grants.ensures ∙ ap (λ t. t ++ lines (map token_of c.as_slice.result.now)) c.new-report.ensures.bytes ∙ ap lines c.as_slice.ensures.tokens ∙ sym (grants_told s n) in
    c.in_ok-push_who_reads.ensures ∙ ap (λ t. t ++ flat_map (λ r. reader_line r.1.login) (who_reads s n)) granted
