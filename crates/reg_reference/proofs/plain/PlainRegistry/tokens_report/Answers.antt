use Rattle.reg_reference.proofs.Words.{List, map, ◌++◌, ap, ◌∙◌, enumerate_from, flat_map, Text, Token, registry_of, token_of}
use Rattle.reg_model.specs.Reports.{login_of, token_line, tokens_text}
use Rattle.reg_reference.proofs.plain.PlainRegistry.tokens_report.Goals as goal

pub returns : goal.returns
unfolding tokens_text
returns c =
    let lines : List Token → Text = λ tokens. flat_map (λ t. token_line (login_of (registry_of c.args.self.now) t.1.account) t) (enumerate_from 1 tokens) in
    c.in_ok-push_tokens.ensures ∙ ap (λ t. t ++ lines (map token_of c.as_slice.result.now)) c.new-report.ensures.bytes ∙ ap lines c.as_slice.ensures.tokens
