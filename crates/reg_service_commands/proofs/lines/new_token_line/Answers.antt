use Rattle.reg_service_commands.proofs.Words.{◌∷◌, [], map, ap, ◌∙◌, codes, string_bytes, with_commas, line_of}
use Rattle.std.proofs.lemmas.List.{map-id}
use Rattle.reg_service_commands.proofs.LineWords.{token_written}
use Rattle.reg_service_commands.proofs.lines.new_token_line.Goals as goal

pub returns : goal.returns
returns c =
    let words = with_commas (map (λ w. w.now) c.args.words.now) in
    c.in_ok-writeln.ensures.bytes
    ∙ token_written (string_bytes c.new-line.result) c.args.login.now words (with_commas (map (λ p. p) c.args.patterns.now)) c.new-line.ensures.bytes
    ∙ ap (λ ps. line_of (codes "-" ∷ codes "admin" ∷ codes "token-add" ∷ c.args.login.now ∷ codes "--endpoints" ∷ words ∷ codes "--patterns" ∷ with_commas ps ∷ [])) (map-id c.args.patterns.now)
