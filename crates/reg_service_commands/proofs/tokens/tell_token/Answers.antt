use Rattle.reg_service_commands.proofs.Words.{[], ◌∷◌, ap, map, rules, sym, ◌∙◌, codes, asks_nothing, with_commas, line_of, line_if}
use Rattle.reg_service_commands.proofs.Words.{line_is, asks_as}
use Rattle.reg_service_commands.proofs.tokens.tell_token.Goals as goal

pub returns-then-not-told : goal.returns-then-not-told
returns-then-not-told g c =
    let words = codes "-" ∷ codes "admin" ∷ codes "token-add" ∷ c.args.login.now ∷ codes "--endpoints" ∷ with_commas (map (λ w. w.now) c.args.words.now) ∷ codes "--patterns" ∷ with_commas c.args.patterns.now ∷ [] in
    asks_nothing g.S.Store _ c.args.work.now c.requires.goes_on c.requires.at_work (sym (ap (λ b. line_if b words) c.if-not-told.true))

pub returns : goal.returns
returns g c =
    let words = codes "-" ∷ codes "admin" ∷ codes "token-add" ∷ c.args.login.now ∷ codes "--endpoints" ∷ with_commas (map (λ w. w.now) c.args.words.now) ∷ codes "--patterns" ∷ with_commas c.args.patterns.now ∷ [] in
    asks_as g.S.Store c.told_line.result c.args.work.now c.told_line.new.work
    (λ found told. sym (line_is (line_of words) c.new_token_line.result found (search (rules, c.new_token_line.ensures)) told) ∙ sym (ap (λ b. line_if b words) c.if-not-told.false)) c.told_line.ensures
