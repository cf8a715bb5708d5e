use Rattle.reg_service_commands.proofs.Words.{◌∷◌, ap, rules, sym, ◌∙◌, option_map, codes, asks_nothing, line_of, name_words, line_if}
use Rattle.reg_service_commands.proofs.Words.{line_is, asks_as}
use Rattle.reg_service_commands.proofs.accounts.tell_account.Goals as goal

pub returns-then-not-told : goal.returns-then-not-told
returns-then-not-told g c =
    let words = codes "-" ∷ codes "admin" ∷ codes "user-add" ∷ c.args.login.now ∷ name_words (option_map (λ n. n.now) c.args.name) in
    asks_nothing g.S.Store _ c.args.work.now c.requires.goes_on c.requires.at_work (sym (ap (λ b. line_if b words) c.if-not-told.true))

pub returns : goal.returns
returns g c =
    let words = codes "-" ∷ codes "admin" ∷ codes "user-add" ∷ c.args.login.now ∷ name_words (option_map (λ n. n.now) c.args.name) in
    asks_as g.S.Store c.told_line.result c.args.work.now c.told_line.new.work
    (λ found told. sym (line_is (line_of words) c.new_user_line.result found (search (rules, c.new_user_line.ensures)) told) ∙ sym (ap (λ b. line_if b words) c.if-not-told.false)) c.told_line.ensures
