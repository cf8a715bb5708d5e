use Rattle.reg_service_requests.proofs.Words.{[], ◌∷◌, ap, rules, sym, ◌∙◌, decimal, line_of, asks_nothing, line_if, asks_as}
use Rattle.std.proofs.Common.{string_bytes}
use Rattle.reg_service_steps.proofs.Afterwards.{line_is}
use Rattle.reg_service_requests.proofs.telling.tell_change.Goals as goal

pub returns-then-not-told : goal.returns-then-not-told
returns-then-not-told g c =
    let who = c.args.principal.now in
    let words = decimal who.token ∷ string_bytes who.login ∷ c.args.verb.now ∷ c.args.name.now ∷ c.args.more.now ∷ [] in
    asks_nothing g.S.Store _ c.args.work.now c.requires.goes_on c.requires.at_work (sym (ap (λ b. line_if b words) c.if-not-told.true))

pub returns : goal.returns
returns g c =
    let who = c.args.principal.now in
    let words = decimal who.token ∷ string_bytes who.login ∷ c.args.verb.now ∷ c.args.name.now ∷ c.args.more.now ∷ [] in
    asks_as g.S.Store c.told_line.result c.args.work.now c.told_line.new.work
    (λ found told. sym (line_is (line_of words) c.line_by.result found (search (rules, c.line_by.ensures)) told) ∙ sym (ap (λ b. line_if b words) c.if-not-told.false)) c.told_line.ensures
