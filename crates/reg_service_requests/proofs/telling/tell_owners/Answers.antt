use Rattle.reg_service_requests.proofs.Words.{[], ◌∷◌, ap, map, rules, sym, decimal, with_commas, asks_nothing, line_if, asks_as}
use Rattle.reg_service_requests.proofs.Words.{owners_word}
use Rattle.std.proofs.Common.{string_bytes}
use Rattle.reg_service_requests.proofs.telling.tell_owners.Goals as goal

pub returns-then-not-told : goal.returns-then-not-told
returns-then-not-told g c =
    let who = c.args.principal.now in
    let words = decimal who.token ∷ string_bytes who.login ∷ owners_word c.args.are_owners ∷ c.args.name.now ∷ with_commas (map string_bytes c.args.logins.now) ∷ [] in
    asks_nothing g.S.Store _ c.args.work.now c.requires.goes_on c.requires.at_work (sym (ap (λ b. line_if b words) c.if-not-told.true))

pub returns : goal.returns
returns g c = asks_as g.S.Store c.tell_change.result c.args.work.now c.tell_change.new.work (λ found told. search (rules, told)) c.tell_change.ensures
