use Rattle.std.proofs.Common.{map, sym, ap, ◌∙◌}
use Rattle.reg_model.specs.Trail.{line_of}
use Rattle.reg_access.proofs.Questions.{asks_nothing}
use Rattle.reg_service_steps.specs.Telling.{line_if}
use Rattle.reg_service_steps.proofs.Afterwards.{line_is}
use Rattle.reg_service_steps.proofs.Running.{asks_as}
use Rattle.reg_service_steps.proofs.telling.tell_words.Goals as goal

pub returns-then-not-told : goal.returns-then-not-told
returns-then-not-told g c =
    let words = map (λ w. w.now) c.args.words.now in
    asks_nothing g.S.Store _ c.args.work.now c.requires.goes_on c.requires.at_work (sym (ap (λ b. line_if b words) c.if-not-told.true))

pub returns : goal.returns
returns g c =
    let words = map (λ w. w.now) c.args.words.now in
    asks_as g.S.Store c.told_line.result c.args.work.now c.told_line.new.work
    (λ found told. sym (line_is (line_of words) c.line_of.result found c.line_of.ensures told) ∙ sym (ap (λ b. line_if b words) c.if-not-told.false)) c.told_line.ensures
