use Rattle.std.proofs.Common.{◌∙◌, ap, map, sym}
use Rattle.std.proofs.lemmas.Result.{err_from_is_err_and}
use Rattle.reg_cli_run.specs.Messages.{is_pause}
use Rattle.reg_cli_run.proofs.Heard.{paused, unanswered}
use Rattle.reg_cli_run.proofs.message.answer_message.Goals as goal

pub returns-in_err-words : goal.returns-in_err-words
returns-in_err-words g c =
    let p = err_from_is_err_and c.from_residual.result c.from_residual.ensures.1 in
    rw (p.1, p.2) (unanswered c.in_err-words.field-0.0 c.in_err-words.ensures.fails)

pub returns-then-is_pause : goal.returns-then-is_pause
returns-then-is_pause g c =
    paused (map (λ w. w.now) c.in_ok-words.words.items) c.in_ok-words.ensures.arguments (ap (λ ws. is_pause (map (λ w. w.now) ws)) (sym c.deref.ensures.value) ∙ sym c.is_pause.ensures ∙ c.if-is_pause.true)
