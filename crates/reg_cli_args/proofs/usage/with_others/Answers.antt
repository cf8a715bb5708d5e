use Rattle.std.proofs.lemmas.Result.{IfOk-weaker}
use Rattle.reg_cli_args.proofs.Making.{sub_added}
use Rattle.reg_cli_args.proofs.usage.with_others.Goals as goal

pub returns : goal.returns
returns c = IfOk-weaker c.with_level-4.result _ _ (λ new added app had.
    added _ _ c.explain_words.ensures
    (sub_added _ _ _ _ _ c.line_words.ensures c.in_ok-command-4.ensures
    (c.in_ok-command-3.ensures _ _ c.pause_words.ensures
    (c.in_ok-command-2.ensures _ _ c.audit_words.ensures
    (c.in_ok-command.ensures app _ c.export_words.ensures had)))))
    c.with_level-4.ensures
