use Rattle.std.proofs.lemmas.Result.{IfOk-weaker}
use Rattle.reg_cli_args.proofs.Making.{two_added}
use Rattle.reg_cli_args.proofs.parameters.with_words.Goals as goal

pub returns-in_ok-arg-in-CrateAndLogin : goal.returns-in_ok-arg-in-CrateAndLogin
returns-in_ok-arg-in-CrateAndLogin c = rw c.in-CrateAndLogin.is
    (IfOk-weaker c.arg-in-CrateAndLogin-2.result _ _ (λ new added app had. two_added _ _ new _ _ app _ _ c.named-in-CrateAndLogin.ensures c.login-in-CrateAndLogin.ensures c.in_ok-arg-in-CrateAndLogin.ensures added had) c.arg-in-CrateAndLogin-2.ensures)
