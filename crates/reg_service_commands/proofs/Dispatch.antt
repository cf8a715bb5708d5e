-- What a function obeys under any limits, and by another name of the command, it obeys under these.
use Rattle.reg_service_commands.proofs.Words.{◌≡◌, Bool, true, None, Result, Ok, Err, refl, subst, sym, ◌∙◌, Ghosts, Limits, Command}
use Rattle.reg_service_commands.proofs.Words.{StoreFault, Work, Reply, TracedOrder}
use Rattle.reg_policy.specs.declared.event.AdminCommand.{AdminCommand}
use Rattle.reg_policy.specs.Events.{command_of}
use Rattle.reg_access.proofs.Calls.{called_err, called_ok}
use Rattle.reg_service_commands.specs.Orders.{Obeys}
use Rattle.reg_service_commands.specs.Telling.{IsUntold, ObeysTold, ObeysToldUnder}
use Rattle.reg_service_commands.proofs.Ordered.{is_report, report_words, unchanged_told}

module _ {S : Type 0} (g : Ghosts S) (traced : Bool) (limits : Limits) (command given : AdminCommand) (same : command ≡ given) (r : Result TracedOrder StoreFault) (old new : Work S) where
  pub as_given : ObeysToldUnder traced limits g (command_of given) r old new → ObeysToldUnder traced limits g (command_of command) r old new
  as_given h = subst (λ c. ObeysToldUnder traced limits g (command_of c) r old new) (sym same) h

  any_limits : (r : Result TracedOrder StoreFault) (c : Command) → ObeysTold traced g c r old new → ObeysToldUnder traced limits g c r old new
  any_limits (Ok x) c h = record { told = λ clean. h.told clean limits; leaves = h.leaves }
  any_limits (Err e) c h = record { told = λ clean. tt; leaves = h.leaves }

  pub always_given : ObeysTold traced g (command_of given) r old new → ObeysToldUnder traced limits g (command_of command) r old new
  always_given h = as_given (any_limits r (command_of given) h)

  -- a report has no line
  without_line : (q : Result Reply StoreFault) (r : Result TracedOrder StoreFault) (c : Command) → IsUntold q r → is_report c ≡ true → Obeys g c q old new → ObeysToldUnder traced limits g c r old new
  without_line (Ok x) r c is report h = subst (λ r. ObeysToldUnder traced limits g c r old new) (sym is) (record {
    told = λ clean. unchanged_told traced limits c _ _ (record { answer = x; line = None }) x refl refl (h.told clean limits) (report_words limits c _ report);
    leaves = called_ok g x (record { answer = x; line = None }) old new h.leaves;
  })
  without_line (Err e) r c is report h = subst (λ r. ObeysToldUnder traced limits g c r old new) (sym is) (record { told = λ clean. tt; leaves = called_err g e e old new h.leaves })

  pub report_given : (q : Result Reply StoreFault) → IsUntold q r → is_report (command_of given) ≡ true → Obeys g (command_of given) q old new → ObeysToldUnder traced limits g (command_of command) r old new
  report_given q is report h = as_given (without_line q r (command_of given) is report h)
