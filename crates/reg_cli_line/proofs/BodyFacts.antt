-- From what the layers below answered to what `line` answers.
use Rattle.std.proofs.Common.{◌≡◌, List, ℕ, Result, Ok, Err, IfErr, IsErrAnd, subst, sym}
use Rattle.reg_body.specs.declared.limits.Limits.{Limits}
use Rattle.reg_cli_line.specs.Answers.{Breaks}
use Rattle.reg_cli_line.specs.declared.fault.LineFault.{LineFault}

-- a failure breaks what its one fault breaks
pub fails_by : {A : Type 0} (limits : Limits) (input : List ℕ) (r : Result A LineFault) (f : LineFault) → IfErr r (λ e. e ≡ f) → Breaks limits input f → IfErr r (λ e. Breaks limits input e)
fails_by limits input (Ok x) f is h = tt
fails_by limits input (Err e) f is h = subst (Breaks limits input) (sym is) h

-- the same of a fault that was passed on
pub passed_on : {A : Type 0} (limits : Limits) (input : List ℕ) (r : Result A LineFault) (f : LineFault) → IsErrAnd r (λ e. e ≡ f) → Breaks limits input f → IfErr r (λ e. Breaks limits input e)
passed_on limits input (Ok x) f is h = tt
passed_on limits input (Err e) f is h = subst (Breaks limits input) (sym is) h
