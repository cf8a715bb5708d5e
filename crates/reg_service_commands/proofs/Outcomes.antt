-- From what refuses a command, or does not, to its outcome.
use Rattle.reg_service_commands.proofs.Words.{◌≡◌, Some, None, sym, ap, subst, ◌∙◌, Trees, Limits, AdminRefusal, replied, Answer, Command}
use Rattle.reg_service_commands.proofs.Words.{Refused, Order, Registry, Outcome, outcome, unless_refused, IdAssignment, Stands, HasOutcome}
use Rattle.reg_model.specs.Effects.{commanded}
use Rattle.reg_model.specs.Refusals.{refused}
use Rattle.reg_tables_represent.specs.Stands.{StandsSoundBy}

by_outcome : (limits : Limits) (s : Registry) (c : Command) (o : Outcome) (new : Trees) → outcome limits s (Order c) ≡ o → Stands o.1 new → (o.0 ≡ (outcome limits s (Order c)).0) × Stands (outcome limits s (Order c)).1 new
by_outcome limits s c o new e stands = (ap (λ it. it.0) (sym e), subst (λ (it : Outcome). Stands it.1 new) (sym e) stands)

-- it is refused, and nothing changes
pub refused_so : (limits : Limits) (c : Command) (g : AdminRefusal) (db : Trees) → ((ids : IdAssignment) (s : Registry) → StandsSoundBy ids s db → refused limits s c ≡ Some g) → HasOutcome limits (Order c) (Refused g) db db
refused_so limits c g db why ids s h = by_outcome limits s c (Refused g, s) db (ap (λ r. unless_refused s r (replied s c, commanded s c)) (why ids s h)) (ids, h.stands)

-- it is done
pub done_so : (limits : Limits) (c : Command) (a : Answer) (old new : Trees) → ((ids : IdAssignment) (s : Registry) → StandsSoundBy ids s old → (refused limits s c ≡ None) × (a ≡ replied s c) × Stands (commanded s c) new) → HasOutcome limits (Order c) a old new
done_so limits c a old new what ids s h =
    let it = what ids s h in
    let e : outcome limits s (Order c) ≡ (a, commanded s c) = ap (λ r. unless_refused s r (replied s c, commanded s c)) it.0 ∙ ap {A = Answer} (λ x. (x, commanded s c)) (sym it.1) in
    by_outcome limits s c (a, commanded s c) new e it.2
