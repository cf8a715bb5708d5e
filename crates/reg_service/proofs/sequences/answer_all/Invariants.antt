use Rattle.reg_service.proofs.Words.{◌≡◌, take, HasCleanDisk, shown, StandsIn, limits_of, tables_of, HasAnswered}
use Rattle.reg_model.specs.Registry as model
use Rattle.reg_service.proofs.sequences.answer_all.Given as goal

-- the calls so far are answered
abbrev pub invariant-loop-call : goal.invariant-loop-call
invariant-loop-call g l =
    (limits_of l.registry ≡ limits_of l.fn.registry)
    × (HasCleanDisk (shown g.S.Store (tables_of l.registry)) → (s : model.Registry) → StandsIn s (shown g.S.Store (tables_of l.fn.registry))
    → HasAnswered g.S.Store (limits_of l.fn.registry) s (tables_of l.fn.registry) (take l.call-index l.calls) l.told.items (tables_of l.registry))
