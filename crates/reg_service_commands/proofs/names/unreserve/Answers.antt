use Rattle.reg_service_commands.proofs.Words.{[], ◌∷◌, sym, ◌∙◌, codes, Unreserve, runs_nothing, runs_then}
use Rattle.reg_model.specs.declared.rule.AdminRefusal.TheVariants as refusal
use Rattle.reg_service_commands.proofs.Commands.{bad_free_name, freed_now}
use Rattle.reg_service_commands.proofs.Ordered.{done_told, free_words, refusal_told}
use Rattle.reg_service_commands.proofs.names.unreserve.Goals as goal

pub returns-in_default : goal.returns-in_default
returns-in_default g c =
    runs_nothing g.S.Store _ c.args.work.now c.requires.goes_on c.requires.at_work
    (λ limits. refusal_told c.args.traced limits (Unreserve c.args.name.now) _ _ c.refused.result refusal.G4 c.refused.ensures.answer c.refused.ensures.line
    (bad_free_name limits c.args.name.now _ (sym c.parse_name.ensures ∙ c.in_default.is)))

pub returns : goal.returns
returns g c =
    let name = c.args.name.now in
    let given = sym c.parse_name.ensures ∙ c.in-Some.is in
    let removed = c.in_ok-removed.removed in
    runs_then g.S.Store removed c.done_of.result c.args.work.now c.unreserve.new.self c.done_of.new.work c.in_ok-removed.ensures c.done_of.ensures
    (λ it frees done limits. done_told c.args.traced limits (Unreserve name) _ _ it removed c.is_told.result (codes "unreserve" ∷ name ∷ []) done
    (freed_now limits name c.in-Some.parsed _ _ given (rw c.canon.ensures at frees.0)) (free_words limits name c.in-Some.parsed removed _ given (rw c.canon.ensures at frees.1)) c.is_told.ensures)
