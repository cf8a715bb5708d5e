use Rattle.reg_service_commands.proofs.Words.{[], ◌∷◌, Ok, sym, ◌∙◌, codes, Reserve, runs_nothing, runs_then}
use Rattle.reg_model.specs.declared.rule.AdminRefusal.TheVariants as refusal
use Rattle.reg_policy.specs.declared.event.AdminReply.TheVariants.{Done}
use Rattle.reg_service_commands.proofs.Commands.{bad_name, reserved_already, reserved_now}
use Rattle.reg_service_commands.proofs.Ordered.{done_told, refusal_told, reserve_words, reserved_always, unchanged_told}
use Rattle.reg_service_commands.proofs.names.reserve.Goals as goal

pub returns-in_default : goal.returns-in_default
returns-in_default g c =
    runs_nothing g.S.Store _ c.args.work.now c.requires.goes_on c.requires.at_work
    (λ limits. refusal_told c.args.traced limits (Reserve c.args.name.now) _ _ c.refused.result refusal.G4 c.refused.ensures.answer c.refused.ensures.line
    (bad_name limits c.args.name.now _ (sym c.parse_name.ensures ∙ c.in_default.is)))

pub returns-then-is_reserved_always : goal.returns-then-is_reserved_always
returns-then-is_reserved_always g c =
    let name = c.args.name.now in
    let given = sym c.parse_name.ensures ∙ c.in-Some.is in
    let always = rw c.canon-text.ensures at (sym c.is_reserved_always.ensures ∙ c.if-is_reserved_always.true) in
    runs_nothing g.S.Store _ c.args.work.now c.requires.goes_on c.requires.at_work
    (λ limits. unchanged_told c.args.traced limits (Reserve name) _ _ c.unchanged.result (Ok Done) c.unchanged.ensures.answer c.unchanged.ensures.line
    (reserved_already limits name c.in-Some.parsed _ given always) (reserved_always limits name c.in-Some.parsed _ given always))

pub returns : goal.returns
returns g c =
    let name = c.args.name.now in
    let given = sym c.parse_name.ensures ∙ c.in-Some.is in
    let free = rw c.canon-text.ensures at (sym c.is_reserved_always.ensures ∙ c.if-is_reserved_always.false) in
    let added = c.in_ok-added.added in
    runs_then g.S.Store added c.done_of.result c.args.work.now c.reserve.new.self c.done_of.new.work c.in_ok-added.ensures c.done_of.ensures
    (λ it reserves done limits. done_told c.args.traced limits (Reserve name) _ _ it added c.is_told.result (codes "reserve" ∷ name ∷ []) done
    (reserved_now limits name c.in-Some.parsed _ _ given free (rw c.canon-text.ensures at reserves.0)) (reserve_words limits name c.in-Some.parsed added _ given free (rw c.canon-text.ensures at reserves.1)) c.is_told.ensures)
