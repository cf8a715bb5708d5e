use Rattle.reg_service_commands.proofs.Words.{[], ◌∷◌, string_bytes, restricting, restricted_word, runs_asked, runs_told}
use Rattle.reg_model.specs.declared.rule.AdminRefusal.TheVariants as refusal
use Rattle.reg_service_commands.proofs.Ordered.{done_told, refusal_told, restrict_words}
use Rattle.reg_service_commands.proofs.Owning.{restrict_done, restrict_refused}
use Rattle.reg_service_commands.proofs.crates.set_restricted.Goals as goal

pub returns-in_default : goal.returns-in_default
returns-in_default g c =
    runs_asked g.S.Store c.in_ok-named.field-0 _ c.args.work.now c.find_named.new.work c.in_ok-named.ensures
    (λ found limits. refusal_told c.args.traced limits (restricting c.args.restricted c.args.name.now) _ _ c.refused.result refusal.G8 c.refused.ensures.answer c.refused.ensures.line
    (restrict_refused limits c.args.restricted c.args.name.now _ (rw c.in_default.is at found)))

pub returns : goal.returns
returns g c =
    let name = c.args.name.now in
    let restricted = c.args.restricted in
    let changed = c.in_ok-changed.changed in
    runs_told g.S.Store c.in_ok-named.field-0 changed c.done_of.result c.args.work.now c.find_named.new.work c.set_restricted.new.self c.done_of.new.work
    c.in_ok-named.ensures c.in_ok-changed.ensures c.done_of.ensures
    (λ it found sets done limits. done_told c.args.traced limits (restricting restricted name) _ _ it changed c.is_told-told.result (restricted_word restricted ∷ string_bytes c.in-Some.named.name ∷ []) (rw (c.restricted_verb-verb.ensures, c.deref.ensures) at done)
    (restrict_done limits restricted name c.in-Some.named _ _ (rw c.in-Some.is at found) sets.0) (restrict_words limits restricted changed name c.in-Some.named _ (rw c.in-Some.is at found) sets.1) c.is_told-told.ensures)
