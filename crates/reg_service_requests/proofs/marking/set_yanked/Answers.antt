use Rattle.reg_service_requests.proofs.Words.{[], ◌∷◌, rules, subst, ◌∙◌, crate_of, action_of, IsFoundOf, rows_seen, IsCrate, marking}
use Rattle.reg_service_requests.proofs.Words.{mark_word, runs_ended, runs_stopped}
use Rattle.reg_service_requests.proofs.Asking.{change_told}
use Rattle.reg_service_requests.proofs.Marked.{marked}
use Rattle.reg_service_requests.proofs.Marks.{mark_has}
use Rattle.reg_service_requests.proofs.marking.set_yanked.Goals as goal

pub returns : goal.returns
returns g c limits name =
    let who = c.args.principal.now in
    let it = c.found_crate-found.result.now in
    let asked = marking c.args.yanked name c.args.version.now in
    let changed = c.in_ok-changed.changed in
    let words = mark_word c.args.yanked ∷ it.name ∷ c.args.version.now ∷ [] in
    runs_ended g.S.Store changed c.in_ok-line.line _ c.args.work.now c.set_yanked.new.self c.tell_change.new.work c.in_ok-changed.ensures c.in_ok-line.ensures
    (λ sets told digest lets asks.
    let its : IsCrate (action_of asked) it (rows_seen g.S.Store c.args.work.now) = λ ids s holds. subst (λ f. IsFoundOf ids s (crate_of (action_of asked)) f) c.found_crate-found.ensures (asks ids s holds).found in (
      marked limits digest name c.args.version.now c.args.yanked it c.in-Ok.body _ _ (c.in-Ok.ensures.items_if_clones_equal (λ x y e. e) ∙ c.ok_body.ensures) sets.0 lets its,
      change_told c.args.traced changed c.is_told-told.result limits who asked _ words c.in_ok-line.line c.is_told-told.ensures (search (rules, told)) (mark_has limits who c.args.yanked changed name c.args.version.now _ it c.found_crate-found.ensures sets.1) digest asks,
    ))

pub returns-in_default : goal.returns-in_default
returns-in_default g c limits name = runs_stopped g.S.Store c.fail.result c.args.work.now c.fail.new.self c.fail.ensures.fails c.fail.ensures.leaves
