use Rattle.std.proofs.Common.{Err}
use Rattle.reg_service_requests.proofs.Words.{◌≡◌, [], ◌∷◌, map, rules, subst, list_any, string_bytes, bytes_eq, crate_of, action_of}
use Rattle.reg_service_requests.proofs.Words.{with_commas, ListsOwners, IsFoundOf, rows_seen, IsCrate, owning, changes, owners_word}
use Rattle.reg_service_requests.proofs.Asking.{change_told}
use Rattle.reg_service_requests.proofs.Owned.{owning_has}
use Rattle.reg_access.proofs.Calls.{then_called}
use Rattle.reg_service_steps.proofs.Running.{runs_failed, runs_whole}
use Rattle.reg_service_requests.proofs.owning.own.Goals as goal

pub returns : goal.returns
returns g c limits name =
    let who = c.args.principal.now in
    let it = c.found_crate-found.result.now in
    let texts = c.args.logins.now in
    let list = c.in_ok-owners.owners.items in
    let are = c.args.are_owners in
    let asked = owning are name (map string_bytes texts) in
    let changed = c.changes_owners-changed.result in
    let words = owners_word are ∷ it.name ∷ with_commas (map string_bytes texts) ∷ [] in
    let is : changed ≡ changes are (λ t. list_any (λ a. bytes_eq (string_bytes a.login) (string_bytes t)) list) texts = rw c.deref.ensures.value at c.changes_owners-changed.ensures in
    runs_whole g.S.Store {P = λ db owners. ListsOwners it.id db owners.items} c.in_ok-owners.owners c.in_ok-served.served c.in_ok-line.line _ c.args.work.now c.owners_of.new.self c.set_all.new.work c.tell_owners.new.work
    c.in_ok-owners.ensures c.in_ok-served.ensures c.in_ok-line.ensures
    (λ lists grants told digest lets asks.
    let its : IsCrate (action_of asked) it (rows_seen g.S.Store c.args.work.now) = λ ids s holds. subst (λ f. IsFoundOf ids s (crate_of (action_of asked)) f) c.found_crate-found.ensures (asks ids s holds).found in (
      grants (rw c.deref-2.ensures.value lists) name limits digest lets its,
      change_told c.args.traced changed c.is_told-told.result limits who asked _ words c.in_ok-line.line c.is_told-told.ensures (search (rules, told)) (owning_has limits who are changed name texts _ it list c.found_crate-found.ensures lists is) digest asks,
    ))

pub returns-in_err-line : goal.returns-in_err-line
returns-in_err-line g c limits name =
    let e = c.in_err-line.field-0.0 in
    runs_failed g.S.Store e c.from_residual-in_err-line.result c.args.work.now c.tell_owners.new.work c.from_residual-in_err-line.ensures.0
    (then_called g.S.Store c.in_ok-owners.owners (Err e) c.args.work.now c.owners_of.new.self c.tell_owners.new.work c.in_ok-owners.ensures.leaves
    (then_called g.S.Store c.in_ok-served.served (Err e) c.owners_of.new.self c.set_all.new.work c.tell_owners.new.work c.in_ok-served.ensures.leaves c.in_err-line.ensures.leaves))
