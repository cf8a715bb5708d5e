use Rattle.reg_service_commands.proofs.Words.{[], ◌∷◌, codes, string_bytes, ReaderRemove, runs_asked, runs_told}
use Rattle.reg_service_commands.proofs.Ordered.{done_told, no_reader_words, refusal_told}
use Rattle.reg_service_commands.proofs.Owning.{remove_refused, unreader_done}
use Rattle.reg_service_commands.proofs.crates.remove_reader.Goals as goal

pub returns-in-Err : goal.returns-in-Err
returns-in-Err g c =
    let name = c.args.name.now in
    let login = c.args.login.now in
    runs_asked g.S.Store c.in_ok-pair.field-0 _ c.args.work.now c.find_pair.new.work c.in_ok-pair.ensures
    (λ found limits. refusal_told c.args.traced limits (ReaderRemove name login) _ _ c.refused.result c.in-Err.refusal c.refused.ensures.answer c.refused.ensures.line
    (remove_refused limits name login c.in-Err.refusal _ (rw c.in-Err.is at found)))

pub returns : goal.returns
returns g c =
    let name = c.args.name.now in
    let login = c.args.login.now in
    let (named, account) = c.in-Ok.pair in
    let changed = c.in_ok-removed.removed in
    runs_told g.S.Store c.in_ok-pair.field-0 changed c.done_of_pair.result c.args.work.now c.find_pair.new.work c.remove_reader.new.self c.done_of_pair.new.work
    c.in_ok-pair.ensures c.in_ok-removed.ensures c.done_of_pair.ensures
    (λ it found sets done limits. done_told c.args.traced limits (ReaderRemove name login) _ _ it changed c.is_told-told.result (codes "reader-remove" ∷ string_bytes named.name ∷ login ∷ []) (rw c.deref.ensures at done)
    (unreader_done limits name login named account _ _ (rw c.in-Ok.is at found) sets.0) (no_reader_words limits name login named account _ (rw c.in-Ok.is at found) changed sets.1) c.is_told-told.ensures)
