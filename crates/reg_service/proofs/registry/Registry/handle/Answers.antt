use Rattle.reg_service.proofs.Words.{arith, HasCleanDisk, request_of, shown, limits_of, tables_of}
use Rattle.reg_service.specs.Handled.{RepliesTo}
use Rattle.reg_service.proofs.Streams.{file_told, no_room_told}
use Rattle.reg_service.proofs.registry.Registry.handle.Goals.{in-Ok, in-Err}
use Rattle.reg_service.proofs.registry.Registry.handle.Goals as goal

pub read_file-requires : goal.read_file-requires
read_file-requires g c = record { ours = c.self.invariant.ours; second = c.self.invariant.second }

pub returns-in-Replied-clause-replies : goal.returns-in-Replied-clause-replies
returns-in-Replied-clause-replies g c clean s h =
    let acts = c.in-Replied.ensures.replies clean s h in
    (acts.0, acts.1, acts.2)

pub returns-after-read_file-clause-replies : goal.returns-after-read_file-clause-replies
returns-after-read_file-clause-replies g c clean s h =
    let limits = limits_of c.args.self.now in
    let asks = request_of limits c.args.request.now in
    let old = tables_of c.args.self.now in
    let found = c.self.inside.tables in
    let new = c.read_file.new.tables in
    let left = c.read_file.ensures.left in
    let early : HasCleanDisk (shown g.S.Store found) = omega (arith, clean, left.survives.clean) in
    let replies = rw (← c.self.view_is) at c.in-Found.ensures.replies in
    let finds = replies early s h in
    elim c.match-read_file.branch as (λ _. RepliesTo g.S.Store limits s asks.digest asks.asked c.match-read_file.result old new) [
      | in-Ok w ↦ rw w.result-is (file_told g.S.Store limits s asks.digest asks.asked c.in-Found.file old found new finds c.self.invariant.ours left clean w.in-Ok.text (w.in-Ok.ensures.reads clean))
      | in-Err w ↦ rw w.result-is (no_room_told g.S.Store limits s asks.digest asks.asked c.in-Found.file old found new finds c.self.invariant.ours left clean)
    ]
