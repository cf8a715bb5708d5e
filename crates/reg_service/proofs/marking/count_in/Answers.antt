use Rattle.reg_service.proofs.Words.{sym, subst, ◌∙◌, call_looks, Looked}
use Rattle.reg_service.proofs.Rests.{dropped_looked, left_looked}
use Rattle.reg_service.proofs.marking.count_in.Goals as goal

pub returns-in_err-work-clause-looked : goal.returns-in_err-work-clause-looked
returns-in_err-work-clause-looked g c =
    let left = rw c.in_err-work.was at c.work.follows.holds-at-none in
    left_looked g.S.Store c.args.tables.now _ c.requires left

pub returns-clause-looked : goal.returns-clause-looked
returns-clause-looked g c =
    let back = c.tables-2-1.given.1 (sym (c.counts.ensures.leaves.same_reference ∙ c.in_ok-work.ensures.same_reference)) in
    subst (λ t. Looked g.S.Store c.args.tables.now t) (sym back)
    (dropped_looked g.S.Store c.args.tables.now c.in_ok-work.work c.counts.new.self c.in_ok-work.ensures.begun (call_looks g.S.Store c.counts.result c.in_ok-work.work c.counts.new.self c.counts.ensures.leaves) c.drop-work.new.self.0 c.requires c.drop-work.ensures)
