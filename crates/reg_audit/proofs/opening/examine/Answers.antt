use Rattle.reg_audit.proofs.Words.{arith, subst, HasCleanDisk, Database, seen}
use Rattle.reg_tables_represent.proofs.Results.{if_ok}
use Rattle.reg_audit.specs.Checks.{IsFirst}
use Rattle.reg_audit.proofs.opening.examine.Goals as goal

pub returns-clause-found : goal.returns-clause-found
returns-clause-found g c clean =
    let mid = seen g.S.Store c.all_rows.new.self in
    let early : HasCleanDisk mid = omega (arith, clean, c.first_failing.ensures.looks.survives.clean) in
    let same = (c.in_ok-rows.ensures.same early).0.now_is in
    if_ok c.first_failing.result (λ found first. (c.in_ok-rows.rows, c.in_ok-rows.ensures.told early, subst (λ (d : Database). IsFirst c.in_ok-rows.rows d.trees found) same first)) (c.first_failing.ensures.found clean)
