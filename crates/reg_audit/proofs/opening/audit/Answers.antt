use Rattle.reg_audit.proofs.Words.{arith, ap, subst, ◌∙◌, sym, HasCleanDisk, seen}
use Rattle.reg_tables.specs.Works.{edition_in, is_stopped, shown}
use Rattle.reg_tables.proofs.Looking.{begins_with, if_told}
use Rattle.reg_audit.proofs.opening.audit.Goals as goal

pub returns-clause-found : goal.returns-clause-found
returns-clause-found g c clean =
    let back = c.tables-2-1.given.1 (sym (c.examine.ensures.looks.same_reference ∙ c.in_ok-work.ensures.same_reference)) in
    let still = subst (λ t. HasCleanDisk (shown g.S.Store t)) back clean in
    let mid : HasCleanDisk (seen g.S.Store c.examine.new.work) = omega (arith, still, c.drop-work.ensures.survives.clean) in
    let early : HasCleanDisk (seen g.S.Store c.in_ok-work.work) = omega (arith, mid, c.examine.ensures.looks.survives.clean) in
    let db = (seen g.S.Store c.in_ok-work.work).now.trees in
    let begun = begins_with (edition_in c.args.tables.now) (shown g.S.Store c.args.tables.now) (seen g.S.Store c.in_ok-work.work) (c.in_ok-work.ensures.begun.view early) in
    if_told c.examine.result (λ found it. (db, begun, it.0, it.1, it.2)) (c.examine.ensures.found mid)

pub returns-clause-open : goal.returns-clause-open
returns-clause-open g c =
    let back = c.tables-2-1.given.1 (sym (c.examine.ensures.looks.same_reference ∙ c.in_ok-work.ensures.same_reference)) in
    ap is_stopped back ∙ c.drop-work.ensures.same_mode ∙ c.examine.ensures.looks.same_mode ∙ c.in_ok-work.ensures.begun.still_open ∙ sym c.in_ok-work.ensures.begun.was_open

pub returns-clause-edition : goal.returns-clause-edition
returns-clause-edition g c =
    let back = c.tables-2-1.given.1 (sym (c.examine.ensures.looks.same_reference ∙ c.in_ok-work.ensures.same_reference)) in
    ap edition_in back ∙ c.drop-work.ensures.edition ∙ c.examine.ensures.looks.same_edition ∙ c.in_ok-work.ensures.begun.edition
