use Rattle.reg_tables_rows.proofs.Words.{◌∙◌, ap, sym, nat_le, state, crates_are}
use Rattle.reg_tables_represent.proofs.CrateCounts.{not_reached}
use Rattle.reg_tables_rows.proofs.counts.reaches_crates.Goals as goal

pub returns-then-next-number-clause-told : goal.returns-then-next-number-clause-told
returns-then-next-number-clause-told g c clean ids s h =
    let db = (state g.S.Store c.args.conn.now).now.trees in
    let stands = h.stands.crates in
    let few = not_reached ids s.publications s.yanked db stands c.in_ok-last.last c.next.result c.args.number
    (c.in_ok-last.ensures.told clean) c.next.ensures.next c.if-next-number.true in
    sym few ∙ ap (nat_le c.args.number) (crates_are ids s.publications s.yanked db stands)
