use Rattle.reg_tables_rows.proofs.Words.{List, ℤ, ◌∷◌, SFits, arith, get_or, pos, refl, rules, subst, sym, w64, int_cmp}
use Rattle.std.specs.List.Sorted.{IsStrictlySortedBy}
use Rattle.std.proofs.lemmas.List.{drop_all}
use Rattle.reg_tables_rows.proofs.OwnRowids.{rises_alone, rises_not, rises_on_from}
use Rattle.reg_tables_rows.proofs.apart.rise_from.Goals as goal

pub returns-then-id-last : goal.returns-then-id-last
returns-then-id-last c =
    let last = c.loop-id.last.now in
    let i = c.loop-id.id-index in
    let id = get_or c.args.rest.now i (pos 0) in
    let f : SFits w64 last = search rules in
    let g : SFits w64 id = search rules in (
      λ no. absurd cc,
      λ up. absurd (rises_not c.args.rest.now i last id c.loop-id-test.true refl f g (c.args.first.now ∷ c.args.rest.now) c.if-id-last.true c.loop-id.invariant up),
    )

pub loop-id-preserved : goal.loop-id-preserved
loop-id-preserved c =
    let last = c.loop-id.last.now in
    let i = c.loop-id.id-index in
    let id = get_or c.args.rest.now i (pos 0) in
    let f : SFits w64 last = search rules in
    let g : SFits w64 id = search rules in
    rises_on_from c.args.rest.now i last id c.loop-id-test.true refl f g (c.args.first.now ∷ c.args.rest.now) c.if-id-last.false c.loop-id.invariant

pub returns : goal.returns
returns c = (
  λ yes. c.loop-id.invariant.1 (subst (λ (l : List ℤ). IsStrictlySortedBy int_cmp (c.loop-id.last.now ∷ l)) (sym (drop_all c.loop-id.id-index c.args.rest.now (omega arith))) (rises_alone c.loop-id.last.now)),
  λ up. refl,
)
