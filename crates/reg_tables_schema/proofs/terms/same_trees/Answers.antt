use Rattle.std.proofs.Common.{arith, sym, ◌∙◌}
use Rattle.sqlite_schema.specs.Code.{term_in}
use Rattle.reg_tables_schema.proofs.SameLemmas.{same_at}
use Rattle.reg_tables_schema.proofs.terms.same_trees.Goals as goal

pub returns-then-not-same_term : goal.returns-then-not-same_term
returns-then-not-same_term c = (
  λ no. absurd cc,
  λ e. sym c.if-not-same_term.true
      ∙ c.same_term.ensures.1 (same_at (term_in c.args.a.now) (term_in c.args.b.now) c.args.roots.now c.args.others.now c.loop-i.i 0 c.loop-i-test.true (omega (arith, c.loop-i-test.true, c.if-roots-others.false)) e),
)
