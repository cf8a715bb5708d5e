use Rattle.reg_tables_schema.proofs.terms.same_terms.Goals as goal

pub returns : goal.returns
returns c = rw (c.as_slice.ensures, c.as_slice-2.ensures, c.as_slice-3.ensures, c.as_slice-4.ensures, c.a.view_is, c.b.view_is) at c.same_trees.ensures
