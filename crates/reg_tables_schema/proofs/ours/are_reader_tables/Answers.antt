use Rattle.std.proofs.Common.{arith, sym, ◌∙◌}
use Rattle.reg_tables_schema.proofs.Edits.{both_true}
use Rattle.reg_tables_schema.proofs.OursLists.{item, past, stands, and_true}
use Rattle.reg_tables_schema.proofs.TableTexts.{restricted_step, readers_step}
use Rattle.reg_tables_schema.proofs.ours.are_reader_tables.Goals as goal

pub returns : goal.returns
returns c =
    let xs = c.args.tables.now in (
      λ h.
          let u2 = both_true _ _ h in
          item xs 0 _ _ _ (omega (arith, c.in-len2.len_at_least)) (sym ((c.in_ok-is_table.ensures _ restricted_step.defined).0 u2.0) ∙ c.restricted-item.is)
          (item xs 1 _ _ _ (omega (arith, c.in-len2.len_at_least)) (sym ((c.in_ok-is_table-2.ensures _ readers_step.defined).0 u2.1) ∙ c.readers-item.is)
          (past xs 2 (omega (arith, c.in-len2.len_below)))),
      λ e.
          and_true _ _
          ((c.in_ok-is_table.ensures _ restricted_step.defined).1 (stands xs _ 0 _ _ c.restricted-item.is e))
          ((c.in_ok-is_table-2.ensures _ readers_step.defined).1 (stands xs _ 1 _ _ c.readers-item.is e)),
    )
