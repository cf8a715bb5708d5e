use Rattle.std.proofs.Common.{arith, sym, ◌∙◌}
use Rattle.reg_tables_schema.proofs.Edits.{both_true}
use Rattle.reg_tables_schema.proofs.OursLists.{item, past, stands, and_true}
use Rattle.reg_tables_schema.proofs.TableTexts.{crates_step, owners_step, versions_step, archives_step, reserved_step, summaries_step}
use Rattle.reg_tables_schema.proofs.ours.are_crate_tables.Goals as goal

pub returns : goal.returns
returns c =
    let xs = c.args.tables.now in (
      λ h.
          let u6 = both_true _ _ h in
          let u5 = both_true _ _ u6.0 in
          let u4 = both_true _ _ u5.0 in
          let u3 = both_true _ _ u4.0 in
          let u2 = both_true _ _ u3.0 in
          item xs 0 _ _ _ (omega (arith, c.in-len6.len_at_least)) (sym ((c.in_ok-is_table.ensures _ crates_step.defined).0 u2.0) ∙ c.crates-item.is)
          (item xs 1 _ _ _ (omega (arith, c.in-len6.len_at_least)) (sym ((c.in_ok-is_table-2.ensures _ owners_step.defined).0 u2.1) ∙ c.owners-item.is)
          (item xs 2 _ _ _ (omega (arith, c.in-len6.len_at_least)) (sym ((c.in_ok-is_table-3.ensures _ versions_step.defined).0 u3.1) ∙ c.versions-item.is)
          (item xs 3 _ _ _ (omega (arith, c.in-len6.len_at_least)) (sym ((c.in_ok-is_table-4.ensures _ archives_step.defined).0 u4.1) ∙ c.archives-item.is)
          (item xs 4 _ _ _ (omega (arith, c.in-len6.len_at_least)) (sym ((c.in_ok-is_table-5.ensures _ reserved_step.defined).0 u5.1) ∙ c.reserved-item.is)
          (item xs 5 _ _ _ (omega (arith, c.in-len6.len_at_least)) (sym ((c.in_ok-is_table-6.ensures _ summaries_step.defined).0 u6.1) ∙ c.summaries-item.is)
          (past xs 6 (omega (arith, c.in-len6.len_below)))))))),
      λ e.
          and_true _ _ (and_true _ _ (and_true _ _ (and_true _ _ (and_true _ _
          ((c.in_ok-is_table.ensures _ crates_step.defined).1 (stands xs _ 0 _ _ c.crates-item.is e))
          ((c.in_ok-is_table-2.ensures _ owners_step.defined).1 (stands xs _ 1 _ _ c.owners-item.is e)))
          ((c.in_ok-is_table-3.ensures _ versions_step.defined).1 (stands xs _ 2 _ _ c.versions-item.is e)))
          ((c.in_ok-is_table-4.ensures _ archives_step.defined).1 (stands xs _ 3 _ _ c.archives-item.is e)))
          ((c.in_ok-is_table-5.ensures _ reserved_step.defined).1 (stands xs _ 4 _ _ c.reserved-item.is e)))
          ((c.in_ok-is_table-6.ensures _ summaries_step.defined).1 (stands xs _ 5 _ _ c.summaries-item.is e)),
    )
