use Rattle.std.proofs.Common.{arith, sym, ◌∙◌}
use Rattle.reg_tables_schema.proofs.Edits.{both_true}
use Rattle.reg_tables_schema.proofs.OursLists.{item, past, stands, and_true}
use Rattle.reg_tables_schema.proofs.TableTexts.{about_step, accounts_step, tokens_step, scopes_step}
use Rattle.reg_tables_schema.proofs.ours.are_token_tables.Goals as goal

pub returns : goal.returns
returns c =
    let xs = c.args.tables.now in (
      λ h.
          let t4 = both_true _ _ h in
          let t3 = both_true _ _ t4.0 in
          let t2 = both_true _ _ t3.0 in
          item xs 0 _ _ _ (omega (arith, c.in-len4.len_at_least)) (sym ((c.in_ok-is_table.ensures _ about_step.defined).0 t2.0) ∙ c.about-item.is)
          (item xs 1 _ _ _ (omega (arith, c.in-len4.len_at_least)) (sym ((c.in_ok-is_table-2.ensures _ accounts_step.defined).0 t2.1) ∙ c.accounts-item.is)
          (item xs 2 _ _ _ (omega (arith, c.in-len4.len_at_least)) (sym ((c.in_ok-is_table-3.ensures _ tokens_step.defined).0 t3.1) ∙ c.tokens-item.is)
          (item xs 3 _ _ _ (omega (arith, c.in-len4.len_at_least)) (sym ((c.in_ok-is_table-4.ensures _ scopes_step.defined).0 t4.1) ∙ c.scopes-item.is)
          (past xs 4 (omega (arith, c.in-len4.len_below)))))),
      λ e.
          and_true _ _ (and_true _ _ (and_true _ _
          ((c.in_ok-is_table.ensures _ about_step.defined).1 (stands xs _ 0 _ _ c.about-item.is e))
          ((c.in_ok-is_table-2.ensures _ accounts_step.defined).1 (stands xs _ 1 _ _ c.accounts-item.is e)))
          ((c.in_ok-is_table-3.ensures _ tokens_step.defined).1 (stands xs _ 2 _ _ c.tokens-item.is e)))
          ((c.in_ok-is_table-4.ensures _ scopes_step.defined).1 (stands xs _ 3 _ _ c.scopes-item.is e)),
    )
