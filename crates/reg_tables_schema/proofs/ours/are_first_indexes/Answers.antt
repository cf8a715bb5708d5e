use Rattle.std.proofs.Common.{arith, sym, ◌∙◌}
use Rattle.reg_tables_schema.proofs.Edits.{both_true}
use Rattle.reg_tables_schema.proofs.OursLists.{item, past, stands, and_true, accounts_index, tokens_index, scopes_index, crates_index, owners_index, versions_index, reserved_index}
use Rattle.reg_tables_schema.proofs.ours.are_first_indexes.Goals as goal

pub returns : goal.returns
returns c =
    let xs = c.args.indexes.now in (
      λ all.
          let s6 = both_true _ _ all in
          let s5 = both_true _ _ s6.0 in
          let s4 = both_true _ _ s5.0 in
          let s3 = both_true _ _ s4.0 in
          let s2 = both_true _ _ s3.0 in
          let s1 = both_true _ _ s2.0 in
          item xs 0 _ _ _ (omega (arith, c.in-len7.len_at_least)) (sym (c.is_index.ensures.0 s1.0 ∙ accounts_index) ∙ c.accounts-item.is)
          (item xs 1 _ _ _ (omega (arith, c.in-len7.len_at_least)) (sym (c.is_index-2.ensures.0 s1.1 ∙ tokens_index) ∙ c.tokens-item.is)
          (item xs 2 _ _ _ (omega (arith, c.in-len7.len_at_least)) (sym (c.is_index-3.ensures.0 s2.1 ∙ scopes_index) ∙ c.scopes-item.is)
          (item xs 3 _ _ _ (omega (arith, c.in-len7.len_at_least)) (sym (c.is_index-4.ensures.0 s3.1 ∙ crates_index) ∙ c.crates-item.is)
          (item xs 4 _ _ _ (omega (arith, c.in-len7.len_at_least)) (sym (c.is_index-5.ensures.0 s4.1 ∙ owners_index) ∙ c.owners-item.is)
          (item xs 5 _ _ _ (omega (arith, c.in-len7.len_at_least)) (sym (c.is_index-6.ensures.0 s5.1 ∙ versions_index) ∙ c.versions-item.is)
          (item xs 6 _ _ _ (omega (arith, c.in-len7.len_at_least)) (sym (c.is_index-7.ensures.0 s6.1 ∙ reserved_index) ∙ c.reserved-item.is)
          (past xs 7 (omega (arith, c.in-len7.len_below))))))))),
      λ e.
          and_true _ _ (and_true _ _ (and_true _ _ (and_true _ _ (and_true _ _ (and_true _ _
          (c.is_index.ensures.1 (stands xs _ 0 _ _ c.accounts-item.is e ∙ sym accounts_index))
          (c.is_index-2.ensures.1 (stands xs _ 1 _ _ c.tokens-item.is e ∙ sym tokens_index)))
          (c.is_index-3.ensures.1 (stands xs _ 2 _ _ c.scopes-item.is e ∙ sym scopes_index)))
          (c.is_index-4.ensures.1 (stands xs _ 3 _ _ c.crates-item.is e ∙ sym crates_index)))
          (c.is_index-5.ensures.1 (stands xs _ 4 _ _ c.owners-item.is e ∙ sym owners_index)))
          (c.is_index-6.ensures.1 (stands xs _ 5 _ _ c.versions-item.is e ∙ sym versions_index)))
          (c.is_index-7.ensures.1 (stands xs _ 6 _ _ c.reserved-item.is e ∙ sym reserved_index)),
    )
