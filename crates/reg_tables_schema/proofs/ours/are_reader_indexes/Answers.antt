use Rattle.std.proofs.Common.{arith, sym, ◌∙◌}
use Rattle.reg_tables_schema.proofs.OursLists.{item, past, stands, readers_index}
use Rattle.reg_tables_schema.proofs.ours.are_reader_indexes.Goals as goal

pub returns : goal.returns
returns c =
    let xs = c.args.indexes.now in (
      λ h.
          item xs 0 _ _ _ (omega (arith, c.in-len1.len_at_least)) (sym (c.is_index.ensures.0 h ∙ readers_index) ∙ c.readers-item.is)
          (past xs 1 (omega (arith, c.in-len1.len_below))),
      λ e. c.is_index.ensures.1 (stands xs _ 0 _ _ c.readers-item.is e ∙ sym readers_index),
    )
