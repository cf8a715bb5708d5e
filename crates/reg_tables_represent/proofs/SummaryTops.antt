-- The highest of the marks that were read.
use Rattle.reg_tables_represent.proofs.Words.{VersionMark, highest_in, read_mark, shown_mark, IsTop, Marked, top_place, top_is_top}
use Rattle.reg_tables_represent.proofs.Common.{◌≡◌, [], ◌∙◌, ap, List, map, maps_twice, option_and_then, option_map, slice_get, subst, sym, unwrap_or, ℕ}
use Rattle.reg_tables_represent.proofs.SummaryRows.{got_map, mapped}

module _ (marks : List VersionMark) (releases : List Marked) (are : releases ≡ map (λ m. read_mark (shown_mark m)) marks) where
  as_read : releases ≡ map read_mark (map shown_mark marks)
  as_read = are ∙ sym (maps_twice shown_mark read_mark marks)

  pub top_id : (place : ℕ) → IsTop releases place → unwrap_or (option_map (λ m. m.id) (slice_get marks place)) 0 ≡ highest_in (map shown_mark marks)
  top_id place is =
      let at = (top_is_top (map read_mark (map shown_mark marks)) place).1 (subst (λ (l : List Marked). IsTop l place) as_read is) in
      ap (λ o. unwrap_or o 0)
      (sym (mapped (λ m. m.id) shown_mark (slice_get marks place)) ∙ ap (option_map (λ m. m.id)) (sym (got_map shown_mark place marks))
      ∙ ap (λ o. option_map (λ m. m.id) (option_and_then (slice_get (map shown_mark marks)) o)) (sym at))

  pub no_id : releases ≡ [] → 0 ≡ highest_in (map shown_mark marks)
  no_id none = ap (λ l. unwrap_or (option_map (λ m. m.id) (option_and_then (slice_get (map shown_mark marks)) (top_place l))) 0) (sym none ∙ as_read)
