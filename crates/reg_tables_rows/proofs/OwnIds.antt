-- Rows whose ids, as they are listed with their records, rise: each row has its own.
use Rattle.reg_tables_rows.proofs.Words.{◌<◌, ◌+◌, arith, ℕ, ℤ, pos, List, [], ◌∷◌, map, length, take, sym, ap, ◌∙◌, int_cmp, Int, Row}
use Rattle.reg_tables_rows.proofs.Words.{value_cmp-Int, by_column, shows, rowid_columns, HaveOwnRowids}
use native.Mathlib.Numerals.{unary_clauses}
use Rattle.std.specs.List.{AllAdjacentBelow}
use Rattle.std.specs.List.Sorted.{IsStrictlySortedBy}
use Rattle.reg_tables_schema.specs.Rows.{IsInOrder}
use Rattle.reg_tables_schema.proofs.Queries.{maps_twice}
use Rattle.reg_tables_represent.proofs.Selected.{number_below}
use Rattle.reg_tables_rows.proofs.OwnRowids.{own_ordered, rises_alone, rises_next, rises_nowhere}

module _ {X : Type 0} (id : X → ℕ) where
  abbrev ids_of : List X → List ℤ
  ids_of = map (λ x. pos (id x))

  rising : (xs : List X) → AllAdjacentBelow (λ a b. id a < id b) xs (length xs) → IsStrictlySortedBy int_cmp (ids_of xs)
  rising [] h = rises_nowhere [] (omega arith)
  rising (x ∷ []) h = rises_alone (pos (id x))
  rising (x ∷ y ∷ xs) h =
      let less = sym (value_cmp-Int (pos (id x)) (pos (id y))) ∙ number_below (id x) (id y) (h 0 x (omega arith)) in
      (rises_next (pos (id x)) (pos (id y)) (ids_of xs) less).1 (rising (y ∷ xs) (λ k d within. let g = h (k + 1) d (omega (arith, within)) in simp unary_clauses (simp unary_clauses at g)))

  -- records that show their ids first
  pub own_listed : (behind : X → Row) (places : List ℕ) (rows : List Row) (list : List X) → IsInOrder (by_column 0) rows (shows (0 ∷ places)) (map (λ x. Int (pos (id x)) ∷ behind x) list)
      → AllAdjacentBelow (λ a b. id a < id b) list (length list) → HaveOwnRowids rows
  own_listed behind places rows list h up =
      let row = λ (x : X). Int (pos (id x)) ∷ behind x in
      let shown = maps_twice (λ (x : X). pos (id x)) rowid_columns list ∙ sym (maps_twice row (take 1) list) ∙ ap (map (take 1)) h.shown ∙ maps_twice (shows (0 ∷ places)) (take 1) h.ordered in
      own_ordered rows h.ordered (ids_of list) h.same shown (rising list up)
