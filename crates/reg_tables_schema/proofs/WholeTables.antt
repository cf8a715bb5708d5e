-- What a SELECT of all the rows of one table answers.
use Rattle.reg_tables_schema.proofs.Words.{◌≡◌, ℕ, pos, List, [], ◌∷◌, map, length, true, sym, ap, subst, ◌∙◌, IsPermutation, length-map}
use Rattle.reg_tables_schema.proofs.Words.{Binary, Row, column, Trees, Term, col, eval_all, inner, end, IsSureAnswer, Value, Int, IsInOrder}
use Rattle.reg_tables_schema.proofs.Words.{capped}
use Rattle.sqlite_value.specs.Keys.{ascending}
use Rattle.sqlite.specs.Order.{value_cmp}
use Rattle.reg_tables_schema.specs.Rows.{by_column, number_columns}
use Rattle.reg_tables_schema.proofs.Counts.{counted, counts}
use Rattle.reg_tables_schema.proofs.Queries.{plain}
use Rattle.reg_tables_schema.proofs.Selections.{of_table}
use Rattle.reg_tables_schema.proofs.Sorted.{in_order, in_order_of, then_equal}
use Rattle.reg_tables_schema.proofs.TableMatches.{matches_all, all_pass}

module _ (db : Trees) (params : Row) (tree : ℕ) (project : List Term) (rows : List Row) where
  -- in some order
  pub all_rows : IsSureAnswer (plain (inner tree end) [] project) db params rows → IsPermutation (map (λ r. eval_all project (params ∷ r ∷ [])) (db tree)) rows
  all_rows h =
      let met = matches_all db params tree ∙ ap (map (λ r. params ∷ r ∷ [])) (sym (all_pass (db tree))) in
      subst (λ xs. IsPermutation (map (λ r. eval_all project (params ∷ r ∷ [])) xs) rows) (all_pass (db tree)) (of_table db params tree [] project rows (λ r. true) met h)

  -- ORDER BY one column
  pub all_in_order : (place : ℕ) → IsSureAnswer (in_order (inner tree end) [] project ((col 1 place, ascending Binary) ∷ [])) db params rows
      → IsInOrder (by_column place) (db tree) (λ r. eval_all project (params ∷ r ∷ [])) rows
  all_in_order place h =
      let met = matches_all db params tree ∙ ap (map (λ r. params ∷ r ∷ [])) (sym (all_pass (db tree))) in
      let same = λ (a b : Row). then_equal (value_cmp (column a place) (column b place)) in
      subst (λ xs. IsInOrder (by_column place) xs (λ r. eval_all project (params ∷ r ∷ [])) rows) (all_pass (db tree))
      (in_order_of db params tree [] project ((col 1 place, ascending Binary) ∷ []) rows (λ r. true) (by_column place) met same h)

  -- count(*)
  pub count_all : IsSureAnswer (counted (inner tree end) []) db params rows → rows ≡ (capped (length (db tree)) ∷ []) ∷ []
  count_all h =
      let number = ap length (matches_all db params tree) ∙ length-map (db tree) (λ (r : Row). params ∷ r ∷ []) in
      counts db params (inner tree end) [] rows h ∙ ap (λ n. (capped n ∷ []) ∷ []) number

one_number : (n : ℕ) (v : Value) → ◌≡◌ {A = List Row} (number_columns n ∷ []) ((v ∷ []) ∷ []) → Int (pos n) ≡ v
one_number n v e = cc

-- count(*) as a number
pub one_count : (db : Trees) (tree n : ℕ) → IsSureAnswer (counted (inner tree end) []) db [] (number_columns n ∷ []) → Int (pos n) ≡ capped (length (db tree))
one_count db tree n h = one_number n (capped (length (db tree))) (count_all db [] tree [] (number_columns n ∷ []) h)
