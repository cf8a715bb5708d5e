-- What `SELECT id FROM .. ORDER BY id LIMIT 1` answers, of any table.
use Rattle.reg_tables_sql.proofs.Words.{◌≡◌, ℕ, ◌+◌, pos, List, [], ◌∷◌, map, None, false, refl, sym, ap, subst, ◌∙◌, IsPermutation, Binary}
use Rattle.reg_tables_sql.proofs.Words.{Null, Int, Row, column, value_cmp, Trees, lit, col, Query, inner, end, IsSureAnswer, ascending}
use Rattle.reg_tables_sql.proofs.Words.{IsInOrder, by_column, shows, then_equal}
use Rattle.std.proofs.Common.{take, get_or}
use Rattle.std.specs.List.Sorted.{IsSorted}
use Rattle.std.specs.Ordering.{is_lt}
use Rattle.sqlite_exec.proofs.PartitionLemmas.{IsSorted-from_map}
use Rattle.sqlite.specs.Query.{IsAnswer, output, output_cmp, Output}
use Rattle.reg_tables_schema.proofs.Queries.{maps_twice}
use Rattle.reg_tables_schema.proofs.Sorted.{unmapped}
use Rattle.reg_tables_schema.proofs.TableMatches.{matches_all}

abbrev pub first : ℕ → Query
first tree = record {
  from = inner tree end;
  filter = [];
  group = None;
  project = col 1 0 ∷ [];
  distinct = false;
  collations = [];
  order = (col 1 0, ascending Binary) ∷ [];
  limit = lit (Int (pos 1));
  offset = lit (Int (pos 0));
}

pub first_of : (db : Trees) (tree : ℕ) (rows : List Row) → IsSureAnswer (first tree) db [] rows → (ids : List Row) × IsInOrder (by_column 0) (db tree) (shows (0 ∷ [])) ids × (rows ≡ take 1 ids)
first_of db tree rows h =
    let q = first tree in
    let env = λ (r : Row). [] ∷ r ∷ [] in
    let out = λ (r : Row). output q (env r) in
    let a : IsAnswer q db [] rows = h Null in
    let images : a.kept ≡ map out (db tree) = a.distinct ∙ ap (map (output q)) (a.grouped ∙ matches_all db [] tree) ∙ maps_twice env (output q) (db tree) in
    let back = unmapped out (db tree) a.ordered (subst (λ xs. IsPermutation xs a.ordered) images a.same) in
    let sorted = IsSorted-from_map (output_cmp q) out back.0 (subst (IsSorted (output_cmp q)) back.2 a.sorted) in
    let in_order : IsInOrder (by_column 0) (db tree) (shows (0 ∷ [])) (map (shows (0 ∷ [])) back.0) = record {
      ordered = back.0;
      same = back.1;
      sorted = λ k d low high. ap is_lt (sym (then_equal (value_cmp (column (get_or back.0 (k + 1) d) 0) (column (get_or back.0 k d) 0)))) ∙ sorted k d low high;
      shown = refl;
    } in
    (map (shows (0 ∷ [])) back.0, in_order, a.shown ∙ ap (take 1) (ap (map (λ (o : Output). o.1)) back.2 ∙ maps_twice out (λ (o : Output). o.1) back.0))
