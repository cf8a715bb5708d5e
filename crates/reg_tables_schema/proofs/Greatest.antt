-- What `SELECT id FROM .. ORDER BY id DESC LIMIT 1` answers, of any table.
use Rattle.reg_tables_schema.proofs.Words.{◌≡◌, ℕ, ◌+◌, pos, List, [], ◌∷◌, map, take, true, false, None, get_or, refl, sym, ap, subst, ◌∙◌}
use Rattle.reg_tables_schema.proofs.Words.{IsPermutation, IsSorted, is_lt, IsSorted-from_map, Binary, Null, Int, Row, column, Trees, lit}
use Rattle.reg_tables_schema.proofs.Words.{col, Query, inner, end, IsSureAnswer, IsAnswer, output, output_cmp, Output}
use Rattle.sqlite.specs.Order.{value_cmp}
use Rattle.reg_tables_schema.proofs.Queries.{maps_twice}
use Rattle.reg_tables_schema.proofs.Sorted.{unmapped, then_equal}
use Rattle.reg_tables_schema.specs.Greatest.{IsGreatest}
use Rattle.reg_tables_schema.specs.Tests.{shows}
use Rattle.reg_tables_schema.proofs.TableMatches.{matches_all}

abbrev pub greatest : ℕ → Query
greatest tree = record {
  from = inner tree end;
  filter = [];
  group = None;
  project = col 1 0 ∷ [];
  distinct = false;
  collations = [];
  order = (col 1 0, record { collation = Binary; descending = true }) ∷ [];
  limit = lit (Int (pos 1));
  offset = lit (Int (pos 0));
}

first_of : {A B : Type 0} (f : A → B) (xs : List A) → take 1 (map f xs) ≡ map f (take 1 xs)
first_of f [] = refl
first_of f (x ∷ xs) = refl

pub greatest_of : (db : Trees) (tree : ℕ) (rows : List Row) → IsSureAnswer (greatest tree) db [] rows → IsGreatest (db tree) rows
greatest_of db tree rows h =
    let q = greatest tree in
    let env = λ (r : Row). [] ∷ r ∷ [] in
    let out = λ (r : Row). output q (env r) in
    let a : IsAnswer q db [] rows = h Null in
    let images : a.kept ≡ map out (db tree) = a.distinct ∙ ap (map (output q)) (a.grouped ∙ matches_all db [] tree) ∙ maps_twice env (output q) (db tree) in
    let back = unmapped out (db tree) a.ordered (subst (λ xs. IsPermutation xs a.ordered) images a.same) in
    let sorted = IsSorted-from_map (output_cmp q) out back.0 (subst (IsSorted (output_cmp q)) back.2 a.sorted) in
    record {
      ordered = back.0;
      same = back.1;
      sorted = λ k d low high. ap is_lt (sym (then_equal (value_cmp (column (get_or back.0 k d) 0) (column (get_or back.0 (k + 1) d) 0)))) ∙ sorted k d low high;
      shown = a.shown ∙ ap (take 1) (ap (map (λ (o : Output). o.1)) back.2 ∙ maps_twice out (λ (o : Output). o.1) back.0) ∙ first_of (shows (0 ∷ [])) back.0;
    }
