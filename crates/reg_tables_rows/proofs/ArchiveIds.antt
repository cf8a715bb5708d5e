-- Where the first id in the order of SQL is a number, no id is NULL.
use Rattle.reg_tables_rows.proofs.Words.{◌≡◌, ℕ, pos, List, [], ◌∷◌, map, take, false, Some, refl, sym, ap, ◌∙◌, IsPermutation-sym, Int}
use Rattle.reg_tables_rows.proofs.Words.{Row, Trees, rowid, all-permutation, by_column, shows, HaveIds}
use Rattle.std.proofs.Common.{Option, None}
use Rattle.std.specs.Ordering.{is_gt}
use Rattle.sqlite.specs.declared.types.Value.{Value}
use Rattle.sqlite.specs.declared.types.Value.TheVariants.{Null, Real, Text, Blob}
use Rattle.sqlite.specs.Order.{value_cmp}
use Rattle.sqlite_exec.proofs.PartitionLemmas.{ascending_from_sorted}
use Rattle.sqlite_sql.specs.Ops.{is_null}
use Rattle.sqlite_trees.specs.Tree.{IsAscending}
use Rattle.sqlite_trees.proofs.ListLemmas.{all_weaker}
use Rattle.reg_tables_schema.specs.Greatest.{row_of_id}
use Rattle.reg_tables_schema.specs.Rows.{number_columns}
use Rattle.reg_tables_sql.specs.Counts.{IsFirstId}
use Rattle.reg_tables_represent.proofs.Selected.{column_total}

not_below : (n : ℕ) (v : Value) → is_gt (value_cmp (Int (pos n)) v) ≡ false → is_null v ≡ false
unfolding value_cmp
not_below n Null h = absurd cc
not_below n (Int m) h = refl
not_below n (Real x) h = refl
not_below n (Text t) h = refl
not_below n (Blob b) h = refl

first_is : (n : ℕ) (r : Row) → ◌≡◌ {A = List Row} (number_columns n ∷ []) (shows (0 ∷ []) r ∷ []) → Int (pos n) ≡ rowid r
first_is n r h = cc

each_there : (id : Option ℕ) (rows : List Row) → IsAscending (λ a b. is_gt (by_column 0 a b) ≡ false) rows → row_of_id id ≡ take 1 (map (shows (0 ∷ [])) rows) → HaveIds rows
each_there id [] up h = tt
each_there None (r ∷ rows) up h = absurd cc
each_there (Some n) (r ∷ rows) up h =
    let is = first_is n r h in
    let above = λ (b : Row) (k : is_gt (by_column 0 r b) ≡ false). not_below n (rowid b) (ap (λ v. is_gt (value_cmp v (rowid b))) is ∙ k) in
    (ap is_null (sym is), all_weaker (λ b. is_gt (by_column 0 r b) ≡ false) (λ b. is_null (rowid b) ≡ false) above rows up.0)

pub ids_there : (tree : ℕ) (db : Trees) (id : Option ℕ) → IsFirstId tree db id → HaveIds (db tree)
ids_there tree db id h =
    let all = h.1 in
    let up = ascending_from_sorted (by_column 0) (column_total 0) all.ordered all.sorted in
    let there = each_there id all.ordered up (h.2 ∙ ap (take 1) all.shown) in
    all-permutation (λ r. is_null (rowid r) ≡ false) all.ordered (db tree) (IsPermutation-sym (db tree) all.ordered all.same) there
