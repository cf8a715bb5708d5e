-- What the queries on a table of pairs answer, from what is computed of their texts.
use Rattle.reg_tables_sql.proofs.Words.{◌≡◌, ℕ, pos, Bool, List, [], ◌∷◌, codes, map, length, not, ◌==◌, refl, ap, subst, ◌∙◌, filter}
use Rattle.reg_tables_sql.proofs.Words.{flat_map, ordering_then, Int, Binary, ascending, Key, Row, column, binary, is_true, Term, col, op2}
use Rattle.reg_tables_sql.proofs.Words.{eval_all, Trees, Query, inner, end, matches, overlay, State, Compare, Eq, ours, IsInside, IsInOrder}
use Rattle.reg_tables_sql.proofs.Words.{by_column, by_columns, is_number, shows, all_ordered, plain, joined, same_filter, equals_int}
use Rattle.reg_tables_sql.proofs.Words.{IsSelection, selected, of_table, any_shown, in_order, then_equal, Account, Pair, account_columns}
use Rattle.reg_tables_sql.proofs.Words.{AreAccountsOf, ArePairs, IsPaired, columns_of_pair, is_pair, pair_columns}
use Rattle.std.specs.List.{list_any}
use Rattle.sqlite.specs.State.{Shown}
use Rattle.reg_tables_schema.proofs.Ordered.{shown_in_order}
use Rattle.reg_tables_sql.specs.Pairs.{accounts_in, is_of_pair}
use Rattle.reg_tables_sql.proofs.PairTexts.{pair_filter, pair_matches}

abbrev project : List Term
project = col 1 1 ∷ col 1 2 ∷ []

abbrev names : List (List ℕ)
names = codes "crate" ∷ codes "account" ∷ []

abbrev pair_query : ℕ → Query
pair_query tree = plain (inner tree end) pair_filter project

abbrev of_crate_filter : List Term
of_crate_filter = op2 (Compare Eq Binary) (col 2 0) (col 1 2) ∷ op2 (Compare Eq Binary) (col 1 1) (col 0 0) ∷ []

abbrev of_crate_project : List Term
of_crate_project = col 2 0 ∷ col 2 2 ∷ col 2 3 ∷ col 2 4 ∷ []

abbrev by_id : List (Term × Key)
by_id = (col 2 0, ascending Binary) ∷ []

abbrev of_crate_query : ℕ → Query
of_crate_query tree = in_order (inner tree (inner 1 end)) of_crate_filter of_crate_project by_id

abbrev of_crate_names : List (List ℕ)
of_crate_names = codes "id" ∷ codes "login" ∷ codes "name" ∷ codes "enabled" ∷ []

abbrev by_crate_and_account : List (Term × Key)
by_crate_and_account = (col 1 1, ascending Binary) ∷ (col 1 2, ascending Binary) ∷ []

abbrev listed_query : ℕ → Query
listed_query tree = in_order (inner tree end) [] project by_crate_and_account

-- what our schema makes of the three texts
pub record ArePairQueries (tree : ℕ) (pair_text of_crate_text listed_text : List ℕ) : Type 0 where
  pub pair_is : IsSelection ours pair_text (pair_query tree) names
  pub of_crate_is : IsSelection ours of_crate_text (of_crate_query tree) of_crate_names
  pub listed_is : IsSelection ours listed_text (listed_query tree) names
  pub seen : (db : Trees) → overlay db [] tree ≡ db tree

of_crate_rows : (db : Trees) (tree of_crate : ℕ)
    → map (eval_all of_crate_project) (matches db of_crate_filter (inner tree (inner 1 end)) ((Int (pos of_crate) ∷ []) ∷ [])) ≡ accounts_in tree of_crate db
of_crate_rows db tree of_crate =
    let params : Row = Int (pos of_crate) ∷ [] in
    let of_it = λ (o : Row). is_true (binary (Compare Eq Binary) (column o 1) (Int (pos of_crate))) in
    let all = joined is_of_pair of_it (λ (o a : Row). params ∷ o ∷ a ∷ []) (eval_all of_crate_project) (db tree) (db 1) in
    let test = same_filter of_it (is_number 1 of_crate) (λ o. equals_int (column o 1) (pos of_crate)) (db tree) in
    all ∙ ap (flat_map (λ o. map (shows (0 ∷ 2 ∷ 3 ∷ 4 ∷ [])) (filter (is_of_pair o) (db 1)))) test

module _ {tree : ℕ} {pair_text of_crate_text listed_text : List ℕ} (is : ArePairQueries tree pair_text of_crate_text listed_text) (old new : State) (at : IsInside old) where
  abbrev db : Trees
  db = overlay old.now.trees []

  pub paired : (of_crate account : ℕ) (rows : List Row) (there : Bool) → Shown pair_text (pair_columns of_crate account) old new rows → there ≡ not (length rows == 0)
      → IsPaired tree of_crate account old.now.trees there
  paired of_crate account rows there h none =
      let params = pair_columns of_crate account in
      none
      ∙ any_shown (is_pair of_crate account) (shows (1 ∷ 2 ∷ [])) _ rows
      (of_table db params tree pair_filter project rows (is_pair of_crate account) (pair_matches db tree of_crate account) (selected is.pair_is params old new rows at h))
      ∙ ap (list_any (is_pair of_crate account)) (is.seen old.now.trees)

  pub of_crate : (id : ℕ) (list : List Account) → Shown of_crate_text (Int (pos id) ∷ []) old new (map account_columns list) → AreAccountsOf tree id old.now.trees list
  of_crate id list h =
      let params : Row = Int (pos id) ∷ [] in
      let accounts = λ (pairs : List Row). flat_map (λ o. map (shows (0 ∷ 2 ∷ 3 ∷ 4 ∷ [])) (filter (is_of_pair o) (old.now.trees 1))) (filter (is_number 1 id) pairs) in
      subst (λ xs. IsInOrder (by_column 0) xs (λ row. row) (map account_columns list)) (of_crate_rows db tree id ∙ ap accounts (is.seen old.now.trees))
      (shown_in_order db params (inner tree (inner 1 end)) of_crate_filter of_crate_project by_id (map account_columns list) (λ row. column row 0 ∷ []) (by_column 0) (λ env. refl) (λ a b. then_equal (by_column 0 a b))
      (selected is.of_crate_is params old new (map account_columns list) at h))

  pub listed : (list : List Pair) → Shown listed_text [] old new (map columns_of_pair list) → ArePairs tree old.now.trees list
  listed list h =
      subst (λ rows. IsInOrder (by_columns 1 2) rows (shows (1 ∷ 2 ∷ [])) (map columns_of_pair list)) (is.seen old.now.trees)
      (all_ordered db tree project by_crate_and_account (map columns_of_pair list) (by_columns 1 2) (λ a b. ap (ordering_then (by_column 1 a b)) (then_equal (by_column 2 a b)))
      (selected is.listed_is [] old new (map columns_of_pair list) at h))
