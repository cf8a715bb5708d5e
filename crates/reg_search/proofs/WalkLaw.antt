-- The walk answers each crate once, in the order of the canonical texts, and its hits are the matches.
use Rattle.reg_search.proofs.Words.{◌≡◌, ◌==◌, ℕ, Bool, true, false, ◌&&◌, not, List, [], ◌∷◌, map, length, take, Some, refl, sym, ap}
use Rattle.reg_search.proofs.Words.{subst, ◌∙◌, AllByRecursion, filter, list_any, IsPermutation, on, bytes_eq, nat_list_eq_equiv}
use Rattle.reg_search.proofs.Words.{length-map, IsPermutation-trans, list_any-IsPermutation, Row, overlay, IsSureAnswer, eval_all, Trees}
use Rattle.reg_search.proofs.Words.{canon, sees, Registry, occurs, any_same, list_any_map, IsIn, each_in, in_each, maps_twice, crate_has}
use Rattle.reg_search.proofs.Words.{StandsSoundBy, IdAssignment, StoredCrate, row_of_crate, AreHits, AreIdsOf, Hides, id_of, is_hit, is_unseen, Hits}
use Rattle.std.specs.Ordering.{eq_by_cmp, is_gt}
use Rattle.std.proofs.lemmas.List.{take-map}
use Rattle.std.proofs.lemmas.List.Sorted.{IsPermutation-sym}
use Rattle.std.proofs.lemmas.Map.Keys.{IsDistinct-IsPermutation}
use Rattle.sqlite_exec.proofs.PartitionLemmas.{ascending_from_sorted}
use Rattle.sqlite_trees.specs.Tree.{IsAscending}
use Rattle.sqlite_trees.proofs.ListLemmas.{ascending_from_map, pull_back}
use Rattle.reg_model.specs.Crates.{canons}
use Rattle.reg_model.specs.Registry.{Text as Words, text_cmp}
use Rattle.reg_model.specs.Search.{matches}
use Rattle.reg_model.proofs.Canons.{filter_in, key_there, text_agrees}
use Rattle.reg_model.proofs.Members.{in_permuted}
use Rattle.reg_tables_schema.proofs.Ordered.{all_ordered}
use Rattle.reg_tables_schema.proofs.Permutes.{filter_map}
use Rattle.reg_tables_schema.proofs.Sorted.{then_equal}
use Rattle.reg_tables_schema.specs.Rows.{IsInOrder, by_column}
use Rattle.reg_tables_represent.proofs.AllCrates.{canons_rise}
use Rattle.reg_tables_represent.proofs.Selected.{column_total}
use Rattle.reg_search.specs.Rows.{row_of}
use Rattle.reg_search.proofs.Lists.{each_passes, each_taken}
use Rattle.reg_model.proofs.CanonLists.{all_canons}
use Rattle.reg_search.proofs.Texts.{walk_query}

abbrev canon_of : StoredCrate → Words
canon_of x = canon x.1

module _ (ids : IdAssignment) (s : Registry) (db : Trees) (h : StandsSoundBy ids s db) where
  -- the crates in the order of the walk
  pub record Walked (rows : List Row) : Type 0 where
    pub crates : List StoredCrate
    pub shown : rows ≡ map row_of crates
    pub named : map canon_of crates ≡ canons s
    pub there : AllByRecursion (λ x. IsIn x ids.crates) crates

  members : (zs : List StoredCrate) → IsPermutation ids.crates zs → (q : Words) → list_any (eq_by_cmp text_cmp q) (map canon_of zs) ≡ list_any (eq_by_cmp text_cmp q) (canons s)
  members zs same q =
      list_any_map (eq_by_cmp text_cmp q) canon_of zs
      ∙ sym (list_any-IsPermutation (λ x. eq_by_cmp text_cmp q (canon_of x)) ids.crates zs same)
      ∙ any_same _ _ (λ x. sym (text_agrees q (canon_of x))) ids.crates ∙ crate_has ids s.publications s.yanked db h.stands.crates q ∙ sym (key_there s q)

  pub walked : (rows : List Row) → IsSureAnswer walk_query (overlay db []) [] rows → Walked rows
  walked rows answer =
      let show = λ (r : Row). eval_all walk_query.project ([] ∷ r ∷ []) in
      let found : IsInOrder (by_column 2) (db 7) show rows = all_ordered (overlay db []) 7 walk_query.project walk_query.order rows (by_column 2) (λ a b. then_equal (by_column 2 a b)) answer in
      let whole = IsPermutation-trans (map row_of_crate ids.crates) (db 7) found.ordered h.stands.crates.crate_rows found.same in
      let back = pull_back row_of_crate (map row_of_crate ids.crates) found.ordered whole ids.crates refl in
      let sorted = subst (IsAscending (λ a b. is_gt (by_column 2 a b) ≡ false)) back.2 (ascending_from_sorted (by_column 2) (column_total 2) found.ordered found.sorted) in
      let up = ascending_from_map (λ a b. is_gt (by_column 2 a b) ≡ false) row_of_crate back.0 sorted in
      let apart = IsDistinct-IsPermutation (on canon_of bytes_eq) (λ (x : StoredCrate) (y : StoredCrate). nat_list_eq_equiv.symm (canon x.1) (canon y.1)) ids.crates back.0 back.1 h.stands.crates.canons in
      record {
        crates = back.0;
        shown = found.shown ∙ ap (map show) back.2 ∙ maps_twice row_of_crate show back.0;
        named = all_canons s (map canon_of back.0) (canons_rise back.0 up apart) (members back.0 back.1);
        there = in_each (λ x. IsIn x ids.crates) back.0 (λ x i. in_permuted back.0 ids.crates x (IsPermutation-sym ids.crates back.0 back.1) i);
      }

  module _ (viewer : ℕ) (q : Words) (hidden : List ℕ) (hides : Hides viewer (canon q) ids s hidden) (rows : List Row) (all : Walked rows) where
    abbrev is_matched : Words → Bool
    is_matched c = sees s (Some viewer) c && occurs (canon q) c

    -- a crate in whose text the needle stands is a hit where it is seen
    judged : (x : StoredCrate) → IsIn x all.crates → is_hit (canon q) hidden (row_of x) ≡ is_matched (canon_of x)
    judged x i =
        let seen = each_in (λ c. list_any (λ n. n == c.0) hidden ≡ is_unseen viewer (canon q) s c) ids.crates x hides (each_in (λ c. IsIn c ids.crates) all.crates x all.there i) in
        ap (λ b. occurs (canon q) (canon_of x) && not b) seen ∙ swapped (occurs (canon q) (canon_of x)) (sees s (Some viewer) (canon_of x))
      where
        swapped : (a b : Bool) → (a && not (a && not b)) ≡ (b && a)
        swapped true true = refl
        swapped true false = refl
        swapped false true = refl
        swapped false false = refl

    -- the crates that match
    abbrev matched : List StoredCrate
    matched = filter (λ x. is_matched (canon_of x)) all.crates

    hit_rows : filter (is_hit (canon q) hidden) rows ≡ map row_of matched
    hit_rows = ap (filter (is_hit (canon q) hidden)) all.shown ∙ filter_map row_of (is_hit (canon q) hidden) all.crates ∙ ap (map row_of) (filter_in _ _ all.crates judged)

    texts : map canon_of matched ≡ matches s (Some viewer) q
    unfolding matches
    texts = sym (filter_map canon_of is_matched all.crates) ∙ ap (filter is_matched) all.named

    module _ (most : ℕ) (hits : Hits) (are : AreHits (canon q) hidden most rows hits) where
      pub total : hits.total ≡ length (matches s (Some viewer) q)
      total = are.total ∙ ap length hit_rows ∙ length-map matched row_of ∙ sym (length-map matched canon_of) ∙ ap length texts

      pub first : AreIdsOf ids hits.ids.items (take most (matches s (Some viewer) q))
      first = record {
        crates = take most matched;
        numbered = are.first ∙ ap (λ l. map id_of (take most l)) hit_rows ∙ ap (map id_of) (take-map row_of most matched) ∙ maps_twice row_of id_of (take most matched);
        named = ap (take most) (sym texts) ∙ take-map canon_of most matched;
        there = each_taken (λ x. IsIn x ids.crates) most matched (each_passes (λ x. IsIn x ids.crates) (λ x. is_matched (canon_of x)) all.crates all.there);
      }
