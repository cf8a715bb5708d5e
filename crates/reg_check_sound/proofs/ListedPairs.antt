-- The pairs that are read are those of the registry.
use Rattle.reg_check_sound.proofs.Words.{IsPermutation-map, IsPermutation-sym, IsPermutation-trans, owner_cmp, IsInOrder, by_columns}
use Rattle.reg_check_sound.proofs.Words.{columns_of_pair, Pair, StandPairs, columns_of_stored, StoredCrate, StoredPair}
use Rattle.reg_check_sound.proofs.Common.{◌≡◌, [], ◌∷◌, drop, heads, in_map, in_permuted, IsIn, IsPermutation, List, map, map_in, maps_twice, number_is, Row, shows, subst, tails}
use Rattle.std.specs.FinSet as finset
use Rattle.reg_check_sound.proofs.Shown.{shown_permutes, two_of_each}

module _ (crates : List StoredCrate) (held : finset.FinSet owner_cmp) (rows : List Row) (stands : StandPairs crates held rows) (list : List Pair) (found : IsInOrder (by_columns 1 2) rows (shows (1 ∷ 2 ∷ [])) (map columns_of_pair list)) where
  pairs_listed : IsPermutation (map columns_of_stored stands.pairs) (map columns_of_pair list)
  pairs_listed =
      let show = shows (0 ∷ 1 ∷ []) in
      let kept = IsPermutation-map show (map columns_of_stored stands.pairs) (map (drop 1) rows) stands.are in
      let read = subst (λ xs. IsPermutation xs (map columns_of_pair list)) (two_of_each rows) (shown_permutes (by_columns 1 2) rows (shows (1 ∷ 2 ∷ [])) (map columns_of_pair list) found) in
      subst (λ xs. IsPermutation xs (map columns_of_pair list)) (maps_twice columns_of_stored show stands.pairs) (IsPermutation-trans (map show (map columns_of_stored stands.pairs)) (map show (map (drop 1) rows)) (map columns_of_pair list) kept read)

  pub pair_in : (o : Pair) → IsIn o list → (p : StoredPair) × IsIn p stands.pairs × (p.0 ≡ o.crate_id) × (p.1 ≡ o.account)
  pair_in o i =
      let there = in_permuted (map columns_of_pair list) (map columns_of_stored stands.pairs) (columns_of_pair o) (IsPermutation-sym (map columns_of_stored stands.pairs) (map columns_of_pair list) pairs_listed) (in_map columns_of_pair list o i) in
      let p = map_in columns_of_stored stands.pairs (columns_of_pair o) there in
      (p.0, p.1, number_is (heads p.2), number_is (heads (tails p.2)))

  pub in_list : (p : StoredPair) → IsIn p stands.pairs → (o : Pair) × IsIn o list × (o.crate_id ≡ p.0) × (o.account ≡ p.1)
  in_list p i =
      let there = in_permuted (map columns_of_stored stands.pairs) (map columns_of_pair list) (columns_of_stored p) pairs_listed (in_map columns_of_stored stands.pairs p i) in
      let o = map_in columns_of_pair list (columns_of_stored p) there in
      (o.0, o.1, number_is (heads o.2), number_is (heads (tails o.2)))
