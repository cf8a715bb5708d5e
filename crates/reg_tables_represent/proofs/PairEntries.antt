-- Accounts of a relation that a selection shows.
use Rattle.reg_tables_represent.proofs.Words.{told_of, filter, flat_map, list_any, enumerate_from, AllByRecursion, eqb-true, eq-eqb, and_left}
use Rattle.reg_tables_represent.proofs.Words.{IsDistinct-cons, IsDistinct-head, IsDistinct-tail, IsPermutation-filter, IsPermutation-flat_map}
use Rattle.reg_tables_represent.proofs.Words.{IsPermutation-flat_map_each, flat_map-map, Account, owner_cmp, equals_int, maps_twice}
use Rattle.reg_tables_represent.proofs.Words.{same_filter, entry_of_account, account_columns, StoredPair, row_of_account, columns_of_stored}
use Rattle.reg_tables_represent.proofs.Words.{StandAccounts, StoredCrate, IdAssignment, StandPairs, is_paired, spelling_at, nat_eq_equiv}
use Rattle.reg_tables_represent.proofs.PairChanges.{other_pair}
use Rattle.reg_tables_represent.proofs.Common.{◌≡◌, ◌==◌, [], ◌∷◌, ◌&&◌, ◌∙◌, ap, Bool, by_column, canon, column, cond, drop, each_in, false, filter_map, Int, is_eq, is_number, IsAscending, IsInOrder, IsPermutation, IsPermutation-map, IsPermutation-sym, IsPermutation-trans, Less, List, map, None, none_in, none_pass, Option, Option, pos, refl, Row, shows, Some, Some, subst, sym, Trees, true, value_cmp, ℕ}
use Rattle.std.specs.FinSet as finset
use Rattle.std.specs.List.{IsDistinct}
use Rattle.sqlite.specs.Collation.TheVariants.{Binary}
use Rattle.sqlite_keyed.proofs.ListLemmas.{ascending-map, ascending-filter, ascending_from_map}
use Rattle.sqlite_schema.specs.Rules.{equal}
use Rattle.sqlite_trees.proofs.ListLemmas.{map-flat_map, flat_map_same_on}
use Rattle.reg_model.proofs.Lists.{any_filter, any_same}
use Rattle.reg_tables_sql.specs.declared.accounts.Account as record_of
use Rattle.reg_tables_sql.specs.Owners.{is_of_owner}
use Rattle.reg_tables_sql.specs.Pairs.{accounts_in}
use Rattle.reg_tables_represent.proofs.AccountEntries.{heads, tails, mark_is, number_is, text_is, words_are}
use Rattle.reg_tables_represent.proofs.CrateLemmas.{there_at}
use Rattle.reg_tables_schema.proofs.Joined.{joined_once}
use Rattle.reg_tables_represent.proofs.Rowids.{first_column, second_column, keep_columns}
use Rattle.reg_tables_represent.proofs.Selected.{selected_in_order, column_total, places_rise}
use Rattle.reg_tables_represent.proofs.Standing.{same_number}

abbrev show : Row → Row
show = shows (0 ∷ 2 ∷ 3 ∷ 4 ∷ [])

abbrev shown : ℕ × Account → Row
shown e = show (row_of_account e)

same_owner : (e : ℕ × Account) (o : record_of.Account) → shown e ≡ account_columns o → e ≡ entry_of_account o
same_owner e o h =
    let id = number_is (heads h) in
    let login = words_are (heads (tails h)) in
    let name = text_is _ _ (heads (tails (tails h))) in
    let enabled = mark_is _ _ (heads (tails (tails (tails h)))) in
    λ i. (id i, record { login = login i; name = name i; enabled = enabled i })

abbrev same_pair : StoredPair → StoredPair → Bool
same_pair a b = a.0 == b.0 && a.1 == b.1

abbrev same_account : StoredPair → StoredPair → Bool
same_account a b = a.1 == b.1

one_crate : (a b id : ℕ) → (a == id) ≡ true → (b == id) ≡ true → (a == b) ≡ true
one_crate a b id e f = eq-eqb a b (eqb-true a id e ∙ sym (eqb-true b id f))

others_apart : (id : ℕ) (o : StoredPair) (os : List StoredPair) → (o.0 == id) ≡ true → AllByRecursion (λ b. same_pair o b ≡ false) os → AllByRecursion (λ b. same_account o b ≡ false) (filter (λ b. b.0 == id) os)
others_apart id o [] of_it all = tt
others_apart id o (b ∷ os) of_it all = split (b.0 == id) refl (others_apart id o os of_it all.1)
  where
    split : (c : Bool) → (b.0 == id) ≡ c → AllByRecursion (λ b. same_account o b ≡ false) (filter (λ b. b.0 == id) os) → AllByRecursion (λ b. same_account o b ≡ false) (cond c (b ∷ filter (λ b. b.0 == id) os) (filter (λ b. b.0 == id) os))
    split true e h = (rw (one_crate o.0 b.0 id of_it e) at all.0, h)
    split false e h = h

-- the owners of one crate are accounts apart
accounts_apart : (id : ℕ) (os : List StoredPair) → IsDistinct same_pair os → IsDistinct same_account (filter (λ o. o.0 == id) os)
unfolding IsDistinct
accounts_apart id [] d = tt
accounts_apart id (o ∷ os) d = split (o.0 == id) refl (accounts_apart id os (IsDistinct-tail same_pair o os d))
  where
    split : (c : Bool) → (o.0 == id) ≡ c → IsDistinct same_account (filter (λ o. o.0 == id) os) → IsDistinct same_account (cond c (o ∷ filter (λ o. o.0 == id) os) (filter (λ o. o.0 == id) os))
    split true e h = IsDistinct-cons same_account o _ (others_apart id o os e (IsDistinct-head same_pair o os d)) h
    split false e h = h

apart : (k l : StoredPair) (e : ℕ × Account) → same_account k l ≡ false → (e.0 == k.1) ≡ true → (e.0 == l.1) ≡ false
apart k l e differ is = ap (λ n. n == l.1) (eqb-true e.0 k.1 is) ∙ differ

module _ (accounts : List Account) (db : Trees) (stands : StandAccounts accounts db) where
  -- the accounts that are joined to the columns of an owner
  abbrev joins : Row → Row → Bool
  joins columns account = equal Binary (column account 0) (column columns 1)

  abbrev accounts_by : Row → List Row
  accounts_by columns = map show (filter (joins columns) (db 1))

  by_columns : (tree id : ℕ) → accounts_in tree id db ≡ flat_map accounts_by (map (drop 1) (filter (is_number 1 id) (db tree)))
  by_columns tree id =
      let rows = filter (is_number 1 id) (db tree) in
      flat_map_same_on (λ o. map show (filter (is_of_owner o) (db 1))) (λ o. accounts_by (drop 1 o)) (λ o. ap (λ v. map show (filter (λ a. equal Binary (column a 0) v) (db 1))) (second_column o)) rows
      ∙ sym (flat_map-map accounts_by (drop 1) rows)

  abbrev account_of : StoredPair → List (ℕ × Account)
  account_of o = filter (λ e. e.0 == o.1) (enumerate_from 1 accounts)

  of_owner : (o : StoredPair) → IsPermutation (map shown (account_of o)) (accounts_by (columns_of_stored o))
  of_owner o =
      let entries = enumerate_from 1 accounts in
      let test = joins (columns_of_stored o) in
      let kept = IsPermutation-filter test (map row_of_account entries) (db 1) stands.rows in
      let same = filter_map row_of_account test entries ∙ ap (map row_of_account) (same_filter (λ e. test (row_of_account e)) (λ e. e.0 == o.1) (λ e. equals_int (Int (pos e.0)) (pos o.1) ∙ same_number e.0 o.1) entries) in
      subst (λ ys. IsPermutation ys (accounts_by (columns_of_stored o))) (maps_twice row_of_account show (account_of o)) (IsPermutation-map show (map row_of_account (account_of o)) (filter test (db 1)) (subst (λ ys. IsPermutation ys (filter test (db 1))) same kept))

module _ (crates : List StoredCrate) (held : finset.FinSet owner_cmp) (accounts : List Account) (db : Trees) (tree : ℕ) (pairs : StandPairs crates held (db tree)) (stands : StandAccounts accounts db) (id : ℕ) where
  abbrev entries : List (ℕ × Account)
  entries = enumerate_from 1 accounts

  abbrev of_it : List StoredPair
  of_it = filter (λ o. o.0 == id) pairs.pairs

  abbrev owns_it : ℕ × Account → Bool
  owns_it e = is_paired pairs.pairs id e.0

  is_owner_of : (e : ℕ × Account) → list_any (λ o. e.0 == o.1) of_it ≡ owns_it e
  is_owner_of e =
      any_filter (λ o. o.0 == id) (λ o. e.0 == o.1) pairs.pairs ∙ any_same (λ o. o.0 == id && e.0 == o.1) (λ o. o.0 == id && o.1 == e.0) (λ o. ap (λ b. (o.0 == id) && b) (nat_eq_equiv.symm e.0 o.1)) pairs.pairs

  rows_of_it : IsPermutation (map columns_of_stored of_it) (map (drop 1) (filter (is_number 1 id) (db tree)))
  rows_of_it =
      let behind = λ (columns : Row). is_eq (value_cmp (column columns 0) (Int (pos id))) in
      let kept = keep_columns columns_of_stored pairs.pairs (db tree) pairs.are (is_number 1 id) behind (λ r. ap (λ v. is_eq (value_cmp v (Int (pos id)))) (first_column r)) in
      subst (λ os. IsPermutation (map columns_of_stored os) (map (drop 1) (filter (is_number 1 id) (db tree)))) (same_filter (λ o. behind (columns_of_stored o)) (λ o. o.0 == id) (λ o. same_number o.0 id) pairs.pairs) kept

  -- the rows of the accounts that own the crate
  owner_rows : IsPermutation (map shown (filter owns_it entries)) (accounts_in tree id db)
  owner_rows =
      let of = account_of accounts db stands in
      let by = accounts_by accounts db stands in
      let rows = filter (is_number 1 id) (db tree) in
      let listed = joined_once (λ o e. e.0 == o.1) same_account apart entries of_it (accounts_apart id pairs.pairs pairs.once) in
      let mine = subst (IsPermutation (flat_map of of_it)) (same_filter (λ e. list_any (λ o. e.0 == o.1) of_it) owns_it is_owner_of entries) listed in
      let first = IsPermutation-map shown _ _ (IsPermutation-sym (flat_map of of_it) (filter owns_it entries) mine) in
      let each_one = subst (λ xs. IsPermutation xs (flat_map (λ o. by (columns_of_stored o)) of_it)) (sym (map-flat_map shown of of_it)) (IsPermutation-flat_map_each (λ o. map shown (of o)) (λ o. by (columns_of_stored o)) (of_owner accounts db stands) of_it) in
      let joined = subst (λ xs. IsPermutation xs (flat_map by (map (drop 1) rows))) (flat_map-map by columns_of_stored of_it) (IsPermutation-flat_map by (map columns_of_stored of_it) (map (drop 1) rows) rows_of_it) in
      let all = IsPermutation-trans _ (map shown (flat_map of of_it)) _ first (IsPermutation-trans _ (flat_map (λ o. by (columns_of_stored o)) of_it) _ each_one joined) in
      subst (IsPermutation (map shown (filter owns_it entries))) (sym (by_columns accounts db stands tree id)) all

  rising : IsAscending (λ a b. by_column 0 a b ≡ Less) (map shown (filter owns_it entries))
  rising =
      let R = λ (a b : Row). by_column 0 a b ≡ Less in
      ascending-map R shown (filter owns_it entries) (ascending-filter (λ a b. R (shown a) (shown b)) owns_it entries (ascending_from_map R shown entries (places_rise shown (λ e. refl) 1 accounts)))

  listed : (list : List record_of.Account) → IsInOrder (by_column 0) (accounts_in tree id db) (λ row. row) (map account_columns list) → map entry_of_account list ≡ filter owns_it entries
  listed list h = selected_in_order shown (λ row. row) account_columns entry_of_account same_owner (by_column 0) (column_total 0) (filter owns_it entries) (accounts_in tree id db) list owner_rows rising h

-- the accounts of the crate with this id; none where there is no crate
pub lists_accounts_of : (ids : IdAssignment) (held : finset.FinSet owner_cmp) (accounts : List Account) (db : Trees) → StandAccounts accounts db → (tree : ℕ) → StandPairs ids.crates held (db tree) → (id : ℕ) (list : List record_of.Account) → IsInOrder (by_column 0) (accounts_in tree id db) (λ row. row) (map account_columns list)
    → map entry_of_account list ≡ told_of (spelling_at ids id) [] (λ name. filter (λ o. finset.contains held (canon name, o.0)) (enumerate_from 1 accounts))
lists_accounts_of ids held accounts db stands tree pairs id list h = split (spelling_at ids id) refl
  where
    entries : List (ℕ × Account)
    entries = enumerate_from 1 accounts

    split : (o : Option (List ℕ)) → spelling_at ids id ≡ o → map entry_of_account list ≡ told_of o [] (λ name. filter (λ o. finset.contains held (canon name, o.0)) (enumerate_from 1 accounts))
    split None none =
        listed ids.crates held accounts db tree pairs stands id list h
        ∙ none_pass (λ _ _. true) (λ (e : ℕ × Account). is_paired pairs.pairs id e.0) (enumerate_from 1 accounts) (λ e i. none_in (λ o. o.0 == id && o.1 == e.0) pairs.pairs (λ o k. and_left (o.0 == id) (o.1 == e.0) (other_pair ids held (db tree) pairs id none o k)))
    split (Some name) at =
        listed ids.crates held accounts db tree pairs stands id list h
        ∙ same_filter (λ (e : ℕ × Account). is_paired pairs.pairs id e.0) (λ e. finset.contains held (canon name, e.0)) (λ e. sym (each_in (λ c. (a : ℕ) → finset.contains held (canon c.1, a) ≡ is_paired pairs.pairs c.0 a) ids.crates (id, name) pairs.same (there_at ids id name at) e.0)) (enumerate_from 1 accounts)
