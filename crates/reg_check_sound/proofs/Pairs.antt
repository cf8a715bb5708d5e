-- Owners and readers that pass stand for what is built from them, and so do the restricted crates.
use Rattle.reg_check_sound.proofs.Words.{AllByRecursion, list_any, and_parts, eqb-false, IsPermutation-sym, list_any-IsPermutation}
use Rattle.reg_check_sound.proofs.Words.{is_eq-slice_cmp, Value, all_weaker, all-permutation, all-map, all_from_map, owner_cmp, text_cmp}
use Rattle.reg_check_sound.proofs.Words.{owner_total, IsInOrder, by_column, by_columns, number_columns, columns_of_pair, Pair, HaveOwnRowids}
use Rattle.reg_check_sound.proofs.Words.{StandPairs, columns_of_stored, is_paired, row_of_crate, StoredCrate, StoredPair, same_bytes}
use Rattle.reg_check_sound.proofs.Words.{bytes_same, canon_from, pair_from, registry_from, AreUniqueBy, IsWhole, RefersTo, same_at}
use Rattle.reg_check_sound.proofs.Words.{same_value}
use Rattle.reg_check_sound.proofs.Common.{◌≡◌, ◌==◌, [], ◌∷◌, ◌∙◌, ◌&&◌, all_in, AllRows, any_in, ap, Bool, bytes_eq, canon, column, Crate, drop, each_in, entry_of_crate, eq_by_cmp, eqb-true, false, has_account, has_crate, in_all, in_each, Int, IsIn, IsPermutation, List, list_any_map, map, map_in, maps_twice, nat_list_cmp_total, not_true, pos, refl, Row, rowid, same_number, shows, string_bytes, subst, sym, Trees, true, ℕ}
use Rattle.std.specs.List.{IsDistinct}
use Rattle.std.specs.FinSet as finset
use Rattle.reg_model.specs.Registry.{Owner, Text}
use Rattle.reg_tables_represent.specs.Stands.{StandMarked}
use Rattle.reg_tables_represent.proofs.CrateLemmas.{same_owner, other_owner}
use Rattle.reg_tables_represent.proofs.Rowids.{first_column, second_column}
use Rattle.reg_check_sound.proofs.Crates.{crate_rows, name_of, one_crate}
use Rattle.reg_check_sound.proofs.Lists.{any_on}
use Rattle.reg_check_sound.proofs.Passing.{Passing, readers_there, restricted_there}
use Rattle.reg_check_sound.proofs.Shapes.{rows_from}
use Rattle.reg_check_sound.proofs.Shown.{shown_permutes}
use Rattle.reg_check_sound.proofs.Uniques.{distinct_map, distinct_so, pairs_so, same_at_flips}

told_pair : (r : Row) → IsWhole (0 ∷ 1 ∷ 2 ∷ []) r → shows (1 ∷ 2 ∷ []) r ≡ drop 1 r
told_pair r h = ap (drop 1) h

-- two pairs tie exactly where their texts and their accounts are one
tied_pairs : (c d : Text) (a b : ℕ) (same : Bool) → bytes_eq c d ≡ same → eq_by_cmp owner_cmp (c, a) (d, b) ≡ (same && b == a)
tied_pairs c d a b true e = ap (λ t. eq_by_cmp owner_cmp (c, a) (t, b)) (sym (same_bytes c d e)) ∙ same_owner c a b
tied_pairs c d a b false e = other_owner c d a b e

abbrev pub Refers : List Row → Value → Type 0
Refers parents v = list_any (λ p. same_value (rowid p) v) parents ≡ true

abbrev pub stored_of : Pair → StoredPair
stored_of o = (o.crate_id, o.account)

module _ (list : List Pair) (rows : List Row) (found : IsInOrder (by_columns 1 2) rows (shows (1 ∷ 2 ∷ [])) (map columns_of_pair list)) (whole : AllByRecursion (IsWhole (0 ∷ 1 ∷ 2 ∷ [])) rows) where
  pub pair_rows : IsPermutation (map columns_of_pair list) (map (drop 1) rows)
  pair_rows = rows_from (shows (1 ∷ 2 ∷ [])) (λ r. r) (drop 1) columns_of_pair (by_columns 1 2) rows list (all_weaker (IsWhole (0 ∷ 1 ∷ 2 ∷ [])) (λ r. shows (1 ∷ 2 ∷ []) r ≡ drop 1 r) told_pair rows whole) found

  -- what rows refer to, records do
  listed : (P : Row → Type 0) → AllByRecursion (λ r. P (drop 1 r)) rows → AllByRecursion (λ o. P (columns_of_pair o)) list
  listed P h = all_from_map P columns_of_pair list (all-permutation P (map (drop 1) rows) (map columns_of_pair list) (IsPermutation-sym (map columns_of_pair list) (map (drop 1) rows) pair_rows) (all-map P (drop 1) rows h))

  pub first_refers : (parents : List Row) → AllByRecursion (RefersTo parents 1) rows → AllByRecursion (λ o. Refers parents (Int (pos o.crate_id))) list
  first_refers parents h = listed (λ r. Refers parents (column r 0)) (all_weaker (RefersTo parents 1) (λ r. Refers parents (column (drop 1 r) 0)) (λ r k. subst (Refers parents) (first_column r) k) rows h)

  pub second_refers : (parents : List Row) → AllByRecursion (RefersTo parents 2) rows → AllByRecursion (λ o. Refers parents (Int (pos o.account))) list
  second_refers parents h = listed (λ r. Refers parents (column r 1)) (all_weaker (RefersTo parents 2) (λ r. Refers parents (column (drop 1 r) 1)) (λ r k. subst (Refers parents) (second_column r) k) rows h)

module _ (it : AllRows) (db : Trees) (h : Passing it db) where
  abbrev crates : List Crate
  crates = it.crates.items

  abbrev entries : List StoredCrate
  entries = map entry_of_crate crates

  -- of a crate that is there the canonical text is one with that of an id exactly where it has it
  same_id : (c : Crate) → IsIn c crates → (id : ℕ) → has_crate it id ≡ true → bytes_eq (canon (string_bytes c.name)) (canon_from it id) ≡ (id == c.id)
  same_id c i id there = go (id == c.id) refl
    where
      go : (b : Bool) → (id == c.id) ≡ b → bytes_eq (canon (string_bytes c.name)) (canon_from it id) ≡ b
      go true e = bytes_same (canon (string_bytes c.name)) (canon_from it id) (ap canon (sym (name_of it db h c id i (sym (eqb-true id c.id e)))))
      go false e = not_true _ (λ t.
          let d = any_in (λ (d : Crate). d.id == id) crates there in
          let is = eqb-true d.0.id id d.2 in
          let texts = same_bytes (canon (string_bytes c.name)) (canon_from it id) t ∙ ap canon (name_of it db h d.0 id d.1 is) in
          eqb-false id c.id e (sym is ∙ ap (λ (x : Crate). x.id) (sym (one_crate it db h c d.0 i d.1 texts))))

  -- a row that refers to a crate has the id of one
  pub refers_to_crate : (id : ℕ) → Refers (db 7) (Int (pos id)) → has_crate it id ≡ true
  refers_to_crate id refers =
      let test = λ (p : Row). same_value (rowid p) (Int (pos id)) in
      let same = list_any-IsPermutation test (map row_of_crate entries) (db 7) (crate_rows it db h) in
      let counted = list_any_map test row_of_crate entries ∙ list_any_map (λ c. test (row_of_crate c)) entry_of_crate crates ∙ any_on (λ c. test (row_of_crate (entry_of_crate c))) (λ c. c.id == id) crates (λ c i. same_number c.id id) in
      sym counted ∙ same ∙ refers

  entry_there : (id : ℕ) → has_crate it id ≡ true → list_any (λ c. c.0 == id) entries ≡ true
  entry_there id there = list_any_map (λ c. c.0 == id) entry_of_crate crates ∙ there

  module _ (list : List Pair) (rows : List Row) (found : IsInOrder (by_columns 1 2) rows (shows (1 ∷ 2 ∷ [])) (map columns_of_pair list)) (whole : AllByRecursion (IsWhole (0 ∷ 1 ∷ 2 ∷ [])) rows) (there : AllByRecursion (λ o. has_crate it o.crate_id ≡ true) list) where
    abbrev pairs : List StoredPair
    pairs = map stored_of list

    are : IsPermutation (map columns_of_stored pairs) (map (drop 1) rows)
    are = subst (λ xs. IsPermutation xs (map (drop 1) rows)) (sym (maps_twice stored_of columns_of_stored list)) (pair_rows list rows found whole)

    once : AreUniqueBy 1 2 rows → IsDistinct (λ a b. a.0 == b.0 && a.1 == b.1) pairs
    once unique =
        let dropped = distinct_so (λ a b. same_at 1 a b && same_at 2 a b) (λ a b. same_at 0 (drop 1 a) (drop 1 b) && same_at 1 (drop 1 a) (drop 1 b))
        (λ a b. λ i. same_value (first_column a i) (first_column b i) && same_value (second_column a i) (second_column b i)) rows unique in
        pairs_so columns_of_stored pairs (map (drop 1) rows) are (λ a b. same_at 0 a b && same_at 1 a b) (λ a b. a.0 == b.0 && a.1 == b.1) (same_at_flips 0 1)
        (λ a b. λ i. same_number a.0 b.0 i && same_number a.1 b.1 i) (distinct_map (λ a b. same_at 0 a b && same_at 1 a b) (drop 1) rows dropped)

    held : (c : Crate) → IsIn c crates → (account : ℕ) → finset.contains {R = owner_cmp} (finset.from_list (map (pair_from it) list)) (canon (string_bytes c.name), account) ≡ is_paired pairs c.id account
    held c i account =
        let q : Owner = (canon (string_bytes c.name), account) in
        finset.contains-from_list owner_total (map (pair_from it) list) q ∙ list_any_map (eq_by_cmp owner_cmp q) (pair_from it) list
        ∙ any_on (λ o. eq_by_cmp owner_cmp q (pair_from it o)) (λ o. o.crate_id == c.id && o.account == account) list (λ o j.
        tied_pairs (canon (string_bytes c.name)) (canon_from it o.crate_id) account o.account (o.crate_id == c.id) (same_id c i o.crate_id (each_in (λ o. has_crate it o.crate_id ≡ true) list o there j)))
        ∙ sym (list_any_map (λ o. o.0 == c.id && o.1 == account) stored_of list)

    pub pairs_stand : AreUniqueBy 1 2 rows → HaveOwnRowids rows → StandPairs entries (finset.from_list (map (pair_from it) list)) rows
    pairs_stand unique own = record {
      pairs = pairs;
      are = are;
      apart = own;
      of_crates = in_all (λ o. list_any (λ c. c.0 == o.0) entries) pairs (λ o j.
          let p = map_in stored_of list o j in
          subst (λ x. list_any (λ c. c.0 == x.0) entries ≡ true) p.2 (entry_there p.0.crate_id (each_in (λ o. has_crate it o.crate_id ≡ true) list p.0 there p.1)));
      once = once unique;
      same = in_each (λ c. (account : ℕ) → finset.contains {R = owner_cmp} (finset.from_list (map (pair_from it) list)) (canon c.1, account) ≡ is_paired pairs c.0 account) entries (λ e i.
          let c = map_in entry_of_crate crates e i in
          subst (λ x. (account : ℕ) → finset.contains {R = owner_cmp} (finset.from_list (map (pair_from it) list)) (canon x.1, account) ≡ is_paired pairs x.0 account) c.2 (held c.0 c.1));
    }

  pub owners_of_crates : AllByRecursion (λ o. has_crate it o.crate_id ≡ true) it.owners.items
  owners_of_crates = all_weaker (λ o. Refers (db 7) (Int (pos o.crate_id))) (λ o. has_crate it o.crate_id ≡ true) (λ o k. refers_to_crate o.crate_id k) it.owners.items
      (first_refers it.owners.items (db 9) h.are.owners h.rules.columns.owners (db 7) h.rules.parents.owner_crates)

  pub owners_stand : StandPairs entries (registry_from it db).owners (db 9)
  owners_stand = pairs_stand it.owners.items (db 9) h.are.owners h.rules.columns.owners owners_of_crates h.rules.uniques.owners h.are.apart.owners

  pub readers_of_crates : AllByRecursion (λ o. has_crate it o.crate_id ≡ true) it.readers.items
  readers_of_crates = in_each (λ o. has_crate it o.crate_id ≡ true) it.readers.items (λ o i.
      (and_parts (has_crate it o.crate_id) (has_account it o.account) (all_in (λ o. has_crate it o.crate_id && has_account it o.account) it.readers.items o (readers_there it db h) i)).0)

  pub readers_stand : StandPairs entries (registry_from it db).readers (db 18)
  readers_stand = pairs_stand it.readers.items (db 18) h.are.readers h.rules.columns.readers readers_of_crates h.rules.uniques.readers h.are.apart.readers

  marked : (c : Crate) → IsIn c crates → finset.contains (registry_from it db).restricted (canon (string_bytes c.name)) ≡ list_any (λ i. i == c.id) it.restricted.items
  marked c i =
      let q = canon (string_bytes c.name) in
      let marks = it.restricted.items in
      finset.contains-from_list nat_list_cmp_total (map (canon_from it) marks) q ∙ list_any_map (eq_by_cmp text_cmp q) (canon_from it) marks
      ∙ any_on (λ id. eq_by_cmp text_cmp q (canon_from it id)) (λ id. id == c.id) marks (λ id j. is_eq-slice_cmp q (canon_from it id) ∙ same_id c i id (all_in (has_crate it) marks id (restricted_there it db h) j))

  pub restricted_stands : StandMarked entries (registry_from it db).restricted (db 17)
  restricted_stands =
      let marks = it.restricted.items in
      let show = shows (0 ∷ []) in
      record {
        marks = marks;
        are = IsPermutation-sym (map show (db 17)) (map number_columns marks) (shown_permutes (by_column 0) (db 17) show (map number_columns marks) h.are.restricted);
        of_crates = in_all (λ id. list_any (λ c. c.0 == id) entries) marks (λ id i. entry_there id (all_in (has_crate it) marks id (restricted_there it db h) i));
        same = in_each (λ c. finset.contains (registry_from it db).restricted (canon c.1) ≡ list_any (λ i. i == c.0) marks) entries (λ e i.
            let c = map_in entry_of_crate crates e i in
            subst (λ x. finset.contains (registry_from it db).restricted (canon x.1) ≡ list_any (λ i. i == x.0) marks) c.2 (marked c.0 c.1));
      }
