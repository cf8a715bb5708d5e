-- What a change of the rows of a relation is on the relation that they stand for.
use Rattle.reg_tables_represent.proofs.Words.{◌≡◌, ◌==◌, ℕ, pos, List, [], ◌∷◌, map, Bool, true, false, ◌||◌, ◌&&◌, not, refl, sym, ap, subst}
use Rattle.reg_tables_represent.proofs.Words.{◌∙◌, ℤ, None, is_eq, nat_cmp, ordering_then, on, IsEquivalence, and_from, and_parts, eqb-true}
use Rattle.reg_tables_represent.proofs.Words.{or_parts, and_left, eq-eqb, any-filter_same, insert_again, owner_total, owner_apart}
use Rattle.reg_tables_represent.proofs.Words.{StoredCrate, StoredPair, columns_of_stored, StandCrates, IdAssignment, is_paired, StandPairs}
use Rattle.reg_tables_represent.proofs.Words.{spelling_at, is_owner, IsIn, each_in, in_any, in_all, all_in, in_filter, none_in, any_in}
use Rattle.reg_tables_represent.proofs.Common.{AllByRecursion, any_same, bytes_eq, canon, column, drop, filter, Int, is_eq-slice_cmp, is_taken, IsDistinct-cons, IsPermutation, list_any, mark_cmp, nat_eq, nat_list_eq_equiv, not_true, owner_cmp, owner_columns, Publication, put_row, Row, same_filter, Trees, true_not_false, value_cmp}
use Rattle.std.specs.Ordering.{eq_by_cmp}
use Rattle.std.specs.declared.cmp.Ordering.{Ordering}
use Rattle.std.specs.declared.cmp.Ordering.TheVariants.{Less, Equal, Greater}
use Rattle.std.specs.FinSet as finset
use Rattle.std.proofs.lemmas.Cmp.{nat_eq_equiv}
use Rattle.reg_model.proofs.Alike.{alike}
use Rattle.reg_tables_represent.proofs.CrateLemmas.{apart_by, same_nat, not_at}
use Rattle.reg_tables_represent.proofs.Removed.{apart_kept, own_kept}
use Rattle.reg_tables_represent.proofs.Rowids.{first_column, second_column, own_put, any_columns, put_columns, keep_columns}
use Rattle.reg_tables_represent.proofs.Standing.{same_number}

-- the test of a row, as one of its columns
abbrev has_pair : ℕ → ℕ → Row → Bool
has_pair id account columns = is_eq (value_cmp (column columns 0) (Int (pos id))) && is_eq (value_cmp (column columns 1) (Int (pos account)))

behind : (id account : ℕ) (r : Row) → is_owner id account r ≡ has_pair id account (drop 1 r)
behind id account r = rw (first_column r, second_column r) refl

abbrev is_pair : ℕ → ℕ → StoredPair → Bool
is_pair id account o = o.0 == id && o.1 == account

pair_columns : (id account : ℕ) (o : StoredPair) → has_pair id account (columns_of_stored o) ≡ is_pair id account o
pair_columns id account o = rw (same_number o.0 id, same_number o.1 account) refl

same_pair : (a b : Ordering) → is_eq (ordering_then a b) ≡ (is_eq a && is_eq b)
same_pair Less b = refl
same_pair Equal b = refl
same_pair Greater b = refl

ids_same : IsEquivalence (on (λ (c : StoredCrate). c.0) nat_eq)
ids_same = record { refl = λ c. nat_eq_equiv.refl c.0; symm = λ c d. nat_eq_equiv.symm c.0 d.0; congr = λ c d e. nat_eq_equiv.congr c.0 d.0 e.0 }

canons_same : IsEquivalence (on (λ (c : StoredCrate). canon c.1) bytes_eq)
canons_same = record { refl = λ c. nat_list_eq_equiv.refl (canon c.1); symm = λ c d. nat_list_eq_equiv.symm (canon c.1) (canon d.1); congr = λ c d e. nat_list_eq_equiv.congr (canon c.1) (canon d.1) (canon e.1) }

-- The rows of one relation, and a crate that is there.
module _ (ids : IdAssignment) (publications : List Publication) (yanked : finset.FinSet mark_cmp) (db : Trees) (stands : StandCrates ids publications yanked db) (held : finset.FinSet owner_cmp) (id : ℕ) (name : List ℕ) (there : IsIn (id, name) ids.crates) where
  -- of the crates that are there, one has its id and its canonical text
  pub crates_alike : AllByRecursion (λ c. bytes_eq (canon c.1) (canon name) ≡ (c.0 == id)) ids.crates
  crates_alike = alike (on (λ (c : StoredCrate). canon c.1) bytes_eq) (on (λ (c : StoredCrate). c.0) nat_eq) canons_same ids_same (id, name) ids.crates there stands.canons (apart_by (λ c. c.0) ids.crates stands.up)

  module _ (account : ℕ) where
    -- the keys of the set that are tied to the pair are those of its crate
    same_key : (c : StoredCrate) (a : ℕ) → bytes_eq (canon c.1) (canon name) ≡ (c.0 == id) → eq_by_cmp owner_cmp (canon c.1, a) (canon name, account) ≡ is_pair c.0 a (id, account)
    same_key c a same =
        same_pair _ (nat_cmp a account) ∙ ap (λ b. b && is_eq (nat_cmp a account)) (is_eq-slice_cmp (canon c.1) (canon name) ∙ same ∙ nat_eq_equiv.symm c.0 id) ∙ ap (λ b. (id == c.0) && b) (same_nat a account ∙ nat_eq_equiv.symm a account)

    none_paired : (os : List StoredPair) → is_paired os id account ≡ false → AllByRecursion (λ o. (id == o.0 && account == o.1) ≡ false) os
    none_paired [] h = tt
    none_paired (o ∷ os) h =
        let parts = or_parts _ _ h in
        (rw (nat_eq_equiv.symm id o.0, nat_eq_equiv.symm account o.1) parts.0, none_paired os parts.1)

    more_paired : (os : List StoredPair) (cs : List StoredCrate) → AllByRecursion (λ c. bytes_eq (canon c.1) (canon name) ≡ (c.0 == id)) cs → AllByRecursion (λ c. (a : ℕ) → finset.contains held (canon c.1, a) ≡ is_paired os c.0 a) cs
        → AllByRecursion (λ c. (a : ℕ) → finset.contains (finset.insert held (canon name, account)) (canon c.1, a) ≡ is_paired ((id, account) ∷ os) c.0 a) cs
    more_paired os [] same owned = tt
    more_paired os (c ∷ cs) same owned =
        (λ a. finset.contains-insert owner_total held (canon name, account) (canon c.1, a) ∙ ap (λ b. b || finset.contains held (canon c.1, a)) (same_key c a same.0) ∙ ap (λ b. is_pair c.0 a (id, account) || b) (owned.0 a), more_paired os cs same.1 owned.1)

    less_paired : (os : List StoredPair) (cs : List StoredCrate) → AllByRecursion (λ c. bytes_eq (canon c.1) (canon name) ≡ (c.0 == id)) cs → AllByRecursion (λ c. (a : ℕ) → finset.contains held (canon c.1, a) ≡ is_paired os c.0 a) cs
        → AllByRecursion (λ c. (a : ℕ) → finset.contains (finset.remove held (canon name, account)) (canon c.1, a) ≡ is_paired (filter (λ o. not (is_pair id account o)) os) c.0 a) cs
    less_paired os [] same owned = tt
    less_paired os (c ∷ cs) same owned = (
      λ a. finset.contains-remove owner_total held (canon name, account) (canon c.1, a) ∙ ap (λ b. not b && finset.contains held (canon c.1, a)) (same_key c a same.0) ∙ ap (λ b. not (is_pair c.0 a (id, account)) && b) (owned.0 a)
          ∙ sym (any-filter_same (is_pair c.0 a) (λ o. not (is_pair id account o)) (not (is_pair c.0 a (id, account))) (λ o h. ap not (turned c.0 a o h)) os),
      less_paired os cs same.1 owned.1,
    )
      where
        turned : (n a : ℕ) (o : StoredPair) → is_pair n a o ≡ true → is_pair id account o ≡ is_pair n a (id, account)
        turned n a o h =
            let parts = and_parts (o.0 == n) (o.1 == a) h in
            ap (λ k. k == id && o.1 == account) (eqb-true o.0 n parts.0) ∙ ap (λ k. n == id && k == account) (eqb-true o.1 a parts.1) ∙ rw (nat_eq_equiv.symm n id, nat_eq_equiv.symm a account) refl

    module _ (rows : List Row) (pairs : StandPairs ids.crates held rows) where
      pub is_there : list_any (is_owner id account) rows ≡ finset.contains held (canon name, account)
      is_there =
          any_columns columns_of_stored pairs.pairs rows pairs.are (is_owner id account) (has_pair id account) (behind id account) ∙ any_same (λ o. has_pair id account (columns_of_stored o)) (is_pair id account) (pair_columns id account) pairs.pairs
          ∙ sym (each_in (λ c. (account : ℕ) → finset.contains held (canon c.1, account) ≡ is_paired pairs.pairs c.0 account) ids.crates (id, name) pairs.same there account)

      pub adds_pair : finset.contains held (canon name, account) ≡ false → (rowid : ℤ) → is_taken rows (Int rowid ∷ owner_columns id account) ≡ false
          → StandPairs ids.crates (finset.insert held (canon name, account)) (put_row (Int rowid ∷ owner_columns id account) rows)
      adds_pair absent rowid free =
          let o : StoredPair = (id, account) in
          let none : is_paired pairs.pairs id account ≡ false = sym (each_in (λ c. (a : ℕ) → finset.contains held (canon c.1, a) ≡ is_paired pairs.pairs c.0 a) ids.crates (id, name) pairs.same there account) ∙ absent in
          record {
            pairs = o ∷ pairs.pairs;
            are = put_columns columns_of_stored pairs.pairs rows pairs.are o rowid free;
            apart = own_put rowid (columns_of_stored o) rows free pairs.apart;
            of_crates = and_from _ _ (in_any (λ c. c.0 == id) ids.crates (id, name) there (nat_eq_equiv.refl id)) pairs.of_crates;
            once = IsDistinct-cons (λ a b. a.0 == b.0 && a.1 == b.1) o pairs.pairs (none_paired pairs.pairs none) pairs.once;
            same = more_paired pairs.pairs ids.crates crates_alike pairs.same;
          }

      pub removes_pair : StandPairs ids.crates (finset.remove held (canon name, account)) (filter (λ r. not (is_owner id account r)) rows)
      removes_pair =
          let stays : StoredPair → Bool = λ o. not (is_pair id account o) in
          let kept = keep_columns columns_of_stored pairs.pairs rows pairs.are (λ r. not (is_owner id account r)) (λ columns. not (has_pair id account columns)) (λ r. ap not (behind id account r)) in
          let same = same_filter (λ o. not (has_pair id account (columns_of_stored o))) stays (λ o. ap not (pair_columns id account o)) pairs.pairs in
          record {
            pairs = filter stays pairs.pairs;
            are = subst (λ os. IsPermutation (map columns_of_stored os) (map (drop 1) (filter (λ r. not (is_owner id account r)) rows))) same kept;
            apart = own_kept (λ r. not (is_owner id account r)) rows pairs.apart;
            of_crates = in_all (λ o. list_any (λ c. c.0 == o.0) ids.crates) (filter stays pairs.pairs) (λ o i. all_in (λ o. list_any (λ c. c.0 == o.0) ids.crates) pairs.pairs o pairs.of_crates (in_filter stays pairs.pairs o i));
            once = apart_kept (λ a b. a.0 == b.0 && a.1 == b.1) stays pairs.pairs pairs.once;
            same = less_paired pairs.pairs ids.crates crates_alike pairs.same;
          }

-- Of a crate that is not there, there is no pair.
module _ (ids : IdAssignment) (held : finset.FinSet owner_cmp) (rows : List Row) (pairs : StandPairs ids.crates held rows) (id : ℕ) (none : spelling_at ids id ≡ None) where
  pub other_pair : (o : StoredPair) → IsIn o pairs.pairs → (o.0 == id) ≡ false
  other_pair o i = not_true _ (λ e.
      let c = any_in (λ c. c.0 == o.0) ids.crates (all_in (λ o. list_any (λ c. c.0 == o.0) ids.crates) pairs.pairs o pairs.of_crates i) in
      true_not_false _ (in_any (λ c. c.0 == id) ids.crates c.0 c.1 (eq-eqb c.0.0 id (eqb-true c.0.0 o.0 c.2 ∙ eqb-true o.0 id e))) (not_at ids id none))

  pub none_passes : (account : ℕ) → list_any (is_owner id account) rows ≡ false
  none_passes account =
      any_columns columns_of_stored pairs.pairs rows pairs.are (is_owner id account) (has_pair id account) (behind id account) ∙ any_same (λ o. has_pair id account (columns_of_stored o)) (is_pair id account) (pair_columns id account) pairs.pairs
      ∙ none_in (is_pair id account) pairs.pairs (λ o i. and_left (o.0 == id) (o.1 == account) (other_pair o i))

-- a pair that is there already is not added
pub held_again : (held : finset.FinSet owner_cmp) (o : List ℕ × ℕ) → finset.contains held o ≡ true → held ≡ finset.insert held o
held_again held o there = sym (insert_again owner_total owner_apart held o there)
