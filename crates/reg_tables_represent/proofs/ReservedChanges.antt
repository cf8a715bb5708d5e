-- What a change of the rows is on the reserved names that they stand for.
use Rattle.reg_tables_represent.proofs.Words.{nat_list_cmp_total, any-filter_same, AddsColumns, Removes, insert_again, text_apart}
use Rattle.reg_tables_represent.proofs.Words.{reserved_columns, HaveOwnRowids, StandReserved, IdAssignment, StandsBy, is_text}
use Rattle.reg_tables_represent.proofs.Common.{◌≡◌, ◌∷◌, ◌||◌, ◌&&◌, ◌∙◌, any_same, ap, Bool, bytes_eq, column, drop, filter, is_eq, is_eq-slice_cmp, IsPermutation, List, list_any, map, not, Registry, Row, same_filter, State, subst, sym, text_cmp, Trees, true, value_cmp, ℕ}
use Rattle.std.specs.Cmp.Lexicographic.{nat_list_eq_equiv}
use Rattle.std.specs.FinSet as finset
use Rattle.sqlite.specs.declared.types.Value.TheVariants.{Text}
use Rattle.reg_tables_represent.proofs.AccountEntries.{same_text}
use Rattle.reg_tables_represent.proofs.Removed.{own_kept, removes_passing}
use Rattle.reg_tables_represent.proofs.Rowids.{first_column, own_put, any_columns, put_columns, keep_columns}

-- the test of a row, as one of its columns
abbrev has_canon : List ℕ → Row → Bool
has_canon c columns = is_eq (value_cmp (column columns 0) (Text c))

behind : (c : List ℕ) (r : Row) → is_text 1 c r ≡ has_canon c (drop 1 r)
behind c r = ap (λ v. is_eq (value_cmp v (Text c))) (first_column r)

module _ (reserved : finset.FinSet text_cmp) (c : List ℕ) where
  pub is_there : (db : Trees) → StandReserved reserved db → list_any (is_text 1 c) (db 14) ≡ finset.contains reserved c
  is_there db stands =
      any_columns reserved_columns stands.texts (db 14) stands.rows (is_text 1 c) (has_canon c) (behind c) ∙ any_same (λ t. has_canon c (reserved_columns t)) (λ t. bytes_eq t c) (λ t. same_text t c) stands.texts ∙ sym (stands.same c)

  pub adds_reserved : (old new : State) → StandReserved reserved old.now.trees → AddsColumns 14 (reserved_columns c) old new → StandReserved (finset.insert reserved c) new.now.trees
  adds_reserved old new stands (id, adds) =
      let rows = old.now.trees 14 in
      record {
        texts = c ∷ stands.texts;
        rows = subst (λ (rs : List Row). IsPermutation (map reserved_columns (c ∷ stands.texts)) (map (drop 1) rs)) (sym adds.becomes.rows_are) (put_columns reserved_columns stands.texts rows stands.rows c id adds.fresh);
        apart = subst HaveOwnRowids (sym adds.becomes.rows_are) (own_put id (reserved_columns c) rows adds.fresh stands.apart);
        same = λ q. finset.contains-insert nat_list_cmp_total reserved c q ∙ ap (λ b. b || finset.contains reserved q) (is_eq-slice_cmp q c ∙ nat_list_eq_equiv.symm q c) ∙ ap (λ b. bytes_eq c q || b) (stands.same q);
      }

  pub removes_reserved : (old new : State) → StandReserved reserved old.now.trees → Removes 14 (is_text 1 c) old new → StandReserved (finset.remove reserved c) new.now.trees
  removes_reserved old new stands removed =
      let rows = old.now.trees 14 in
      let left : new.now.trees 14 ≡ filter (λ r. not (is_text 1 c r)) rows = removed.rows_are ∙ removes_passing (is_text 1 c) rows stands.apart in
      let kept = keep_columns reserved_columns stands.texts rows stands.rows (λ r. not (is_text 1 c r)) (λ columns. not (has_canon c columns)) (λ r. ap not (behind c r)) in
      let texts = same_filter (λ t. not (has_canon c (reserved_columns t))) (λ t. not (bytes_eq t c)) (λ t. ap not (same_text t c)) stands.texts in
      record {
        texts = filter (λ t. not (bytes_eq t c)) stands.texts;
        rows = subst (λ (rs : List Row). IsPermutation (map reserved_columns (filter (λ t. not (bytes_eq t c)) stands.texts)) (map (drop 1) rs)) (sym left)
            (subst (λ ts. IsPermutation (map reserved_columns ts) (map (drop 1) (filter (λ r. not (is_text 1 c r)) rows))) texts kept);
        apart = subst HaveOwnRowids (sym left) (own_kept (λ r. not (is_text 1 c r)) rows stands.apart);
        same = λ q. finset.contains-remove nat_list_cmp_total reserved c q ∙ ap (λ b. not b && finset.contains reserved q) (is_eq-slice_cmp q c) ∙ ap (λ b. not (bytes_eq q c) && b) (stands.same q)
            ∙ sym (any-filter_same (λ t. bytes_eq t q) (λ t. not (bytes_eq t c)) (not (bytes_eq q c)) (λ t h. ap not (nat_list_eq_equiv.congr t q c h)) stands.texts);
      }

-- what is there already is not added
pub stays_reserved : (ids : IdAssignment) (s : Registry) (c : List ℕ) (db : Trees) → finset.contains s.reserved c ≡ true → StandsBy ids s db → StandsBy ids (record s { reserved = finset.insert s.reserved c }) db
stays_reserved ids s c db there = subst (λ r. StandsBy ids (record s { reserved = r }) db) (sym (insert_again nat_list_cmp_total text_apart s.reserved c there))
