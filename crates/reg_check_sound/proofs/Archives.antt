-- Archives that pass: their rows are those of the versions.
use Rattle.reg_check_sound.proofs.Words.{◌≡◌, ◌==◌, inl, inr, ℕ, pos, List, [], ◌∷◌, map, true, false, sym, ap, subst, ◌∙◌, refl, flat_map}
use Rattle.reg_check_sound.proofs.Words.{list_any, is_eq, sha256, Row, column, value_cmp, Null, Int, Real, Text, Blob, IsIn, any_in, each_in}
use Rattle.reg_check_sound.proofs.Words.{in_any, in_each, in_filter, map_in, is_number, shows, archive_places, archives_with_id}
use Rattle.reg_check_sound.proofs.Words.{columns_of_version, row_of_archive, is_archive, version_from, IsKeyed, RefersTo, same_value}
use Rattle.std.proofs.Common.{ℤ}
use Rattle.reg_check_sound.proofs.Common.{AllRows, bytes_eq, filter, IsPermutation, IsPermutation-sym, maps_twice, rowid, same_bytes, same_number, Trees, Version}
use Rattle.std.specs.FinMap.{int_cmp-IsAntisymmetric}
use Rattle.std.specs.Ordering.{int_cmp}
use Rattle.sqlite_trees.proofs.ListLemmas.{filter_all}
use Rattle.sqlite_value.proofs.OrderLemmas.{value_cmp-Int}
use Rattle.reg_model.proofs.Members.{filtered_passes, in_permuted}
use Rattle.reg_tables_schema.proofs.Joined.{joined_once}
use Rattle.reg_tables_represent.proofs.Rowids.{values_tie}
use Rattle.reg_tables_represent.proofs.NextId.{tied}
use Rattle.reg_check_sound.specs.RegistryFrom.{archive_from}
use Rattle.reg_check_sound.proofs.Passing.{Passing, archive_is}
use Rattle.reg_check_sound.proofs.Shapes.{with_null}
use Rattle.reg_check_sound.proofs.Uniques.{value_flips}
use Rattle.reg_check_sound.proofs.Versions.{rows_of_versions, version_ids_apart}

-- what passes is one archive, shown as its id and its bytes
one_archive : (digest : List ℕ) (shown : List Row) → is_archive digest shown ≡ true → (id : ℤ) × (bytes : List ℕ) × (shown ≡ (Int id ∷ Blob bytes ∷ []) ∷ []) × (bytes_eq (sha256 bytes) digest ≡ true)
one_archive digest [] h = absurd cc
one_archive digest ([] ∷ more) h = absurd cc
one_archive digest ((Null ∷ r) ∷ more) h = absurd cc
one_archive digest ((Real x ∷ r) ∷ more) h = absurd cc
one_archive digest ((Text t ∷ r) ∷ more) h = absurd cc
one_archive digest ((Blob b ∷ r) ∷ more) h = absurd cc
one_archive digest ((Int n ∷ []) ∷ more) h = absurd cc
one_archive digest ((Int n ∷ Null ∷ r) ∷ more) h = absurd cc
one_archive digest ((Int n ∷ Int m ∷ r) ∷ more) h = absurd cc
one_archive digest ((Int n ∷ Real x ∷ r) ∷ more) h = absurd cc
one_archive digest ((Int n ∷ Text t ∷ r) ∷ more) h = absurd cc
one_archive digest ((Int n ∷ Blob b ∷ v ∷ r) ∷ more) h = absurd cc
one_archive digest ((Int n ∷ Blob b ∷ []) ∷ s ∷ more) h = absurd cc
one_archive digest ((Int n ∷ Blob b ∷ []) ∷ []) h = (n, b, refl, h)

pub archive_digest : (digest : List ℕ) (shown : List Row) → is_archive digest shown ≡ true → sha256 (archive_from shown) ≡ digest
archive_digest digest shown h =
    let one = one_archive digest shown h in
    ap (λ rows. sha256 (archive_from rows)) one.2 ∙ same_bytes (sha256 one.1) digest one.3

only_row : {A B : Type 0} (show : A → B) (rows : List A) (out : B) → map show rows ≡ out ∷ [] → (r : A) × (rows ≡ r ∷ []) × (show r ≡ out)
only_row show [] out h = absurd cc
only_row show (r ∷ []) out h = (r, refl, cc)
only_row show (r ∷ s ∷ rows) out h = absurd cc

each_once : {A B : Type 0} (f : A → List B) (g : A → B) (xs : List A) → ((x : A) → IsIn x xs → f x ≡ g x ∷ []) → flat_map f xs ≡ map g xs
each_once f g [] h = refl
each_once f g (x ∷ xs) h = rw (h x (inl refl), each_once f g xs (λ y i. h y (inr i)))

same_int : (n m : ℤ) → is_eq (value_cmp (Int n) (Int m)) ≡ true → n ≡ m
same_int n m h = int_cmp-IsAntisymmetric n m (tied (int_cmp n m) (ap is_eq (sym (value_cmp-Int n m)) ∙ h))

-- a row has the id of one version
apart : (v w : Version) (r : Row) → (v.id == w.id) ≡ false → is_number 0 v.id r ≡ true → is_number 0 w.id r ≡ false
apart v w r other is = values_tie.congr (column r 0) (Int (pos v.id)) (Int (pos w.id)) is ∙ same_number v.id w.id ∙ other

module _ (it : AllRows) (db : Trees) (h : Passing it db) where
  abbrev vs : List Version
  vs = it.versions.items

  abbrev stored : Version → Row
  stored v = row_of_archive (version_from it db v)

  abbrev row : Version → Row
  row v = with_null (columns_of_version v)

  abbrev its_rows : Version → List Row
  its_rows v = filter (is_number 0 v.id) (db 13)

  -- the one row with a version's id is that of its archive
  its_archive : (v : Version) → IsIn v vs → its_rows v ≡ stored v ∷ []
  its_archive v i =
      let one = one_archive v.digest.items (archives_with_id v.id db) (archive_is it db h v i) in
      let found = only_row (shows archive_places) (its_rows v) (Int one.0 ∷ Blob one.1 ∷ []) one.2 in
      let r = found.0 in
      let here : IsIn r (its_rows v) = subst (IsIn r) (sym found.1) (inl refl) in
      let keyed = each_in (IsKeyed (0 ∷ 1 ∷ 2 ∷ [])) (db 13) r h.rules.columns.archives (in_filter (is_number 0 v.id) (db 13) r here) in
      let id : column r 0 ≡ Int one.0 = ap (λ s. column s 0) found.2 in
      let bytes : column r 2 ≡ Blob one.1 = ap (λ s. column s 1) found.2 in
      let same : one.0 ≡ pos v.id = same_int one.0 (pos v.id) (ap (λ x. is_eq (value_cmp x (Int (pos v.id)))) (sym id) ∙ filtered_passes (is_number 0 v.id) (db 13) r here) in
      let kept : one.1 ≡ archive_from (archives_with_id v.id db) = ap archive_from (sym one.2) in
      let is : r ≡ stored v = sym keyed.0 ∙ (λ k. (id ∙ ap Int same) k ∷ keyed.1 k ∷ (bytes ∙ ap Blob kept) k ∷ []) in
      found.1 ∙ ap (λ s. s ∷ []) is

  -- each archive is of a version
  of_version : (r : Row) → IsIn r (db 13) → list_any (λ v. is_number 0 v.id r) vs ≡ true
  of_version r i =
      let p = any_in (λ p. same_value (rowid p) (column r 0)) (db 11) (each_in (RefersTo (db 11) 0) (db 13) r h.rules.parents.archive_versions i) in
      let listed = in_permuted (db 11) (map row vs) p.0 (IsPermutation-sym (map row vs) (db 11) (rows_of_versions it db h)) p.1 in
      let v = map_in row vs p.0 listed in
      let same : same_value (Int (pos v.0.id)) (column r 0) ≡ true = ap (λ s. same_value (rowid s) (column r 0)) v.2 ∙ p.2 in
      in_any (λ v. is_number 0 v.id r) vs v.0 v.1 (value_flips (column r 0) (Int (pos v.0.id)) ∙ same)

  pub archive_rows : IsPermutation (map row_of_archive (map (version_from it db) vs)) (db 13)
  archive_rows =
      let each = each_once its_rows stored vs its_archive in
      let all = filter_all (λ r. list_any (λ v. is_number 0 v.id r) vs) (db 13) (in_each (λ r. list_any (λ v. is_number 0 v.id r) vs ≡ true) (db 13) of_version) in
      let joined = joined_once (λ v r. is_number 0 v.id r) (λ v w. v.id == w.id) apart (db 13) vs (version_ids_apart it db h) in
      subst (λ xs. IsPermutation xs (db 13)) (each ∙ sym (maps_twice (version_from it db) row_of_archive vs)) (subst (IsPermutation (flat_map its_rows vs)) all joined)
