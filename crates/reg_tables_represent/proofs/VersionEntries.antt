-- The versions of a crate, as a selection shows them.
use Rattle.reg_tables_represent.proofs.Words.{told_of, None, Some, Option, ◌≡◌, ◌==◌, inl, inr, ℕ, ◌<◌, List, [], ◌∷◌, map, Bool, true, false}
use Rattle.reg_tables_represent.proofs.Words.{nat_lt, Less, Equal, Greater, refl, sym, ap, subst, ◌∙◌, arith, Option, Some, nat_cmp_is}
use Rattle.reg_tables_represent.proofs.Words.{IsPermutation, ltb-true, ltb-false, Blob, ascending-filter, IsPermutation-filter, Publication}
use Rattle.reg_tables_represent.proofs.Words.{mark_cmp, IsInOrder, by_column, sql_bool, StoredVersion, row_of_version, StandCrates, IdAssignment}
use Rattle.reg_tables_represent.proofs.Words.{spelling_at}
use Rattle.reg_tables_represent.proofs.Common.{canon, collides, filter, filter_map, filtered_passes, is_number, IsAscending, IsIn, map_same, maps_twice, nat_cmp, none_pass, Row, same_filter, shows, Trees}
use Rattle.std.specs.FinSet as finset
use Rattle.std.specs.List.Sorted.{IsStrictlySortedBy}
use Rattle.sqlite_trees.proofs.ListLemmas.{ascending-map, ascending_weaker, all_from_map}
use Rattle.reg_model.specs.Registry.{Text as Words}
use Rattle.reg_tables_sql.specs.declared.versions.Version.{Version}
use Rattle.reg_tables_sql.specs.Versions.{columns_of_version}
use Rattle.reg_tables_represent.specs.Entries.{shown_version, version_shown, entry_row}
use Rattle.reg_tables_represent.proofs.AccountEntries.{words_are, text_is, mark_is, heads, tails}
use Rattle.reg_tables_represent.proofs.CrateLemmas.{same_crate, none_of, there_at, same_bytes}
use Rattle.reg_tables_represent.proofs.Selected.{shown_in_turn, each_part, column_total, number_below}
use Rattle.reg_tables_represent.proofs.Standing.{same_number}

pub less_is : (a b : ℕ) → nat_cmp a b ≡ Less → a < b
less_is a b h = split (nat_lt a b) (nat_lt b a) refl refl
  where
    split : (c d : Bool) → nat_lt a b ≡ c → nat_lt b a ≡ d → a < b
    split true d e f = ltb-true a b e
    split false true e f = absurd (apart (sym h ∙ sym (nat_cmp_is a b Greater (ltb-true b a f))))
      where
        apart : Less ≡ Greater → ⊥
        apart e = absurd cc
    split false false e f = absurd (apart (sym h ∙ sym (nat_cmp_is a b Equal (omega (arith, ltb-false a b e, ltb-false b a f)))))
      where
        apart : Less ≡ Equal → ⊥
        apart e = absurd cc

pub bytes_are : {t u : Words} → Blob t ≡ Blob u → t ≡ u
bytes_are e = cc

-- of elements that are there, what passes one test passes another that tells the same of them
pub same_passes : {X : Type 0} (p q : X → Bool) (xs : List X) → ((x : X) → IsIn x xs → p x ≡ q x) → filter p xs ≡ filter q xs
same_passes p q [] h = refl
same_passes p q (x ∷ xs) h = rw (h x (inl refl), same_passes p q xs (λ y i. h y (inr i))) refl

abbrev shown_places : List ℕ
shown_places = 0 ∷ 2 ∷ 3 ∷ 4 ∷ 5 ∷ 6 ∷ 7 ∷ 8 ∷ []

module _ (yanked : finset.FinSet mark_cmp) where
  same_shown : (v : StoredVersion) (o : Version) → shows shown_places (row_of_version yanked v) ≡ columns_of_version o → version_shown yanked v.publication ≡ shown_version o
  same_shown v o h =
      let later = tails (tails h) in
      let version = words_are (heads later) in
      let release = words_are (heads (tails later)) in
      let digest = bytes_are (heads (tails (tails later))) in
      let stem = bytes_are (heads (tails (tails (tails later)))) in
      let description = text_is _ _ (heads (tails (tails (tails (tails later))))) in
      let sql_bool = mark_is _ _ (heads (tails (tails (tails (tails (tails later)))))) in
      λ i. record { version = version i; release = release i; digest = digest i; stem = stem i; description = description i; yanked = sql_bool i }

  pub ids_rise : (vs : List StoredVersion) → IsStrictlySortedBy nat_cmp (map (λ v. v.id) vs) → IsAscending (λ v w. v.id < w.id) vs
  unfolding IsStrictlySortedBy
  ids_rise [] h = tt
  ids_rise (v ∷ vs) h = (Rattle.sqlite_trees.proofs.ListLemmas.all_weaker (λ w. nat_cmp v.id w.id ≡ Less) (λ w. v.id < w.id) (λ w e. less_is v.id w.id e) vs (all_from_map (λ n. nat_cmp v.id n ≡ Less) (λ w. w.id) vs h.0), ids_rise vs h.1)

  pub rows_rise : (vs : List StoredVersion) → IsAscending (λ v w. v.id < w.id) vs → IsAscending (λ a b. by_column 0 a b ≡ Less) (map (row_of_version yanked) vs)
  rows_rise vs up = ascending-map (λ a b. by_column 0 a b ≡ Less) (row_of_version yanked) vs (ascending_weaker (λ v w. v.id < w.id) (λ v w. by_column 0 (row_of_version yanked v) (row_of_version yanked w) ≡ Less) (λ v w e. number_below v.id w.id e) vs up)

module _ (ids : IdAssignment) (ps : List Publication) (yanked : finset.FinSet mark_cmp) (db : Trees) (h : StandCrates ids ps yanked db) where
  -- the rows of the versions of the crate with this id
  pub its_rows : (id : ℕ) → IsPermutation (map (row_of_version yanked) (filter (λ v. v.of_crate == id) ids.versions)) (filter (is_number 2 id) (db 11))
  its_rows id =
      let row = row_of_version yanked in
      subst (λ ys. IsPermutation ys (filter (is_number 2 id) (db 11))) (filter_map row (is_number 2 id) ids.versions ∙ ap (map row) (same_filter _ _ (λ v. same_number v.of_crate id) ids.versions))
      (IsPermutation-filter (is_number 2 id) (map row ids.versions) (db 11) h.version_rows)

  shown_versions : (id : ℕ) (list : List Version) → IsInOrder (by_column 0) (filter (is_number 2 id) (db 11)) (shows shown_places) (map columns_of_version list)
      → map shown_version list ≡ map (λ v. version_shown yanked v.publication) (filter (λ v. v.of_crate == id) ids.versions)
  shown_versions id list found =
      let row = row_of_version yanked in
      let its = filter (λ v. v.of_crate == id) ids.versions in
      let up = rows_rise yanked its (ascending-filter (λ v w. v.id < w.id) (λ v. v.of_crate == id) ids.versions (ids_rise yanked ids.versions h.rising)) in
      let shown = shown_in_turn row (shows shown_places) (by_column 0) (column_total 0) its (filter (is_number 2 id) (db 11)) (map columns_of_version list) (its_rows id) up found in
      each_part (λ v. shows shown_places (row v)) columns_of_version (λ v. version_shown yanked v.publication) shown_version (same_shown yanked) its list shown

  named_versions : (id : ℕ) (name : Words) → IsIn (id, name) ids.crates → map (λ v. version_shown yanked v.publication) (filter (λ v. v.of_crate == id) ids.versions) ≡ map (version_shown yanked) (filter (λ p. collides p.name name) ps)
  named_versions id name there =
      let named = same_passes _ (λ v. collides v.publication.name name) ids.versions (same_crate ids ps yanked db h id name there) in
      ap (map (λ v. version_shown yanked v.publication)) named ∙ sym (maps_twice (λ v. v.publication) (version_shown yanked) (filter (λ v. collides v.publication.name name) ids.versions))
      ∙ ap (map (version_shown yanked)) (sym (filter_map (λ v. v.publication) (λ p. collides p.name name) ids.versions) ∙ ap (filter (λ p. collides p.name name)) h.published)

  -- the stems and the marks of the crate with this id; none where there is no crate
  entry_shown : StoredVersion → Row
  entry_shown v = Blob v.publication.stem ∷ sql_bool (finset.contains yanked (canon v.publication.name, v.publication.version)) ∷ []

  its_stems : (id : ℕ) (out : List Row) → IsInOrder (by_column 0) (filter (is_number 2 id) (db 11)) (shows (6 ∷ 8 ∷ [])) out → out ≡ map entry_shown (filter (λ v. v.of_crate == id) ids.versions)
  unfolding entry_shown
  its_stems id out found =
      let row = row_of_version yanked in
      let its = filter (λ v. v.of_crate == id) ids.versions in
      let up = rows_rise yanked its (ascending-filter (λ v w. v.id < w.id) (λ v. v.of_crate == id) ids.versions (ids_rise yanked ids.versions h.rising)) in
      shown_in_turn row (shows (6 ∷ 8 ∷ [])) (by_column 0) (column_total 0) its (filter (is_number 2 id) (db 11)) out (its_rows id) up found

  entry_named : Words → Publication → Row
  entry_named name p = Blob p.stem ∷ sql_bool (finset.contains yanked (canon name, p.version)) ∷ []

  its_entries : (id : ℕ) (name : Words) → IsIn (id, name) ids.crates → map entry_shown (filter (λ v. v.of_crate == id) ids.versions) ≡ map (entry_named name) (filter (λ p. collides p.name name) ps)
  unfolding entry_shown entry_named
  its_entries id name there =
      let its = filter (λ v. collides v.publication.name name) ids.versions in
      let named = same_passes _ (λ v. collides v.publication.name name) ids.versions (same_crate ids ps yanked db h id name there) in
      let same = map_same entry_shown (λ v. entry_named name v.publication) its (λ v i.
      ap (λ c. Blob v.publication.stem ∷ sql_bool (finset.contains yanked (c, v.publication.version)) ∷ []) (same_bytes (canon v.publication.name) (canon name) (filtered_passes (λ v. collides v.publication.name name) ids.versions v i))) in
      ap (map entry_shown) named ∙ same ∙ sym (maps_twice (λ v. v.publication) (entry_named name) its) ∙ ap (map (entry_named name)) (sym (filter_map (λ v. v.publication) (λ p. collides p.name name) ids.versions) ∙ ap (filter (λ p. collides p.name name)) h.published)

  pub lists_stems : (id : ℕ) (out : List Row) → IsInOrder (by_column 0) (filter (is_number 2 id) (db 11)) (shows (6 ∷ 8 ∷ [])) out
      → out ≡ map entry_row (told_of (spelling_at ids id) [] (λ name. map (λ p. (p.stem, finset.contains yanked (canon name, p.version))) (filter (λ p. collides p.name name) ps)))
  unfolding entry_named
  lists_stems id out found = split (spelling_at ids id) refl
    where
      split : (o : Option Words) → spelling_at ids id ≡ o → out ≡ map entry_row (told_of o [] (λ name. map (λ p. (p.stem, finset.contains yanked (canon name, p.version))) (filter (λ p. collides p.name name) ps)))
      split None none = its_stems id out found ∙ ap (map entry_shown) (none_pass (λ _ _. true) (λ v. v.of_crate == id) ids.versions (none_of ids ps yanked db h id none))
      split (Some name) at = its_stems id out found ∙ its_entries id name (there_at ids id name at) ∙ sym (maps_twice (λ p. (p.stem, finset.contains yanked (canon name, p.version))) entry_row (filter (λ p. collides p.name name) ps))

  -- the versions of the crate with this id; none where there is no crate
  pub lists_versions : (id : ℕ) (list : List Version) → IsInOrder (by_column 0) (filter (is_number 2 id) (db 11)) (shows shown_places) (map columns_of_version list)
      → map shown_version list ≡ told_of (spelling_at ids id) [] (λ name. map (version_shown yanked) (filter (λ p. collides p.name name) ps))
  lists_versions id list found = split (spelling_at ids id) refl
    where
      split : (o : Option Words) → spelling_at ids id ≡ o → map shown_version list ≡ told_of o [] (λ name. map (version_shown yanked) (filter (λ p. collides p.name name) ps))
      split None none = shown_versions id list found ∙ ap (map (λ (v : StoredVersion). version_shown yanked v.publication)) (none_pass (λ _ _. true) (λ v. v.of_crate == id) ids.versions (none_of ids ps yanked db h id none))
      split (Some name) at = shown_versions id list found ∙ named_versions id name (there_at ids id name at)
