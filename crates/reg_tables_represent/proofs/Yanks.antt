-- What the row of a version that is yanked, or no more, is on the registry.
use Rattle.reg_tables_represent.proofs.Words.{filter, list_any, IsEquivalence, eq_by_cmp_equiv, nat_cmp_total, and_parts, and_from, eq-eqb}
use Rattle.reg_tables_represent.proofs.Words.{eqb-true, and_left, IsPermutation-cons, IsPermutation-filter_both, IsPermutation-map}
use Rattle.reg_tables_represent.proofs.Words.{IsPermutation-trans, IsDistinct-from_sorted, has_rowid, put_row, without_rowid, value_cmp-Text}
use Rattle.reg_tables_represent.proofs.Words.{Text, Publication, mark_cmp, same_key, ties_itself, StoredCrate, StoredVersion, row_of_crate}
use Rattle.reg_tables_represent.proofs.Words.{row_of_version, row_of_archive, StandCrates, IdAssignment, spelling_at, is_version, IsIn, any_in}
use Rattle.reg_tables_represent.proofs.Words.{distinct_from_map, filtered_passes, in_filter, map_same, one_passes, in_any, none_pass}
use Rattle.reg_tables_represent.proofs.Words.{filter_map, free_without, one_row, put_permutes}
use Rattle.reg_tables_represent.proofs.Common.{◌≡◌, ◌==◌, [], ◌∷◌, ◌++◌, ◌||◌, ◌&&◌, ◌∙◌, ap, Bool, bytes_eq, canon, cond, drop, eq_by_cmp, false, is_eq, is_eq-slice_cmp, IsPermutation, IsPermutation-filter, List, map, nat_cmp, nat_list_eq_equiv, None, not, not_true, on, pos, refl, release_key_of, Row, same_filter, subst, sym, Trees, true, true_not_false, value_cmp, version_row, ℕ}
use Rattle.std.specs.List.{IsDistinct}
use Rattle.std.specs.FinSet as finset
use Rattle.std.specs.Cmp.{on_equiv, and_equiv}
use Rattle.sqlite.specs.declared.types.Value.TheVariants.{Text as Characters}
use Rattle.reg_model.specs.Registry.{Mark}
use Rattle.reg_model.specs.Sound.{one_release}
use Rattle.reg_model.proofs.Keys.{mark_total, mark_apart}
use Rattle.reg_tables_represent.proofs.CrateLemmas.{same_bytes, bytes_same, crate_of, is_stored, one_by_canon, one_by_id, is_published, none_of}
use Rattle.reg_model.proofs.Members.{one_of}
use Rattle.reg_tables_represent.proofs.Standing.{same_number, none_row}

-- SQL's equality of texts
texts_equal : (s t : Text) → is_eq (value_cmp (Characters s) (Characters t)) ≡ bytes_eq s t
texts_equal s t = ap is_eq (value_cmp-Text s t) ∙ is_eq-slice_cmp s t

releases_equivalence : IsEquivalence one_release
releases_equivalence = and_equiv (on_equiv (λ p. canon p.name) nat_list_eq_equiv) (on_equiv (λ p. release_key_of p.version) nat_list_eq_equiv)

-- the marks with one set or taken back
module _ (yanked : finset.FinSet mark_cmp) (c t : Text) where
  abbrev pub marks : Bool → finset.FinSet mark_cmp
  marks b = cond b (finset.insert yanked (c, t)) (finset.remove yanked (c, t))

  abbrev key : Mark
  key = (c, t)

  pub mark_is : (b : Bool) → finset.contains (marks b) (c, t) ≡ b
  mark_is true = finset.contains-insert mark_total yanked key key ∙ ap (λ b. b || finset.contains yanked key) (ties_itself mark_total key)
  mark_is false = finset.contains-remove mark_total yanked key key ∙ ap (λ b. not b && finset.contains yanked key) (ties_itself mark_total key)

  pub mark_of_other : (b : Bool) (d v : Text) → (d ≡ c → v ≡ t → ⊥) → finset.contains (marks b) (d, v) ≡ finset.contains yanked (d, v)
  mark_of_other b d v differs = by b
    where
      apart : eq_by_cmp mark_cmp (d, v) (c, t) ≡ false
      apart = not_true _ (λ tied.
          let q : Mark = (d, v) in
          let e = same_key mark_apart q key tied in
          differs (ap (λ m. m.0) e) (ap (λ m. m.1) e))

      by : (b : Bool) → finset.contains (marks b) (d, v) ≡ finset.contains yanked (d, v)
      by true = finset.contains-insert mark_total yanked key (d, v) ∙ ap (λ b. b || finset.contains yanked (d, v)) apart
      by false = finset.contains-remove mark_total yanked key (d, v) ∙ ap (λ b. not b && finset.contains yanked (d, v)) apart

  -- a mark that is so already
  pub marks_again : (b : Bool) → finset.contains yanked key ≡ b → marks b ≡ yanked
  marks_again b was = finset.same_set mark_total mark_apart (marks b) yanked (λ q. split q (eq_by_cmp mark_cmp q key) refl)
    where
      split : (q : Mark) (e : Bool) → eq_by_cmp mark_cmp q key ≡ e → finset.contains (marks b) q ≡ finset.contains yanked q
      split q true tied = let e = same_key mark_apart q key tied in ap (finset.contains (marks b)) e ∙ mark_is b ∙ sym was ∙ ap (finset.contains yanked) (sym e)
      split q false apart = mark_of_other b q.0 q.1 (λ e f. true_not_false (eq_by_cmp mark_cmp q key) (ap (λ (k : Mark). eq_by_cmp mark_cmp k key) (λ i. (e i, f i)) ∙ ties_itself mark_total key) apart)

module _ (ids : IdAssignment) (publications : List Publication) (yanked : finset.FinSet mark_cmp) (old : Trees) (stands : StandCrates ids publications yanked old) (releases : IsDistinct one_release publications) (id : ℕ) (name text : Text) (there : IsIn (id, name) ids.crates) where
  -- the version of the crate with this text
  pub record IsTarget (v : StoredVersion) : Type 0 where
    pub stored : IsIn v ids.versions
    pub crate : v.of_crate ≡ id
    pub canonical : canon v.publication.name ≡ canon name
    pub version : v.publication.version ≡ text

  pub target : list_any (λ p. bytes_eq (canon p.name) (canon name) && bytes_eq p.version text) publications ≡ true → (v : StoredVersion) × IsTarget v
  target published =
      let p = any_in (λ p. bytes_eq (canon p.name) (canon name) && bytes_eq p.version text) publications published in
      let parts = and_parts (bytes_eq (canon p.0.name) (canon name)) (bytes_eq p.0.version text) p.2 in
      let v = is_stored ids publications yanked old stands p.0 p.1 in
      let c = crate_of ids publications yanked old stands v.0 v.1 in
      let canonical : canon v.0.publication.name ≡ canon name = ap (λ (q : Publication). canon q.name) v.2 ∙ same_bytes (canon p.0.name) (canon name) parts.0 in
      let mine : StoredCrate = (id, name) in
      let one : c.0 ≡ mine = one_by_canon ids publications yanked old stands c.0 mine c.1 there (ap canon c.3 ∙ canonical) in (
        v.0,
        record {
          stored = v.1;
          crate = sym c.2 ∙ ap (λ (d : StoredCrate). d.0) one;
          canonical = canonical;
          version = ap (λ (q : Publication). q.version) v.2 ∙ same_bytes p.0.version text parts.1;
        },
      )

  -- what SQL's test finds is such a version
  test_is : (marks : finset.FinSet mark_cmp) (v : StoredVersion) → is_version id (release_key_of text) text (row_of_version marks v) ≡ ((v.of_crate == id) && (bytes_eq (release_key_of v.publication.version) (release_key_of text) && bytes_eq v.publication.version text))
  test_is marks v = λ i. same_number v.of_crate id i && (texts_equal (release_key_of v.publication.version) (release_key_of text) i && texts_equal v.publication.version text i)

  passes : (v : StoredVersion) → IsTarget v → is_version id (release_key_of text) text (row_of_version yanked v) ≡ true
  passes v is = test_is yanked v ∙ and_from _ _ (eq-eqb v.of_crate id is.crate) (and_from _ _ (bytes_same _ _ (ap release_key_of is.version)) (bytes_same _ _ is.version))

  found : (v : StoredVersion) → IsIn v ids.versions → is_version id (release_key_of text) text (row_of_version yanked v) ≡ true → IsTarget v
  found v stored h =
      let parts = and_parts (v.of_crate == id) _ (sym (test_is yanked v) ∙ h) in
      let texts = and_parts (bytes_eq (release_key_of v.publication.version) (release_key_of text)) _ parts.1 in
      let is_mine = eqb-true v.of_crate id parts.0 in
      let c = crate_of ids publications yanked old stands v stored in
      let mine : StoredCrate = (id, name) in
      let one : c.0 ≡ mine = one_by_id ids publications yanked old stands c.0 mine c.1 there (c.2 ∙ is_mine) in
      record {
        stored = stored;
        crate = is_mine;
        canonical = ap canon (sym c.3 ∙ ap (λ (d : StoredCrate). d.1) one);
        version = same_bytes v.publication.version text texts.1;
      }

  by_release : IsDistinct (on (λ v. v.publication) one_release) ids.versions
  by_release = distinct_from_map one_release (λ v. v.publication) ids.versions (subst (IsDistinct one_release) (sym stands.published) releases)

  one_target : (v w : StoredVersion) → canon v.publication.name ≡ canon w.publication.name → v.publication.version ≡ w.publication.version → one_release v.publication w.publication ≡ true
  one_target v w e f = and_from _ _ (bytes_same _ _ e) (bytes_same _ _ (ap release_key_of f))

  row_is : (marks : finset.FinSet mark_cmp) (v : StoredVersion) → IsTarget v → row_of_version marks v ≡ version_row v.id id text (release_key_of text) v.publication.digest v.publication.stem v.publication.description (finset.contains marks (canon name, text))
  row_is marks v is = λ i. version_row v.id (is.crate i) (is.version i) (release_key_of (is.version i)) v.publication.digest v.publication.stem v.publication.description (finset.contains marks (is.canonical i, is.version i))

  pub row_found : (v : StoredVersion) → IsTarget v → filter (is_version id (release_key_of text) text) (old 11) ≡ version_row v.id id text (release_key_of text) v.publication.digest v.publication.stem v.publication.description (finset.contains yanked (canon name, text)) ∷ []
  row_found v is =
      let test = is_version id (release_key_of text) text in
      let same : (x y : StoredVersion) → IsIn x ids.versions → IsIn y ids.versions → test (row_of_version yanked x) ≡ true → test (row_of_version yanked y) ≡ true → one_release x.publication y.publication ≡ true = λ x y i j p q.
      let a = found x i p in
      let b = found y j q in
      one_target x y (a.canonical ∙ sym b.canonical) (a.version ∙ sym b.version) in
      one_row (row_of_version yanked) test v ids.versions (old 11) stands.version_rows (one_passes (on (λ v. v.publication) one_release) (λ w. test (row_of_version yanked w)) ids.versions v by_release same is.stored (passes v is))
      ∙ ap (λ r. r ∷ []) (row_is yanked v is)

  -- the others keep their rows
  others : StoredVersion → List StoredVersion
  others v = filter (λ w. not (w.id == v.id)) ids.versions

  first_and_others : (v : StoredVersion) → IsIn v ids.versions → IsPermutation ids.versions (v ∷ others v)
  unfolding others
  first_and_others v i =
      let mine : StoredVersion → Bool = λ w. w.id == v.id in
      let by_id = distinct_from_map (eq_by_cmp nat_cmp) (λ w. w.id) ids.versions (IsDistinct-from_sorted nat_cmp (map (λ w. w.id) ids.versions) stands.rising) in
      let same : (x y : StoredVersion) → IsIn x ids.versions → IsIn y ids.versions → mine x ≡ true → mine y ≡ true → eq_by_cmp nat_cmp x.id y.id ≡ true = λ x y k l p q.
      subst (λ n. eq_by_cmp nat_cmp x.id n ≡ true) (eqb-true x.id v.id p ∙ sym (eqb-true y.id v.id q)) ((eq_by_cmp_equiv nat_cmp_total).refl x.id) in
      let one = one_passes (on (λ w. w.id) (eq_by_cmp nat_cmp)) mine ids.versions v by_id same i (eq-eqb v.id v.id refl) in
      subst (λ vs. IsPermutation ids.versions (vs ++ others v)) one (IsPermutation-filter_both mine (λ w. not (mine w)) (λ w. refl) ids.versions)

  -- another version is another release
  differs : (v w : StoredVersion) → IsTarget v → IsIn w ids.versions → (w.id ≡ v.id → ⊥) → canon w.publication.name ≡ canon name → w.publication.version ≡ text → ⊥
  differs v w is stored apart e f =
      let same = one_of (on (λ v. v.publication) one_release) (λ x y. releases_equivalence.symm x.publication y.publication) ids.versions w v by_release stored is.stored (one_target w v (e ∙ sym is.canonical) (f ∙ sym is.version)) in
      apart (ap (λ (x : StoredVersion). x.id) same)

  pub mark_kept : (b : Bool) (v w : StoredVersion) → IsTarget v → IsIn w ids.versions → (w.id ≡ v.id → ⊥) → finset.contains (marks yanked (canon name) text b) (canon w.publication.name, w.publication.version) ≡ finset.contains yanked (canon w.publication.name, w.publication.version)
  mark_kept b v w is stored apart = mark_of_other yanked (canon name) text b (canon w.publication.name) w.publication.version (differs v w is stored apart)

  other_row : (b : Bool) (v w : StoredVersion) → IsTarget v → IsIn w (others v) → row_of_version (marks yanked (canon name) text b) w ≡ row_of_version yanked w
  unfolding others
  other_row b v w is i =
      let p = w.publication in
      let other : (w.id ≡ v.id → ⊥) = λ e. true_not_false (not (w.id == v.id)) (filtered_passes (λ w. not (w.id == v.id)) ids.versions w i) (ap not (eq-eqb w.id v.id e)) in
      ap (version_row w.id w.of_crate p.version (release_key_of p.version) p.digest p.stem p.description) (mark_kept b v w is (in_filter (λ w. not (w.id == v.id)) ids.versions w i) other)

  pub rows_after : (b : Bool) (v : StoredVersion) → IsTarget v → IsPermutation (map (row_of_version (marks yanked (canon name) text b)) ids.versions)
      (put_row (version_row v.id id text (release_key_of text) v.publication.digest v.publication.stem v.publication.description b) (without_rowid (pos v.id) (old 11)))
  unfolding others
  rows_after b v is =
      let now = marks yanked (canon name) text b in
      let row = version_row v.id id text (release_key_of text) v.publication.digest v.publication.stem v.publication.description b in
      let rest = without_rowid (pos v.id) (old 11) in
      let mine : row_of_version now v ≡ row = row_is now v is ∙ ap (version_row v.id id text (release_key_of text) v.publication.digest v.publication.stem v.publication.description) (mark_is yanked (canon name) text b) in
      let was : filter (λ r. not (has_rowid (pos v.id) r)) (map (row_of_version yanked) ids.versions) ≡ map (row_of_version yanked) (others v) =
      filter_map (row_of_version yanked) (λ r. not (has_rowid (pos v.id) r)) ids.versions ∙ ap (map (row_of_version yanked)) (same_filter (λ w. not (has_rowid (pos v.id) (row_of_version yanked w))) (λ w. not (w.id == v.id)) (λ w. ap not (same_number w.id v.id)) ids.versions) in
      let kept : IsPermutation (map (row_of_version yanked) (others v)) rest = subst (λ (rs : List Row). IsPermutation rs rest) was (IsPermutation-filter (λ r. not (has_rowid (pos v.id) r)) (map (row_of_version yanked) ids.versions) (old 11) stands.version_rows) in
      let still : IsPermutation (map (row_of_version now) (others v)) rest = subst (λ (rs : List Row). IsPermutation rs rest) (sym (map_same (row_of_version now) (row_of_version yanked) (others v) (λ w i. other_row b v w is i))) kept in
      let all : IsPermutation (row_of_version now v ∷ map (row_of_version now) (others v)) (row_of_version now v ∷ rest) = IsPermutation-cons (row_of_version now v) (map (row_of_version now) (others v)) rest still in
      IsPermutation-trans _ (map (row_of_version now) (v ∷ others v)) _ (IsPermutation-map (row_of_version now) ids.versions (v ∷ others v) (first_and_others v is.stored))
      (IsPermutation-trans _ (row_of_version now v ∷ rest) _ all (subst (λ (r : Row). IsPermutation (r ∷ rest) (put_row row rest)) (sym mine) (put_permutes row rest (free_without (pos v.id) (drop 1 row) (old 11)))))

  pub yanks : (b : Bool) (v : StoredVersion) → IsTarget v → (new : Trees) → new 7 ≡ old 7 → new 13 ≡ old 13
      → new 11 ≡ put_row (version_row v.id id text (release_key_of text) v.publication.digest v.publication.stem v.publication.description b) (without_rowid (pos v.id) (old 11))
      → StandCrates ids publications (marks yanked (canon name) text b) new
  yanks b v is new e7 e13 e11 = record {
    crate_rows = subst (IsPermutation (map row_of_crate ids.crates)) (sym e7) stands.crate_rows;
    version_rows = subst (IsPermutation (map (row_of_version (marks yanked (canon name) text b)) ids.versions)) (sym e11) (rows_after b v is);
    archive_rows = subst (IsPermutation (map row_of_archive ids.versions)) (sym e13) stands.archive_rows;
    canons = stands.canons;
    used = stands.used;
    of_crates = stands.of_crates;
    up = stands.up;
    rising = stands.rising;
    published = stands.published;
  }

  -- where the version is not there, no row passes
  pub no_such_version : list_any (λ p. bytes_eq (canon p.name) (canon name) && bytes_eq p.version text) publications ≡ false → filter (is_version id (release_key_of text) text) (old 11) ≡ []
  no_such_version none =
      let test = is_version id (release_key_of text) text in
      let is_it : Publication → Bool = λ p. bytes_eq (canon p.name) (canon name) && bytes_eq p.version text in
      none_row (row_of_version yanked) test ids.versions (old 11) stands.version_rows (none_pass (λ _ _. true) (λ v. test (row_of_version yanked v)) ids.versions (λ v i. not_true _ (λ h.
      let is = found v i h in
      let there = is_published ids publications yanked old stands v i in
      true_not_false (list_any is_it publications) (in_any is_it publications v.publication there (and_from _ _ (bytes_same _ _ is.canonical) (bytes_same _ _ is.version))) none)))

-- no version is of a crate that is not there
pub no_version : (ids : IdAssignment) (publications : List Publication) (yanked : finset.FinSet mark_cmp) (db : Trees) → StandCrates ids publications yanked db → (id : ℕ) (text : Text) → spelling_at ids id ≡ None → filter (is_version id (release_key_of text) text) (db 11) ≡ []
no_version ids publications yanked db stands id text none =
    let test = is_version id (release_key_of text) text in
    none_row (row_of_version yanked) test ids.versions (db 11) stands.version_rows
    (none_pass (λ _ _. true) (λ v. test (row_of_version yanked v)) ids.versions (λ v i. and_left _ _ (same_number v.of_crate id ∙ none_of ids publications yanked db stands id none v i)))
