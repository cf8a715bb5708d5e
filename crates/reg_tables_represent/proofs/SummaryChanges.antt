-- What a change of the versions of one crate is on the summaries of all.
use Rattle.reg_tables_represent.proofs.Words.{◌≡◌, ◌==◌, ◌+◌, ◌≤◌, ℕ, pos, List, [], ◌∷◌, ◌++◌, map, Bool, true, false, not, refl, sym, ap}
use Rattle.reg_tables_represent.proofs.Words.{subst, ◌∙◌, arith, zero-add, nat_eq_equiv, IsPermutation, filter-append, IsPermutation-cons}
use Rattle.reg_tables_represent.proofs.Words.{IsPermutation-filter_both, IsPermutation-map, IsPermutation-trans, has_rowid, put_row}
use Rattle.reg_tables_represent.proofs.Words.{without_rowid, IsIn, filtered_passes, in_filter, in_last, in_map, map_same, none_pass}
use Rattle.reg_tables_represent.proofs.Words.{one_passes, filter_map, free_without, one_row, put_permutes, ids_with_crate, ids_with_version}
use Rattle.reg_tables_represent.proofs.Words.{next_crate, next_version, StandCrates, StandSummaries, higher_of, its_versions, length_among}
use Rattle.reg_tables_represent.proofs.Words.{line_length, mark_shown, row_among, AddsSummary, HasSummary, PushesSummary, summary_row}
use Rattle.reg_tables_represent.proofs.Common.{append-nil, canon, collides, drop, eq-eqb, eqb-true, filter, Int, IsPermutation-filter, mark_cmp, nat_cmp, nat_eq, not_true, on, Publication, Row, same_filter, Text, Trees, true_not_false}
use Rattle.std.specs.FinSet as finset
use Rattle.std.specs.List.Sorted.{IsStrictlySortedBy}
use Rattle.reg_model.proofs.Members.{in_more}
use Rattle.reg_tables_represent.proofs.CrateLemmas.{above_other, apart_by, bytes_same, crate_of, pushed, same_crate, version_of}
use Rattle.reg_tables_represent.proofs.CrateNames.{kept}
use Rattle.reg_tables_represent.proofs.Rising.{reaches}
use Rattle.reg_tables_represent.proofs.Standing.{same_number}
use Rattle.reg_tables_represent.proofs.SummaryPushed.{IsTopOf, id_found, in_at, length_pushed, only_top, some_top, top_pushed_by}
use Rattle.reg_tables_represent.proofs.SummaryRows.{same_row, version_at}
use Rattle.reg_tables_represent.proofs.Yanks.{mark_of_other, marks}
use Rattle.reg_tables_represent.specs.Stored.{IdAssignment, StoredCrate, StoredVersion}
use Rattle.reg_tables_represent.specs.Summaries.{row_of_summary}

flipped : (a b : ℕ) → (a == b) ≡ false → (b == a) ≡ false
flipped a b h = nat_eq_equiv.symm b a ∙ h

next_other : (n m : ℕ) → 1 + m ≤ n → (n == m) ≡ false
next_other n m h = above_other n m (omega (arith, h))

is_other : (n m : ℕ) → not (n == m) ≡ true → (n == m) ≡ false
is_other n m h = not_true _ (λ e. true_not_false (not (n == m)) h (ap not e))

-- The row of one crate is made anew, and the others are as they were.
module _ (crates : List StoredCrate) (up : IsStrictlySortedBy nat_cmp (map (λ c. c.0) crates)) (row now : StoredCrate → Row) (keyed : (c : StoredCrate) (n : ℕ) → has_rowid (pos n) (row c) ≡ (c.0 == n)) (rows after : List Row) (are : IsPermutation (map row crates) rows) where
  abbrev others : ℕ → List StoredCrate
  others id = filter (λ d. not (d.0 == id)) crates

  one : (c : StoredCrate) → IsIn c crates → filter (λ d. d.0 == c.0) crates ≡ c ∷ []
  one c i =
      one_passes (on (λ (d : StoredCrate). d.0) nat_eq) (λ d. d.0 == c.0) crates c (apart_by (λ d. d.0) crates up) (λ d e j k p q. eq-eqb d.0 e.0 (eqb-true d.0 c.0 p ∙ sym (eqb-true e.0 c.0 q))) i (eq-eqb c.0 c.0 refl)

  pub row_at : (c : StoredCrate) → IsIn c crates → filter (has_rowid (pos c.0)) rows ≡ row c ∷ []
  row_at c i = one_row row (has_rowid (pos c.0)) c crates rows are (same_filter (λ d. has_rowid (pos c.0) (row d)) (λ d. d.0 == c.0) (λ d. keyed d c.0) crates ∙ one c i)

  pub replaced : (c : StoredCrate) (columns : Row) → IsIn c crates → now c ≡ Int (pos c.0) ∷ columns → ((d : StoredCrate) → IsIn d crates → (d.0 == c.0) ≡ false → now d ≡ row d)
      → after ≡ put_row (Int (pos c.0) ∷ columns) (without_rowid (pos c.0) rows) → IsPermutation (map now crates) after
  replaced c columns i is same put =
      let mine : StoredCrate → Bool = λ d. d.0 == c.0 in
      let rest = without_rowid (pos c.0) rows in
      let other = λ (r : Row). not (has_rowid (pos c.0) r) in
      let first : IsPermutation crates (c ∷ others c.0) = subst (λ cs. IsPermutation crates (cs ++ others c.0)) (one c i) (IsPermutation-filter_both mine (λ d. not (mine d)) (λ d. refl) crates) in
      let was : filter other (map row crates) ≡ map row (others c.0) =
      filter_map row other crates ∙ ap (map row) (same_filter (λ d. other (row d)) (λ d. not (d.0 == c.0)) (λ d. ap not (keyed d c.0)) crates) in
      let kept : IsPermutation (map row (others c.0)) rest = subst (λ (rs : List Row). IsPermutation rs rest) was (IsPermutation-filter other (map row crates) rows are) in
      let still : IsPermutation (map now (others c.0)) rest = subst (λ (rs : List Row). IsPermutation rs rest) (sym (map_same now row (others c.0) (λ d j. same d (in_filter (λ d. not (d.0 == c.0)) crates d j) (is_other d.0 c.0 (filtered_passes (λ d. not (d.0 == c.0)) crates d j))))) kept in
      let all : IsPermutation (now c ∷ map now (others c.0)) (now c ∷ rest) = IsPermutation-cons (now c) (map now (others c.0)) rest still in
      let ended : IsPermutation (now c ∷ rest) after = subst (IsPermutation (now c ∷ rest)) (sym put) (subst (λ (r : Row). IsPermutation (r ∷ rest) (put_row (Int (pos c.0) ∷ columns) rest)) (sym is) (put_permutes (Int (pos c.0) ∷ columns) rest (free_without (pos c.0) columns rows))) in
      IsPermutation-trans _ (map now (c ∷ others c.0)) _ (IsPermutation-map now crates (c ∷ others c.0) first) (IsPermutation-trans _ (now c ∷ rest) _ all ended)

-- the same of summaries
module _ (ids after : IdAssignment) (yanked marked : finset.FinSet mark_cmp) (rows new : List Row) (up : IsStrictlySortedBy nat_cmp (map (λ c. c.0) ids.crates)) (stand : StandSummaries ids yanked rows) where
  abbrev row : StoredCrate → Row
  row = row_of_summary ids yanked

  abbrev now : StoredCrate → Row
  now = row_of_summary after marked

  keyed : (c : StoredCrate) (n : ℕ) → has_rowid (pos n) (row c) ≡ (c.0 == n)
  keyed c n = same_number c.0 n

  -- the row of one crate is put in the place of its old one
  pub put_at : (c : StoredCrate) → IsIn c ids.crates → new ≡ put_row (now c) (without_rowid (pos c.0) rows) → ((d : StoredCrate) → IsIn d ids.crates → (d.0 == c.0) ≡ false → now d ≡ row d) → IsPermutation (map now ids.crates) new
  put_at c i put same = replaced ids.crates up row now keyed rows new stand.are c (drop 1 (now c)) i refl same put

  pub summary_at : (c : StoredCrate) → IsIn c ids.crates → filter (has_rowid (pos c.0)) rows ≡ row c ∷ []
  summary_at c i = row_at ids.crates up row now keyed rows new stand.are c i

-- a version that is added is none of another crate
pub its_other : (ids : IdAssignment) (of_crate : ℕ) (p : Publication) (id : ℕ) → (of_crate == id) ≡ false → its_versions (ids_with_version of_crate p ids) id ≡ its_versions ids id
its_other ids of_crate p id apart =
    let v : StoredVersion = record { id = next_version ids; of_crate = of_crate; publication = p } in
    let mine : StoredVersion → Bool = λ v. v.of_crate == id in
    let none : filter mine (v ∷ []) ≡ [] = rw apart refl in
    filter-append mine ids.versions (v ∷ []) ∙ ap (λ vs. its_versions ids id ++ vs) none ∙ append-nil (its_versions ids id)

abbrev last_of : IdAssignment → ℕ → Publication → StoredVersion
last_of ids of_crate p = record { id = next_version ids; of_crate = of_crate; publication = p }

-- it is the last one of its own
its_more : (ids : IdAssignment) (id : ℕ) (p : Publication) → its_versions (ids_with_version id p ids) id ≡ its_versions ids id ++ last_of ids id p ∷ []
its_more ids id p =
    let mine : StoredVersion → Bool = λ v. v.of_crate == id in
    let one : filter mine (last_of ids id p ∷ []) ≡ last_of ids id p ∷ [] = rw (eq-eqb id id refl) refl in
    filter-append mine ids.versions (last_of ids id p ∷ []) ∙ ap (λ vs. its_versions ids id ++ vs) one

-- a list with an element is not empty
first_of : {X : Type 0} (xs : List X) (x : X) → IsIn x xs → (y : X) × (ys : List X) × (xs ≡ y ∷ ys)
first_of [] x i = absurd i
first_of (y ∷ ys) x i = (y, ys, refl)

-- one more version of a crate that is there
module _ (ids : IdAssignment) (ps more : List Publication) (yanked : finset.FinSet mark_cmp) (old mid last : Trees) (h : StandCrates ids ps yanked old) (id : ℕ) (p : Publication) (after : StandCrates (ids_with_version id p ids) more yanked mid) (there : IsIn (id, p.name) ids.crates)
    (stand : StandSummaries ids yanked (mid 16)) where
  its : List StoredVersion
  its = its_versions ids id

  -- the highest of those before
  top : (b : StoredVersion) × IsTopOf yanked its b × IsIn b ids.versions
  unfolding its
  top =
      let v = version_of ids ps yanked old h (id, p.name) there in
      let first = first_of its v.0 (kept (λ v. v.of_crate == id) ids.versions v.0 v.1 (eq-eqb v.0.of_crate id (sym v.2))) in
      let b = some_top yanked first.0 first.1 in
      let is : IsTopOf yanked its b.0 = subst (λ vs. IsTopOf yanked vs b.0) (sym first.2) b.1 in
      (b.0, is, in_filter (λ v. v.of_crate == id) ids.versions b.0 (in_at its is.place b.0 is.at))

  pub summaries_next : (key : ℕ) → key ≡ next_version ids → PushesSummary id key mid last → StandSummaries (ids_with_version id p ids) yanked (last 16)
  unfolding its
  summaries_next key is push =
      let all = ids_with_version id p ids in
      let v = last_of ids id p in
      let b = top.0 in
      let same : row_of_summary all yanked (id, p.name) ≡ summary_row id (higher_of (mark_shown yanked b) (mark_shown yanked v)).id (length_among yanked its + line_length (mark_shown yanked v)) =
      ap (row_among yanked id) (its_more ids id p) ∙ (λ i. summary_row id (top_pushed_by yanked its b v top.1 i) (length_pushed yanked its v i)) in
      let has : HasSummary id b.id (length_among yanked its) mid = summary_at ids ids yanked yanked (mid 16) (mid 16) h.up stand (id, p.name) there ∙ ap (λ n. summary_row id n (length_among yanked its) ∷ []) (id_found yanked its b top.1) in
      let put = push.row (mark_shown yanked b) (mark_shown yanked v) (length_among yanked its) (sym is) has (version_at all more yanked mid after b (in_more ids.versions (v ∷ []) b top.2)) (version_at all more yanked mid after v (in_last ids.versions v)) in
      record { are = put_at ids all yanked yanked (mid 16) (last 16) h.up stand (id, p.name) there (put ∙ ap (λ r. put_row r (without_rowid (pos id) (mid 16))) (sym same)) (λ d i apart. ap (row_among yanked d.0) (its_other ids id p d.0 (flipped d.0 id apart))) }

module _ (ids : IdAssignment) (ps : List Publication) (yanked : finset.FinSet mark_cmp) (db : Trees) (h : StandCrates ids ps yanked db) (rows new : List Row) (stand : StandSummaries ids yanked rows) where
  -- a mark of a version of a crate that is there is changed
  pub summaries_marked : (id : ℕ) (name text : Text) (b : Bool) → IsIn (id, name) ids.crates → new ≡ put_row (row_among (marks yanked (canon name) text b) id (its_versions ids id)) (without_rowid (pos id) rows) → StandSummaries ids (marks yanked (canon name) text b) new
  summaries_marked id name text b there put = record { are = put_at ids ids yanked marked rows new h.up stand (id, name) there put same }
    where
      marked : finset.FinSet mark_cmp
      marked = marks yanked (canon name) text b

      same : (d : StoredCrate) → IsIn d ids.crates → (d.0 == id) ≡ false → row_of_summary ids marked d ≡ row_of_summary ids yanked d
      same d i apart = same_row marked yanked d.0 (its_versions ids d.0) (λ v j.
          let p = v.publication in
          let stored = in_filter (λ v. v.of_crate == d.0) ids.versions v j in
          let of_d = eqb-true v.of_crate d.0 (filtered_passes (λ v. v.of_crate == d.0) ids.versions v j) in
          let differs : collides p.name name ≡ false = sym (same_crate ids ps yanked db h id name there v stored) ∙ ap (λ n. n == id) of_d ∙ apart in
          mark_of_other yanked (canon name) text b (canon p.name) p.version (λ e f. true_not_false _ (bytes_same _ _ e) differs))

-- a crate is added with its first version
module _ (ids : IdAssignment) (ps more : List Publication) (yanked : finset.FinSet mark_cmp) (old mid last : Trees) (h : StandCrates ids ps yanked old) (p : Publication) (after : StandCrates (ids_with_crate p ids) more yanked mid) (stand : StandSummaries ids yanked (mid 16)) where
  -- no version was of it
  none_yet : its_versions ids (next_crate ids) ≡ []
  none_yet = none_pass (λ _ _. true) (λ v. v.of_crate == next_crate ids) ids.versions (λ v i.
      let c = crate_of ids ps yanked old h v i in
      flipped (next_crate ids) v.of_crate (subst (λ n. (next_crate ids == n) ≡ false) c.2 (next_other (next_crate ids) c.0.0 (reaches (map (λ c. c.0) ids.crates) c.0.0 (in_map (λ c. c.0) ids.crates c.0 c.1)))))

  pub summaries_first : (key : ℕ) → key ≡ next_version ids → AddsSummary (next_crate ids) key mid last → StandSummaries (ids_with_crate p ids) yanked (last 16)
  summaries_first key is added =
      let id = next_crate ids in
      let all = ids_with_crate p ids in
      let mine : StoredCrate = (id, p.name) in
      let v = last_of ids id p in
      let only : its_versions all id ≡ v ∷ [] = its_more ids id p ∙ ap (λ vs. vs ++ v ∷ []) none_yet in
      let row : row_of_summary all yanked mine ≡ summary_row id key (line_length (mark_shown yanked v)) = ap (row_among yanked id) only ∙ (λ i. summary_row id ((id_found yanked (v ∷ []) v (only_top yanked v) ∙ sym is) i) ((length_pushed yanked [] v ∙ zero-add (line_length (mark_shown yanked v))) i)) in
      let put = subst (λ (r : Row). IsPermutation (r ∷ mid 16) (last 16)) (sym row) (added.row (mark_shown yanked v) (sym is) (version_at all more yanked mid after v (in_last ids.versions v))) in
      let below : (c : StoredCrate) → IsIn c ids.crates → (id == c.0) ≡ false = λ c i. next_other id c.0 (reaches (map (λ c. c.0) ids.crates) c.0 (in_map (λ c. c.0) ids.crates c i)) in
      let same = map_same (row_of_summary all yanked) (row_of_summary ids yanked) ids.crates (λ c i. ap (row_among yanked c.0) (its_other ids id p c.0 (below c i))) in
      record { are = pushed (row_of_summary all yanked) ids.crates mine (mid 16) (last 16) (subst (λ (rs : List Row). IsPermutation rs (mid 16)) (sym same) stand.are) put }
