-- The highest of a crate's versions, and the length of its index file, once a mark is changed.
use Rattle.reg_tables_represent.proofs.Words.{◌≡◌, ◌==◌, ◌<◌, ◌≤◌, ◌+◌, ℕ, zero, suc, List, [], ◌∷◌, ◌++◌, length, Bool, true, false, not}
use Rattle.reg_tables_represent.proofs.Words.{cond, ◌||◌, nat_lt, Option, Some, None, inl, inr, refl, sym, ap, subst, ◌∙◌, arith, eq-eqb}
use Rattle.reg_tables_represent.proofs.Words.{eqb-false, eqb-true, ltb-false, ltb-true, length-append, ascending-filter, end_of, StandCrates}
use Rattle.reg_tables_represent.proofs.Words.{ShownMark, higher_of, highest_of, id_among, is_marked, its_versions, length_among, length_of}
use Rattle.reg_tables_represent.proofs.Words.{line_length, mark_shown, marked_of, IsHigherMarked, IsMarkChange, IsTop, place_after}
use Rattle.reg_tables_represent.proofs.Words.{takes_over, parts_of}
use Rattle.reg_tables_represent.proofs.Common.{each_in, in_filter, IsAscending, IsIn, mark_cmp, option_map, Publication, slice_get, Trees, true_not_false}
use Rattle.std.specs.FinSet as finset
use Rattle.reg_tables_represent.proofs.SummaryPushed.{IsTopOf, all, id_found, in_at, shown_at, some_top}
use Rattle.reg_tables_represent.proofs.SummaryRows.{got_map, version_at}
use Rattle.reg_tables_represent.proofs.VersionEntries.{ids_rise}
use Rattle.reg_tables_represent.proofs.Numbered.{same_some}
use Rattle.reg_tables_represent.specs.Stored.{IdAssignment, StoredVersion}
use Rattle.reg_tables_represent.specs.Summaries.{higher_by_id, higher_marked}
use Rattle.reg_versions.specs.Remarked.{IsRemarked}
use Rattle.reg_versions.proofs.Remarked.{top_again, top_earlier, top_later, top_yanked}

-- what is in a list stands at a place of it
place_of : {X : Type 0} (xs : List X) (x : X) → IsIn x xs → (k : ℕ) × (slice_get xs k ≡ Some x)
place_of [] x i = absurd i
place_of (y ∷ xs) x (inl e) = (0, ap Some e)
place_of (y ∷ xs) x (inr i) = let k = place_of xs x i in (suc k.0, k.1)

-- of a list that rises, the later is above the earlier
rises_at : {X : Type 0} (R : X → X → Type 0) (xs : List X) → IsAscending R xs → (j k : ℕ) (x y : X) → slice_get xs j ≡ Some x → slice_get xs k ≡ Some y → j < k → R x y
rises_at R [] up j k x y e f lt = cc
rises_at R (z ∷ xs) up zero zero x y e f lt = absurd (omega (arith, lt))
rises_at R (z ∷ xs) up zero (suc k) x y e f lt = let same : z ≡ x = cc e in subst (λ w. R w y) same (each_in (R z) xs y up.0 (in_at xs k y f))
rises_at R (z ∷ xs) up (suc j) zero x y e f lt = absurd (omega (arith, lt))
rises_at R (z ∷ xs) up (suc j) (suc k) x y e f lt = rises_at R xs up.1 j k x y e f (omega (arith, lt))

abbrev IsBelow : StoredVersion → StoredVersion → Type 0
IsBelow v w = v.id < w.id

abbrev Rise : List StoredVersion → Type 0
Rise vs = IsAscending IsBelow vs

module _ (before after : finset.FinSet mark_cmp) where
  length_cons : (yanked : finset.FinSet mark_cmp) (x : StoredVersion) (xs : List StoredVersion) → length_among yanked (x ∷ xs) ≡ line_length (mark_shown yanked x) + length_among yanked xs
  length_cons yanked x xs =
      let stem = x.publication.stem in
      let end = end_of (is_marked yanked x) in
      length-append (stem ++ end) _ ∙ ap (λ n. n + length_among yanked xs) (length-append stem end)

  length_same : (xs : List StoredVersion) → ((j : ℕ) (w : StoredVersion) → slice_get xs j ≡ Some w → is_marked before w ≡ is_marked after w) → length_among after xs ≡ length_among before xs
  length_same [] same = refl
  length_same (x ∷ xs) same =
      length_cons after x xs ∙ (λ i. (length x.publication.stem + length (end_of (sym (same 0 x refl) i))) + length_same xs (λ j w e. same (suc j) w e) i) ∙ sym (length_cons before x xs)

  swapped : (s a b r q : ℕ) → r ≡ q → ((s + a) + r) + b ≡ ((s + b) + q) + a
  swapped s a b r q e = omega (arith, e)

  further : (l m r q a b : ℕ) → l ≡ m → r + a ≡ q + b → (l + r) + a ≡ (m + q) + b
  further l m r q a b e f = omega (arith, e, f)

  -- one line is longer or shorter
  length_at : (v : StoredVersion) (xs : List StoredVersion) (k : ℕ) → slice_get xs k ≡ Some v → ((j : ℕ) (w : StoredVersion) → (j ≡ k → ⊥) → slice_get xs j ≡ Some w → is_marked before w ≡ is_marked after w)
      → length_among after xs + length (end_of (is_marked before v)) ≡ length_among before xs + length (end_of (is_marked after v))
  length_at v [] k e same = cc
  length_at v (x ∷ xs) zero e same =
      let is : x ≡ v = cc e in
      let rest = length_same xs (λ j w f. same (suc j) w (λ h. absurd (omega (arith, h))) f) in
      subst (λ (y : StoredVersion). length_among after (x ∷ xs) + length (end_of (is_marked before y)) ≡ length_among before (x ∷ xs) + length (end_of (is_marked after y))) is
      (ap (λ n. n + length (end_of (is_marked before x))) (length_cons after x xs)
      ∙ swapped (length x.publication.stem) (length (end_of (is_marked after x))) (length (end_of (is_marked before x))) (length_among after xs) (length_among before xs) rest
      ∙ sym (ap (λ n. n + length (end_of (is_marked after x))) (length_cons before x xs)))
  length_at v (x ∷ xs) (suc k) e same =
      let rest = length_at v xs k e (λ j w apart f. same (suc j) w (λ h. apart (omega (arith, h))) f) in
      let line : line_length (mark_shown after x) ≡ line_length (mark_shown before x) = ap (λ b. length x.publication.stem + length (end_of b)) (sym (same 0 x (λ h. absurd (omega (arith, h))) refl)) in
      ap (λ n. n + length (end_of (is_marked before v))) (length_cons after x xs)
      ∙ further (line_length (mark_shown after x)) (line_length (mark_shown before x)) (length_among after xs) (length_among before xs) (length (end_of (is_marked before v))) (length (end_of (is_marked after v))) line rest
      ∙ sym (ap (λ n. n + length (end_of (is_marked after v))) (length_cons before x xs))

  module _ (vs : List StoredVersion) (up : Rise vs) (v : StoredVersion) (change : IsMarkChange vs v before after) where
    k : ℕ
    k = (place_of vs v change.there).0

    at : slice_get vs k ≡ Some v
    unfolding k
    at = (place_of vs v change.there).1

    -- one id is at one place
    same_place : (j l : ℕ) (w x : StoredVersion) → slice_get vs j ≡ Some w → slice_get vs l ≡ Some x → w.id ≡ x.id → j ≡ l
    same_place j l w x e f same = split (nat_lt j l) refl (nat_lt l j) refl
      where
        split : (a : Bool) → nat_lt j l ≡ a → (b : Bool) → nat_lt l j ≡ b → j ≡ l
        split true a b c = let lt : w.id < x.id = rises_at IsBelow vs up j l w x e f (ltb-true j l a) in absurd (omega (arith, lt, same))
        split false a true c = let lt : x.id < w.id = rises_at IsBelow vs up l j x w f e (ltb-true l j c) in absurd (omega (arith, lt, same))
        split false a false c = omega (arith, ltb-false j l a, ltb-false l j c)

    -- the order of ids is that of places
    lower_place : (j l : ℕ) (w x : StoredVersion) → slice_get vs j ≡ Some w → slice_get vs l ≡ Some x → w.id < x.id → j < l
    lower_place j l w x e f less = split (nat_lt j l) refl (nat_lt l j) refl
      where
        split : (a : Bool) → nat_lt j l ≡ a → (b : Bool) → nat_lt l j ≡ b → j < l
        split true a b c = ltb-true j l a
        split false a true c = let lt : x.id < w.id = rises_at IsBelow vs up l j x w f e (ltb-true l j c) in absurd (omega (arith, lt, less))
        split false a false c =
            let one : j ≡ l = omega (arith, ltb-false j l a, ltb-false l j c) in
            let is : w ≡ x = same_some (sym e ∙ ap (slice_get vs) one ∙ f) in
            absurd (omega (arith, less, ap (λ (y : StoredVersion). y.id) is))

    others_at : (j : ℕ) (w : StoredVersion) → (j ≡ k → ⊥) → slice_get vs j ≡ Some w → is_marked before w ≡ is_marked after w
    others_at j w apart e = change.others w (in_at vs j w e) (λ same. apart (same_place j k w v e at same))

    remarked : (m : Bool) → is_marked after v ≡ m → IsRemarked (all before vs) (all after vs) k (parts_of v.publication.version) m
    remarked m e = record {
      was = shown_at before vs k v at ∙ ap (λ b. Some (parts_of v.publication.version, b)) (change.changed ∙ ap not e);
      now = shown_at after vs k v at ∙ ap (λ b. Some (parts_of v.publication.version, b)) e;
      rest = rest;
    }
      where
        rest : (j : ℕ) → (j ≡ k → ⊥) → slice_get (all after vs) j ≡ slice_get (all before vs) j
        rest j apart = got_map (marked_of after) j vs ∙ by (slice_get vs j) refl ∙ sym (got_map (marked_of before) j vs)
          where
            by : (o : Option StoredVersion) → slice_get vs j ≡ o → option_map (marked_of after) o ≡ option_map (marked_of before) o
            by None f = refl
            by (Some w) f = ap (λ b. Some (parts_of w.publication.version, b)) (sym (others_at j w apart f))

    module _ (b : StoredVersion) (is : IsTopOf before vs b) where
      abbrev i : ℕ
      i = is.place

      stays : IsTop (all after vs) i → id_among after vs ≡ b.id
      stays t = id_found after vs b (record { place = i; top = t; at = is.at })

      takes : IsTop (all after vs) k → id_among after vs ≡ v.id
      takes t = id_found after vs v (record { place = k; top = t; at = at })

      abbrev one : ShownMark
      one = mark_shown after v

      abbrev top : ShownMark
      top = mark_shown after b

      apart_places : (v.id == b.id) ≡ false → k ≡ i → ⊥
      apart_places s e =
          let same : v ≡ b = same_some (sym at ∙ ap (slice_get vs) e ∙ is.at) in
          true_not_false (v.id == b.id) (eq-eqb v.id b.id (ap (λ (y : StoredVersion). y.id) same)) s

      top_same : (v.id == b.id) ≡ false → marked_of before b ≡ marked_of after b
      top_same s = ap (λ m. (parts_of b.publication.version, m)) (others_at i b (λ e. apart_places s (sym e)) is.at)

      by_earlier : (c : Bool) → takes_over (marked_of after v) (marked_of after b) ≡ c → IsTop (all after vs) (place_after c i k) → id_among after vs ≡ (higher_of one top).id
      by_earlier true e t = stays t ∙ sym (ap (λ c. (cond c top one).id) e)
      by_earlier false e t = takes t ∙ sym (ap (λ c. (cond c top one).id) e)

      by_later : (c : Bool) → takes_over (marked_of after b) (marked_of after v) ≡ c → IsTop (all after vs) (place_after c k i) → id_among after vs ≡ (higher_of top one).id
      by_later true e t = takes t ∙ sym (ap (λ c. (cond c one top).id) e)
      by_later false e t = stays t ∙ sym (ap (λ c. (cond c one top).id) e)

      earlier : is_marked after v ≡ false → (v.id == b.id) ≡ false → v.id < b.id → id_among after vs ≡ (higher_of one top).id
      earlier m s lt =
          let t = top_earlier (all before vs) (all after vs) k i (parts_of v.publication.version) (marked_of before b) is.top (shown_at before vs i b is.at) (remarked false m) (lower_place k i v b at is.at lt) in
          by_earlier (takes_over (marked_of after v) (marked_of after b)) refl
          (subst (λ c. IsTop (all after vs) (place_after c i k)) (λ n. takes_over (parts_of v.publication.version, sym m n) (top_same s n)) t)

      later : is_marked after v ≡ false → (v.id == b.id) ≡ false → b.id < v.id → id_among after vs ≡ (higher_of top one).id
      later m s lt =
          let t = top_later (all before vs) (all after vs) k i (parts_of v.publication.version) (marked_of before b) is.top (shown_at before vs i b is.at) (remarked false m) (lower_place i k b v is.at at lt) in
          by_later (takes_over (marked_of after b) (marked_of after v)) refl
          (subst (λ c. IsTop (all after vs) (place_after c k i)) (λ n. takes_over (top_same s n) (parts_of v.publication.version, sym m n)) t)

      by_id : is_marked after v ≡ false → (v.id == b.id) ≡ false → (l : Bool) → nat_lt v.id b.id ≡ l → id_among after vs ≡ (cond l (higher_of one top) (higher_of top one)).id
      by_id m s true l = earlier m s (ltb-true v.id b.id l)
      by_id m s false l = later m s (above v.id b.id (ltb-false v.id b.id l) (eqb-false v.id b.id s))
        where
          above : (n m : ℕ) → m ≤ n → (n ≡ m → ⊥) → m < n
          above n m h e = grind (arith, h, e)

      again : is_marked after v ≡ false → (v.id == b.id) ≡ true → id_among after vs ≡ b.id
      again m s =
          let same : k ≡ i = same_place k i v b at is.at (eqb-true v.id b.id s) in
          stays (subst (IsTop (all after vs)) same (top_again (all before vs) (all after vs) k (parts_of v.publication.version) (subst (IsTop (all before vs)) (sym same) is.top) (remarked false m)))

      not_top : is_marked after v ≡ true → (v.id == b.id) ≡ false → id_among after vs ≡ b.id
      not_top m s = stays (top_yanked (all before vs) (all after vs) k i (parts_of v.publication.version) is.top (remarked true m) (apart_places s))

      by_marks : (m : Bool) → is_marked after v ≡ m → (s : Bool) → (v.id == b.id) ≡ s → (m ≡ true → s ≡ true → ⊥) → id_among after vs ≡ (cond (m || s) top (higher_by_id one top)).id
      by_marks true m true s other = absurd (other refl refl)
      by_marks true m false s other = not_top m s
      by_marks false m true s other = again m s
      by_marks false m false s other = by_id m s (nat_lt v.id b.id) refl

      pub top_marked : (is_marked after v ≡ true → (v.id == b.id) ≡ true → ⊥) → id_among after vs ≡ (higher_marked top one).id
      top_marked other = by_marks (is_marked after v) refl (v.id == b.id) refl other

    pub length_remarked : length_among after vs + length (end_of (not (is_marked after v))) ≡ length_among before vs + length (end_of (is_marked after v))
    length_remarked = ap (λ b. length_among after vs + length (end_of b)) (sym change.changed) ∙ length_at v vs k at others_at

    pub some_before : (b : StoredVersion) × IsTopOf before vs b
    some_before = some_of vs v change.there
      where
        some_of : (xs : List StoredVersion) (x : StoredVersion) → IsIn x xs → (b : StoredVersion) × IsTopOf before xs b
        some_of [] x i = absurd i
        some_of (y ∷ xs) x i = some_top before y xs

-- what the summary says once the mark of a version of a crate is changed
module _ (ids : IdAssignment) (ps : List Publication) (before after : finset.FinSet mark_cmp) (db : Trees) (stands : StandCrates ids ps after db) (id : ℕ) (v : StoredVersion) (change : IsMarkChange (its_versions ids id) v before after) where
  its : List StoredVersion
  its = its_versions ids id

  up : Rise its
  unfolding its
  up = ascending-filter IsBelow (λ v. v.of_crate == id) ids.versions (ids_rise after ids.versions stands.rising)

  pub highest_is_marked : (was n : ℕ) → was ≡ highest_of ids before id → IsHigherMarked was (mark_shown after v) db n → (is_marked after v ≡ true → v.id ≡ was → ⊥) → n ≡ highest_of ids after id
  unfolding its
  highest_is_marked was n e told other =
      let b = some_before before after its up v change in
      let is : b.0.id ≡ was = sym (id_found before its b.0 b.1) ∙ sym e in
      told (mark_shown after b.0) is (version_at ids ps after db stands b.0 (in_filter (λ v. v.of_crate == id) ids.versions b.0 (in_at its b.1.place b.0 b.1.at)))
      ∙ sym (top_marked before after its up v change b.0 b.1 (λ m s. other m (eqb-true v.id b.0.id s ∙ is)))

  pub length_is_marked : (was n : ℕ) → was ≡ length_of ids before id → n + length (end_of (not (is_marked after v))) ≡ was + length (end_of (is_marked after v)) → n ≡ length_of ids after id
  unfolding its
  length_is_marked was n e h = cancel n (length_among after its) was (length_among before its) _ _ e h (length_remarked before after its up v change)
    where
      cancel : (n m was old a b : ℕ) → was ≡ old → n + a ≡ was + b → m + a ≡ old + b → n ≡ m
      cancel n m was old a b e h k = omega (arith, e, h, k)

  pub its_row : IsIn v ids.versions
  its_row = in_filter (λ v. v.of_crate == id) ids.versions v change.there
