-- The highest of a crate's versions, and the length of its index file, once there is one more.
use Rattle.reg_tables_represent.proofs.Words.{append-nil, length-append, length-map, map-append, end_of, file_text, higher_of, id_among}
use Rattle.reg_tables_represent.proofs.Words.{is_marked, length_among, line_length, mark_shown, marked_of, IsTop, Marked, place_after}
use Rattle.reg_tables_represent.proofs.Words.{takes_over, top_is_top}
use Rattle.reg_tables_represent.proofs.Common.{◌≡◌, ◌<◌, ◌+◌, [], ◌∷◌, ◌++◌, ◌∙◌, ap, arith, Bool, cond, false, inl, inr, IsIn, length, List, map, mark_cmp, option_and_then, option_map, refl, slice_get, Some, subst, suc, sym, true, unwrap_or, zero, ℕ}
use Rattle.std.specs.FinSet as finset
use Rattle.std.proofs.lemmas.List.Concat.{flat_map-append}
use Rattle.std.proofs.lemmas.Option.{slice_get_within}
use Rattle.reg_line.specs.File.{line_of}
use Rattle.reg_tables_represent.proofs.SummaryRows.{got_map}
use Rattle.reg_tables_represent.specs.Stored.{StoredVersion}
use Rattle.reg_tables_represent.specs.Summaries.{top_among}
use Rattle.reg_versions.proofs.Pushed.{top_alone, top_pushed, top_there}

pub pushed_left : {X : Type 0} (l : List X) (x : X) (j : ℕ) → j < length l → slice_get (l ++ x ∷ []) j ≡ slice_get l j
pushed_left [] x j h = absurd (omega (arith, h))
pushed_left (y ∷ l) x zero h = refl
pushed_left (y ∷ l) x (suc j) h = pushed_left l x j (omega (arith, h))

pub pushed_last : {X : Type 0} (l : List X) (x : X) → slice_get (l ++ x ∷ []) (length l) ≡ Some x
pushed_last [] x = refl
pushed_last (y ∷ l) x = pushed_last l x

-- what stands at a place is in the list
pub in_at : {X : Type 0} (xs : List X) (k : ℕ) (x : X) → slice_get xs k ≡ Some x → IsIn x xs
in_at [] k x e = cc
in_at (y ∷ xs) zero x e = inl cc
in_at (y ∷ xs) (suc k) x e = inr (in_at xs k x e)

module _ (yanked : finset.FinSet mark_cmp) where
  abbrev pub all : List StoredVersion → List Marked
  all vs = map (marked_of yanked) vs

  -- the place of a top, and what stands there
  pub record IsTopOf (vs : List StoredVersion) (v : StoredVersion) : Type 0 where
    pub place : ℕ
    pub top : IsTop (all vs) place
    pub at : slice_get vs place ≡ Some v

  pub top_found : (vs : List StoredVersion) (v : StoredVersion) → IsTopOf vs v → top_among yanked vs ≡ Some v
  top_found vs v is = ap (option_and_then (slice_get vs)) ((top_is_top (all vs) is.place).1 is.top) ∙ is.at

  pub id_found : (vs : List StoredVersion) (v : StoredVersion) → IsTopOf vs v → id_among yanked vs ≡ v.id
  id_found vs v is = ap (λ o. unwrap_or (option_map (λ (v : StoredVersion). v.id) o) 0) (top_found vs v is)

  element_at : (vs : List StoredVersion) (k : ℕ) (m : Marked) → slice_get (all vs) k ≡ Some m → (v : StoredVersion) × (slice_get vs k ≡ Some v)
  element_at [] k m e = absurd cc
  element_at (v ∷ vs) zero m e = (v, refl)
  element_at (v ∷ vs) (suc k) m e = element_at vs k m e

  -- where there is a version, one is the highest
  pub some_top : (w : StoredVersion) (vs : List StoredVersion) → (v : StoredVersion) × IsTopOf (w ∷ vs) v
  some_top w vs =
      let found = top_there (marked_of yanked w) (all vs) in
      let v = element_at (w ∷ vs) found.0 found.1.0 found.1.1 in
      (v.0, record { place = found.0; top = found.1; at = v.1 })

  pub only_top : (v : StoredVersion) → IsTopOf (v ∷ []) v
  only_top v = record { place = 0; top = top_alone (marked_of yanked v); at = refl }

  pub shown_at : (vs : List StoredVersion) (k : ℕ) (v : StoredVersion) → slice_get vs k ≡ Some v → slice_get (all vs) k ≡ Some (marked_of yanked v)
  shown_at vs k v e = got_map (marked_of yanked) k vs ∙ ap (option_map (marked_of yanked)) e

  -- one more: it or the old one is the highest
  pub top_pushed_by : (vs : List StoredVersion) (b x : StoredVersion) → IsTopOf vs b → id_among yanked (vs ++ x ∷ []) ≡ (higher_of (mark_shown yanked b) (mark_shown yanked x)).id
  top_pushed_by vs b x is = by (takes_over (marked_of yanked b) (marked_of yanked x)) refl
    where
      after : IsTop (all (vs ++ x ∷ [])) (place_after (takes_over (marked_of yanked b) (marked_of yanked x)) (length (all vs)) is.place)
      after = subst (λ (l : List Marked). IsTop l (place_after (takes_over (marked_of yanked b) (marked_of yanked x)) (length (all vs)) is.place)) (sym (map-append (marked_of yanked) vs (x ∷ [])))
          (top_pushed (all vs) is.place (marked_of yanked b) (marked_of yanked x) is.top (shown_at vs is.place b is.at))

      by : (c : Bool) → takes_over (marked_of yanked b) (marked_of yanked x) ≡ c → id_among yanked (vs ++ x ∷ []) ≡ (cond (takes_over (marked_of yanked b) (marked_of yanked x)) (mark_shown yanked x) (mark_shown yanked b)).id
      by true e =
          let top : IsTop (all (vs ++ x ∷ [])) (length vs) = subst (IsTop (all (vs ++ x ∷ []))) (ap (λ c. place_after c (length (all vs)) is.place) e ∙ length-map vs (marked_of yanked)) after in
          id_found (vs ++ x ∷ []) x (record { place = length vs; top = top; at = pushed_last vs x }) ∙ sym (ap (λ c. (cond c (mark_shown yanked x) (mark_shown yanked b)).id) e)
      by false e =
          let top : IsTop (all (vs ++ x ∷ [])) is.place = subst (IsTop (all (vs ++ x ∷ []))) (ap (λ c. place_after c (length (all vs)) is.place) e) after in
          id_found (vs ++ x ∷ []) b (record { place = is.place; top = top; at = pushed_left vs x is.place (slice_get_within vs is.place b is.at) ∙ is.at })
          ∙ sym (ap (λ c. (cond c (mark_shown yanked x) (mark_shown yanked b)).id) e)

  entry : StoredVersion → List ℕ × Bool
  entry v = (v.publication.stem, is_marked yanked v)

  -- its line is one more
  pub length_pushed : (vs : List StoredVersion) (x : StoredVersion) → length_among yanked (vs ++ x ∷ []) ≡ length_among yanked vs + line_length (mark_shown yanked x)
  unfolding entry
  length_pushed vs x =
      ap (λ es. length (file_text es)) (map-append entry vs (x ∷ []))
      ∙ ap length (flat_map-append line_of (map entry vs) (entry x ∷ []))
      ∙ length-append (file_text (map entry vs)) (line_of (entry x) ++ [])
      ∙ ap (λ n. length (file_text (map entry vs)) + n) (ap length (append-nil (line_of (entry x))) ∙ length-append x.publication.stem (end_of (is_marked yanked x)))
