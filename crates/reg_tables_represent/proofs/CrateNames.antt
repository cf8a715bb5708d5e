-- The crate of a canonical name, as a selection shows it.
use Rattle.reg_tables_represent.proofs.Words.{IfSome, string_bytes, Publication, mark_cmp, Crate, crate_columns, one_of, entry_of_crate}
use Rattle.reg_tables_represent.proofs.Words.{StoredCrate, StoredVersion, row_of_crate, StandCrates, IdAssignment, spelling_at, is_text, shows}
use Rattle.reg_tables_represent.proofs.Common.{◌≡◌, [], ◌∷◌, ◌∙◌, ap, Bool, bytes_eq, canon, collides, cond, false, filter, filtered_passes, find, in_filter, inl, inr, IsIn, List, map, None, not_true, Option, option_map, refl, shown_of, Some, subst, sym, Trees, true, true_not_false}
use Rattle.std.specs.FinSet as finset
use Rattle.reg_model.specs.Registry.{Text as Words}
use Rattle.reg_tables_represent.proofs.AccountEntries.{same_text, number_is, words_are, heads, tails}
use Rattle.reg_tables_represent.proofs.CrateLemmas.{same_bytes, bytes_same, crate_of, one_by_canon, spelled_at, version_of}
use Rattle.reg_tables_represent.proofs.Selected.{selected_one}

pub kept : {X : Type 0} (p : X → Bool) (xs : List X) (x : X) → IsIn x xs → p x ≡ true → IsIn x (filter p xs)
kept p [] x i e = absurd i
kept p (y ∷ ys) x i e = split (p y) refl i (λ j. kept p ys x j e)
  where
    split : (b : Bool) → p y ≡ b → IsIn x (y ∷ ys) → (IsIn x ys → IsIn x (filter p ys)) → IsIn x (cond b (y ∷ filter p ys) (filter p ys))
    split true t (inl same) rest = inl same
    split true t (inr j) rest = inr (rest j)
    split false t (inl same) rest = true_not_false _ e (ap p (sym same) ∙ t)
    split false t (inr j) rest = rest j

pub same_shown : (c : StoredCrate) (o : Crate) → shows (0 ∷ 2 ∷ 3 ∷ []) (row_of_crate c) ≡ crate_columns o → c ≡ entry_of_crate o
same_shown c o h = let id = number_is (heads h) in let name = words_are (heads (tails (tails h))) in λ i. (id i, name i)

abbrev pub first_of : List Publication → Words → Option Words
first_of ps n = option_map (λ p. p.name) (find (λ p. collides p.name n) ps)

pub none_first : (n : Words) (vs : List StoredVersion) → ((v : StoredVersion) → IsIn v vs → collides v.publication.name n ≡ false)
    → first_of (map (λ v. v.publication) vs) n ≡ None
none_first n [] h = refl
none_first n (v ∷ vs) h = rw (h v (inl refl)) (none_first n vs (λ w i. h w (inr i)))

pub some_first : (n name : Words) (vs : List StoredVersion)
    → ((v : StoredVersion) → IsIn v vs → collides v.publication.name n ≡ true → v.publication.name ≡ name) → (v : StoredVersion) → IsIn v vs
    → collides v.publication.name n ≡ true
    → first_of (map (λ v. v.publication) vs) n ≡ Some name
some_first n name [] h v i met = absurd i
some_first n name (w ∷ vs) h v i met = split (collides w.publication.name n) refl (λ j. some_first n name vs (λ u k. h u (inr k)) v j met)
  where
    later : collides w.publication.name n ≡ false → IsIn v (w ∷ vs) → IsIn v vs
    later e (inl same) = true_not_false _ (subst (λ (u : StoredVersion). collides u.publication.name n ≡ true) (sym same) met) e
    later e (inr j) = j

    split : (b : Bool) → collides w.publication.name n ≡ b → (IsIn v vs → first_of (map (λ v. v.publication) vs) n ≡ Some name) → first_of (map (λ v. v.publication) (w ∷ vs)) n ≡ Some name
    split true e rest = rw e (ap Some (h w (inl refl) e))
    split false e rest = rw e (rest (later e i))

abbrev pub named : Words → StoredCrate → Bool
named c x = bytes_eq (canon x.1) c

module _ (ids : IdAssignment) (ps : List Publication) (yanked : finset.FinSet mark_cmp) (db : Trees) (h : StandCrates ids ps yanked db) where
  -- the crate that is shown under a canonical text
  pub shown_crate : (c : Words) (found : Option Crate) → map (shows (0 ∷ 2 ∷ 3 ∷ [])) (filter (is_text 2 c) (db 7)) ≡ shown_of crate_columns found → filter (named c) ids.crates ≡ one_of (option_map entry_of_crate found)
  shown_crate c found e =
      selected_one row_of_crate (shows (0 ∷ 2 ∷ 3 ∷ [])) crate_columns entry_of_crate same_shown (is_text 2 c) (named c) (λ x. same_text (canon x.1) c) ids.crates (db 7) found h.crate_rows e

  in_named : (c : Words) (x : StoredCrate) → IsIn x ids.crates → named c x ≡ true → IsIn x (filter (named c) ids.crates)
  in_named c x i e = kept (named c) ids.crates x i e

  -- it has its spelling at its id
  pub crate_spelled : (c : Words) (found : Option Crate) → filter (named c) ids.crates ≡ one_of (option_map entry_of_crate found) → IfSome found (λ x. spelling_at ids x.id ≡ Some (string_bytes x.name))
  crate_spelled c None e = tt
  crate_spelled c (Some x) e =
      let e0 = entry_of_crate x in
      spelled_at ids ps yanked db h e0.0 e0.1 (in_filter (named c) ids.crates e0 (subst (IsIn e0) (sym e) (inl refl)))

  -- the first publication of a crate that is stored has its spelling
  pub first_spelled : (x : StoredCrate) → IsIn x ids.crates → (n : Words) → canon n ≡ canon x.1 → first_of ps n ≡ Some x.1
  first_spelled x i n at =
      let of = version_of ids ps yanked db h x i in
      let met = bytes_same (canon of.0.publication.name) (canon n) (ap canon (sym of.3) ∙ sym at) in
      subst (λ qs. first_of qs n ≡ Some x.1) h.published (some_first n x.1 ids.versions spelled of.0 of.1 met)
    where
      spelled : (v : StoredVersion) → IsIn v ids.versions → collides v.publication.name n ≡ true → v.publication.name ≡ x.1
      spelled v j met =
          let c = crate_of ids ps yanked db h v j in
          let same = one_by_canon ids ps yanked db h c.0 x c.1 i (ap canon c.3 ∙ same_bytes (canon v.publication.name) (canon n) met ∙ at) in
          sym c.3 ∙ ap (λ d. d.1) same

  -- and that of the first publication
  pub crate_first : (c n : Words) (found : Option Crate) → canon n ≡ c → filter (named c) ids.crates ≡ one_of (option_map entry_of_crate found) → option_map (λ x. string_bytes x.name) found ≡ first_of ps n
  crate_first c n None at e = subst (λ qs. None ≡ first_of qs n) h.published (sym (none_first n ids.versions none))
    where
      none : (v : StoredVersion) → IsIn v ids.versions → collides v.publication.name n ≡ false
      none v i =
          let of = crate_of ids ps yanked db h v i in
          not_true _ (λ met. subst (IsIn of.0) e (in_named c of.0 of.1 (bytes_same _ _ (ap canon of.3 ∙ same_bytes _ _ met ∙ at))))
  crate_first c n (Some x) at e =
      let e0 : StoredCrate = entry_of_crate x in
      let shown : IsIn e0 (filter (named c) ids.crates) = subst (IsIn e0) (sym e) (inl refl) in
      let is = filtered_passes (named c) ids.crates e0 shown in
      sym (first_spelled e0 (in_filter (named c) ids.crates e0 shown) n (at ∙ sym (same_bytes (canon e0.1) c is)))
