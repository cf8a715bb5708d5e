-- The summary of a crate, as a selection shows it.
use Rattle.reg_tables_represent.proofs.Words.{file, IsSummaryOf, columns_of_summary, summary_places, summary_row, Summary, told_of, one_of}
use Rattle.reg_tables_represent.proofs.Words.{StandCrates, spelling_at, StandSummaries, highest_of, length_of}
use Rattle.reg_tables_represent.proofs.Common.{◌≡◌, ◌==◌, [], ◌∷◌, ◌∙◌, ap, eq-eqb, eqb-true, filter, filter_map, in_any, is_number, IsPermutation, length, List, map, maps_twice, nat_eq, None, none_pass, not_true, on, one_passes, Option, option_map, refl, Registry, Row, shows, Some, subst, sym, Text, Trees, true, true_not_false, ℕ}
use Rattle.reg_tables_represent.proofs.AccountEntries.{heads, number_is, tails}
use Rattle.reg_tables_represent.proofs.CrateLemmas.{apart_by, not_at, there_at}
use Rattle.reg_tables_represent.proofs.Selected.{selected_one}
use Rattle.reg_tables_represent.proofs.Standing.{same_number}
use Rattle.reg_tables_represent.proofs.SummaryLaws.{length_named}
use Rattle.reg_tables_represent.specs.Stored.{IdAssignment, StoredCrate}

-- a crate's id, the id of its highest version, and the length of its index file
abbrev Kept : Type 0
Kept = ℕ × ℕ × ℕ

abbrev row_of_kept : Kept → Row
row_of_kept k = summary_row k.0 k.1 k.2

abbrev kept_of : Summary → Kept
kept_of m = (m.crate_id, m.highest, m.index_length)

same_kept : (k : Kept) (m : Summary) → shows summary_places (row_of_kept k) ≡ columns_of_summary m → k ≡ kept_of m
same_kept k m e =
    let id = number_is (heads e) in
    let highest = number_is (heads (tails e)) in
    let long = number_is (heads (tails (tails e))) in
    λ i. (id i, highest i, long i)

one_is : {X : Type 0} (o : Option X) (x : X) → x ∷ [] ≡ one_of o → o ≡ Some x
one_is None x e = absurd cc
one_is (Some y) x e = sym (ap Some (same e))
  where
    same : {Y : Type 0} {a b : Y} → ◌≡◌ {A = List Y} (a ∷ []) (b ∷ []) → a ≡ b
    same e = cc

none_is : {X : Type 0} (o : Option X) → [] ≡ one_of o → o ≡ None
none_is None e = refl
none_is (Some y) e = absurd cc

module _ (ids : IdAssignment) (s : Registry) (db : Trees) (crates : StandCrates ids s.publications s.yanked db) (stand : StandSummaries ids s.yanked (db 16)) (id : ℕ) (found : Option Summary) (is : IsSummaryOf id db found) where
  abbrev kept : StoredCrate → Kept
  kept c = (c.0, highest_of ids s.yanked c.0, length_of ids s.yanked c.0)

  there : map kept (filter (λ c. c.0 == id) ids.crates) ≡ one_of (option_map kept_of found)
  there =
      let rows : IsPermutation (map row_of_kept (map kept ids.crates)) (db 16) = subst (λ (rs : List Row). IsPermutation rs (db 16)) (sym (maps_twice kept row_of_kept ids.crates)) stand.are in
      sym (filter_map kept (λ k. k.0 == id) ids.crates)
      ∙ selected_one row_of_kept (shows summary_places) columns_of_summary kept_of same_kept (is_number 0 id) (λ k. k.0 == id) (λ k. same_number k.0 id) (map kept ids.crates) (db 16) found rows is

  -- what is told of what was found, where it is this
  told : (o : Option Text) → option_map kept_of found ≡ told_of o None (λ name. Some (kept (id, name))) → ((name : Text) → o ≡ Some name → length_of ids s.yanked id ≡ length (file s name))
      → (option_map (λ m. m.highest) found ≡ told_of o None (λ name. Some (highest_of ids s.yanked id))) × (option_map (λ m. m.index_length) found ≡ told_of o None (λ name. Some (length (file s name))))
  told o e named = parts found o e named
    where
      parts : (f : Option Summary) (o : Option Text) → option_map kept_of f ≡ told_of o None (λ name. Some (kept (id, name))) → ((name : Text) → o ≡ Some name → length_of ids s.yanked id ≡ length (file s name))
          → (option_map (λ m. m.highest) f ≡ told_of o None (λ name. Some (highest_of ids s.yanked id))) × (option_map (λ m. m.index_length) f ≡ told_of o None (λ name. Some (length (file s name))))
      parts None None e named = (refl, refl)
      parts None (Some name) e named = absurd cc
      parts (Some m) None e named = absurd cc
      parts (Some m) (Some name) e named = let k : kept_of m ≡ kept (id, name) = some e in (ap (λ (k : Kept). Some k.1) k, ap (λ (k : Kept). Some k.2) k ∙ ap Some (named name refl))
        where
          some : {Y : Type 0} {a b : Y} → ◌≡◌ {A = Option Y} (Some a) (Some b) → a ≡ b
          some e = cc

  pub finds_summary : (option_map (λ m. m.highest) found ≡ told_of (spelling_at ids id) None (λ name. Some (highest_of ids s.yanked id)))
      × (option_map (λ m. m.index_length) found ≡ told_of (spelling_at ids id) None (λ name. Some (length (file s name))))
  finds_summary = split (spelling_at ids id) refl
    where
      split : (o : Option Text) → spelling_at ids id ≡ o
          → (option_map (λ m. m.highest) found ≡ told_of o None (λ name. Some (highest_of ids s.yanked id))) × (option_map (λ m. m.index_length) found ≡ told_of o None (λ name. Some (length (file s name))))
      split None none =
          let empty = none_pass (λ _ _. true) (λ c. c.0 == id) ids.crates (λ c i. not_true _ (λ e. true_not_false _ (in_any (λ c. c.0 == id) ids.crates c i e) (not_at ids id none))) in
          told None (none_is (option_map kept_of found) (sym (ap (map kept) empty) ∙ there)) (λ name e. length_named ids s db crates id name (none ∙ e))
      split (Some name) at =
          let c : StoredCrate = (id, name) in
          let one = one_passes (on (λ (c : StoredCrate). c.0) nat_eq) (λ c. c.0 == id) ids.crates c (apart_by (λ c. c.0) ids.crates crates.up) (λ d e i j p q. eq-eqb d.0 e.0 (eqb-true d.0 id p ∙ sym (eqb-true e.0 id q))) (there_at ids id name at) (eq-eqb id id refl) in
          told (Some name) (one_is (option_map kept_of found) (kept c) (sym (ap (map kept) one) ∙ there)) (λ n e. length_named ids s db crates id n (at ∙ e))
