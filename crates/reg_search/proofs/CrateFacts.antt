-- What the rows say of one crate of a registry.
use Rattle.reg_search.proofs.Words.{◌≡◌, ◌==◌, ℕ, pos, Bool, true, ◌&&◌, ◌||◌, not, List, [], ◌∷◌, map, Option, Some, None, refl, sym, ap}
use Rattle.reg_search.proofs.Words.{subst, ◌∙◌, nat_eq, slice_get, filter, list_any, option_and_then, option_map, on, bytes_eq, and_parts}
use Rattle.reg_search.proofs.Words.{eq-eqb, eqb-true, Binary, Row, column, Trees, Int, equal, canon, is_name, Marked, top_place, top_is_top}
use Rattle.reg_search.proofs.Words.{sees, Registry, owner_cmp, canon-canon, any_same, IsIn, each_in, in_any, in_filter, StandsSoundBy, IdAssignment}
use Rattle.reg_search.proofs.Words.{StoredCrate, StoredVersion, row_of_version, row_of_summary, top_of, crate_has}
use Rattle.std.specs.FinSet as finset
use Rattle.reg_model.specs.Crates.{has_crate}
use Rattle.reg_model.specs.Registry.{mark_cmp}
use Rattle.reg_model.specs.Search.{top}
use Rattle.reg_model.specs.Steps.{IsGenuine}
use Rattle.reg_model.proofs.Seen.{sees_alike}
use Rattle.reg_model.proofs.Members.{any_in, all_in, one_passes}
use Rattle.reg_tables_schema.proofs.Permutes.{one_row}
use Rattle.reg_tables_schema.proofs.Queries.{equals_int, same_filter}
use Rattle.reg_tables_represent.specs.Stands.{StandPairs, StoredPair, columns_of_stored, is_of, is_paired, spelling_at}
use Rattle.reg_tables_represent.specs.Summaries.{its_versions, marked_of, top_among}
use Rattle.reg_tables_represent.proofs.CrateLemmas.{apart_by, is_published, spelled_at, text_itself, version_of}
use Rattle.reg_tables_represent.proofs.CrateNames.{kept}
use Rattle.reg_tables_represent.proofs.Rowids.{any_columns, first_column, second_column}
use Rattle.reg_tables_represent.proofs.Standing.{same_number}
use Rattle.reg_tables_represent.proofs.SummaryLaws.{top_named}
use Rattle.reg_tables_represent.proofs.SummaryRows.{got_map}
use Rattle.reg_tables_represent.proofs.SummaryPushed.{in_at}
use Rattle.reg_search.proofs.Among.{among_held}
use Rattle.reg_search.proofs.Tops.{there_is_top}

-- SQL's = on two ids
pub same_id : (n m : ℕ) → equal Binary (Int (pos n)) (Int (pos m)) ≡ (n == m)
same_id n m = equals_int (Int (pos n)) (pos m) ∙ same_number n m

-- versions of which there is one have a highest
top_found : (yanked : finset.FinSet mark_cmp) (vs : List StoredVersion) (w : StoredVersion) → IsIn w vs → (v : StoredVersion) × IsIn v vs × (top_among yanked vs ≡ Some v)
top_found yanked [] w i = absurd i
top_found yanked (z ∷ vs) w i = let t = there_is_top (marked_of yanked z) (map (marked_of yanked) vs) in at t.0 t.1 (slice_get (z ∷ vs) t.0) refl
  where
    marks : List Marked
    marks = map (marked_of yanked) (z ∷ vs)

    at : (k : ℕ) → top_place (map (marked_of yanked) (z ∷ vs)) ≡ Some k → (o : Option StoredVersion) → slice_get (z ∷ vs) k ≡ o → (v : StoredVersion) × IsIn v (z ∷ vs) × (top_among yanked (z ∷ vs) ≡ Some v)
    at k e (Some v) got = (v, in_at (z ∷ vs) k v got, ap (option_and_then (slice_get (z ∷ vs))) e ∙ got)
    at k e None got =
        let is = (top_is_top (map (marked_of yanked) (z ∷ vs)) k).0 e in
        let none : Some is.0 ≡ None = sym is.1 ∙ got_map (marked_of yanked) k (z ∷ vs) ∙ ap (option_map (marked_of yanked)) got in
        cc none

module _ (ids : IdAssignment) (s : Registry) (db : Trees) (h : StandsSoundBy ids s db) (x : StoredCrate) (i : IsIn x ids.crates) where
  at : spelling_at ids x.0 ≡ Some x.1
  at = spelled_at ids s.publications s.yanked db h.stands.crates x.0 x.1 i

  -- it is a name
  pub named : is_name x.1 ≡ true
  named =
      let v = version_of ids s.publications s.yanked db h.stands.crates x i in
      let genuine = each_in IsGenuine s.publications v.0.publication h.sound.publications (is_published ids s.publications s.yanked db h.stands.crates v.0 v.1) in
      subst (λ n. is_name n ≡ true) (sym v.3) genuine.name

  -- the crate with its id, and no other
  pub alone : filter (λ (c : StoredCrate). c.0 == x.0) ids.crates ≡ x ∷ []
  alone =
      one_passes (on (λ (c : StoredCrate). c.0) nat_eq) (λ c. c.0 == x.0) ids.crates x (apart_by (λ c. c.0) ids.crates h.stands.crates.up)
      (λ c d j k p q. eq-eqb c.0 d.0 (eqb-true c.0 x.0 p ∙ sym (eqb-true d.0 x.0 q))) i (eq-eqb x.0 x.0 refl)

  pub its_row : (test : Row → Bool) → ((c : StoredCrate) → test (row_of_summary ids s.yanked c) ≡ (c.0 == x.0)) → filter test (db 16) ≡ row_of_summary ids s.yanked x ∷ []
  its_row test same =
      one_row (row_of_summary ids s.yanked) test x ids.crates (db 16) h.stands.summaries.are
      (same_filter (λ c. test (row_of_summary ids s.yanked c)) (λ c. c.0 == x.0) same ids.crates ∙ alone)

  -- its highest version
  pub highest : (v : StoredVersion) × IsIn v ids.versions × (top_of ids s.yanked x.0 ≡ Some v)
  highest =
      let w = any_in (is_of x) ids.versions (all_in (λ c. list_any (is_of c) ids.versions) ids.crates x h.stands.crates.used i) in
      let of = (and_parts (x.0 == w.0.of_crate) (bytes_eq x.1 w.0.publication.name) w.2).0 in
      let mine = kept (λ v. v.of_crate == x.0) ids.versions w.0 w.1 (eq-eqb w.0.of_crate x.0 (sym (eqb-true x.0 w.0.of_crate of))) in
      let v = top_found s.yanked (its_versions ids x.0) w.0 mine in
      (v.0, in_filter (λ v. v.of_crate == x.0) ids.versions v.0 v.1, v.2)

  pub highest_row : (v : StoredVersion) → IsIn v ids.versions → (test : Row → Bool) → ((w : StoredVersion) → test (row_of_version s.yanked w) ≡ (w.id == v.id)) → filter test (db 11) ≡ row_of_version s.yanked v ∷ []
  highest_row v j test same =
      one_row (row_of_version s.yanked) test v ids.versions (db 11) h.stands.crates.version_rows
      (same_filter (λ w. test (row_of_version s.yanked w)) (λ w. w.id == v.id) same ids.versions
      ∙ one_passes (on (λ (w : StoredVersion). w.id) nat_eq) (λ w. w.id == v.id) ids.versions v (apart_by (λ w. w.id) ids.versions h.stands.crates.rising)
      (λ c d k l p q. eq-eqb c.id d.id (eqb-true c.id v.id p ∙ sym (eqb-true d.id v.id q))) j (eq-eqb v.id v.id refl))

  pub top_is : (v : StoredVersion) → top_of ids s.yanked x.0 ≡ Some v → top s x.1 ≡ Some v.publication
  top_is v e = sym (top_named ids s db h.stands.crates x.0 x.1 at) ∙ ap (option_map (λ v. v.publication)) e

  pub paired_is : (tree : ℕ) (held : finset.FinSet owner_cmp) → StandPairs ids.crates held (db tree) → (account : ℕ)
      → list_any (λ o. equal Binary (column o 1) (Int (pos x.0)) && equal Binary (column o 2) (Int (pos account))) (db tree) ≡ finset.contains held (canon x.1, account)
  paired_is tree held stand account =
      let behind = λ (r : Row). equal Binary (column r 0) (Int (pos x.0)) && equal Binary (column r 1) (Int (pos account)) in
      any_columns columns_of_stored stand.pairs (db tree) stand.are (λ o. equal Binary (column o 1) (Int (pos x.0)) && equal Binary (column o 2) (Int (pos account))) behind
      (λ r j. equal Binary (first_column r j) (Int (pos x.0)) && equal Binary (second_column r j) (Int (pos account)))
      ∙ any_same (λ (o : StoredPair). behind (columns_of_stored o)) (λ o. o.0 == x.0 && o.1 == account) (λ o j. same_id o.0 x.0 j && same_id o.1 account j) stand.pairs
      ∙ sym (each_in (λ c. (a : ℕ) → finset.contains held (canon c.1, a) ≡ is_paired stand.pairs c.0 a) ids.crates x stand.same i account)

  is_there : has_crate s (canon x.1) ≡ true
  is_there = sym (crate_has ids s.publications s.yanked db h.stands.crates (canon x.1)) ∙ in_any (λ c. bytes_eq (canon c.1) (canon x.1)) ids.crates x i (text_itself (canon x.1))

  -- what is seen of it, by the rows that say so
  pub seen_is : (viewer : ℕ) → sees s (Some viewer) (canon x.1) ≡ (not (finset.contains s.restricted (canon x.1)) || (finset.contains s.owners (canon x.1, viewer) || finset.contains s.readers (canon x.1, viewer)))
  seen_is viewer =
      let owning = among_held s.accounts s.owners (canon x.1) (λ id e. (h.sound.owners (canon x.1) id e).1) viewer in
      let reading = among_held s.accounts s.readers (canon x.1) (λ id e. (h.sound.readers (canon x.1) id e).1) viewer in
      sees_alike s (Some viewer) (canon x.1) x.1 (canon-canon x.1)
      ∙ (λ j. is_there j && (not (finset.contains s.restricted (canon x.1)) || (owning j || reading j)))
