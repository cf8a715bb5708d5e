-- What rows of crates and versions that are added are on the registry that they stand for.
use Rattle.reg_tables_represent.proofs.Words.{next_version, ids_with_version, next_crate, ids_with_crate, ◌≡◌, ◌==◌, ℕ, ◌<◌, List, [], ◌∷◌}
use Rattle.reg_tables_represent.proofs.Words.{◌++◌, map, Bool, true, false, ◌||◌, ◌&&◌, inl, refl, sym, ap, subst, ◌∙◌, ℤ, inr, ◌⊎◌, list_any}
use Rattle.reg_tables_represent.proofs.Words.{AllByRecursion, list_all, IsPermutation, and_from, and_left, eq-eqb, eqb-true, map-append}
use Rattle.reg_tables_represent.proofs.Words.{IsDistinct-cons, IsDistinct-IsPermutation, owner_total, not_true, true_not_false, AddsCrate}
use Rattle.reg_tables_represent.proofs.Words.{AddsVersion, StoredCrate, StoredPair, StoredVersion, row_of_crate, row_of_version}
use Rattle.reg_tables_represent.proofs.Words.{row_of_archive, columns_of_stored, StandCrates, is_of, IdAssignment, StandPairs, is_paired, StandMarked}
use Rattle.reg_tables_represent.proofs.Words.{IsIn, any_in, all_in, in_any, none_in, each_in, in_each, in_last, map_in}
use Rattle.reg_tables_represent.proofs.Stays.{same_crates}
use Rattle.reg_tables_represent.proofs.Common.{bytes_eq, canon, Int, is_taken, mark_cmp, nat_cmp, nat_list_eq_equiv, on, owner_cmp, owner_columns, Publication, put_row, release_key_of, Row, text_cmp, Trees, version_row}
use Rattle.reg_tables_represent.proofs.Standing.{snoc_permutes}
use Rattle.std.specs.List.{IsDistinct}
use Rattle.std.specs.List.Sorted.{IsStrictlySortedBy}
use Rattle.std.specs.FinSet as finset
use Rattle.reg_model.proofs.Lists.{all_push, all_so, any_more}
use Rattle.reg_tables_represent.proofs.CrateLemmas.{pushed, text_itself, below_other, above_other, same_owner, other_owner, is_published, version_of}
use Rattle.reg_model.proofs.Members.{pushed_in}
use Rattle.reg_tables_represent.proofs.Rising.{above, rises_on, next_is}
use Rattle.reg_tables_represent.proofs.Rowids.{own_put, put_columns}

-- a version that is added, behind all that are there
module _ (yanked : finset.FinSet mark_cmp) (versions : List StoredVersion) (key of_crate : ℕ) (p : Publication) (old new : Trees) (adds : AddsVersion key of_crate p old new) where
  abbrev pub added : StoredVersion
  added = record { id = key; of_crate = of_crate; publication = p }

  pub versions_after : finset.contains yanked (canon p.name, p.version) ≡ false → IsPermutation (map (row_of_version yanked) versions) (old 11) → IsPermutation (map (row_of_version yanked) (versions ++ added ∷ [])) (new 11)
  versions_after unmarked rows =
      let row : Bool → Row = λ b. version_row key of_crate p.version (release_key_of p.version) p.digest p.stem p.description b in
      pushed (row_of_version yanked) versions added (old 11) (new 11) rows (subst (λ b. IsPermutation (row b ∷ old 11) (new 11)) (sym unmarked) adds.versions)

  pub archives_after : IsPermutation (map row_of_archive versions) (old 13) → IsPermutation (map row_of_archive (versions ++ added ∷ [])) (new 13)
  archives_after rows = pushed row_of_archive versions added (old 13) (new 13) rows adds.archives

  pub rising_after : IsPermutation (map (row_of_version yanked) versions) (old 11) → IsStrictlySortedBy nat_cmp (map (λ v. v.id) versions) → IsStrictlySortedBy nat_cmp (map (λ v. v.id) (versions ++ added ∷ []))
  rising_after rows up =
      let ids = map (λ (v : StoredVersion). v.id) versions in
      let below : (n : ℕ) → IsIn n ids → n < key = λ n i. let v = map_in (λ v. v.id) versions n i in subst (λ k. k < key) v.2 (above (row_of_version yanked) (λ v. v.id) (λ v. refl) versions (old 11) key rows adds.is_next v.0 v.1) in
      subst (IsStrictlySortedBy nat_cmp) (sym (map-append (λ (v : StoredVersion). v.id) versions (added ∷ []))) (rises_on ids key (in_each (λ n. n < key) ids below) up)

  pub published_after : (publications : List Publication) → map (λ v. v.publication) versions ≡ publications → map (λ v. v.publication) (versions ++ added ∷ []) ≡ publications ++ p ∷ []
  published_after publications e = map-append (λ (v : StoredVersion). v.publication) versions (added ∷ []) ∙ ap (λ ps. ps ++ p ∷ []) e

-- the id of a version that is added is the next
module _ (ids : IdAssignment) (yanked : finset.FinSet mark_cmp) (key of_crate : ℕ) (p : Publication) (old new : Trees) (adds : AddsVersion key of_crate p old new) where
  pub next_id_of : IsPermutation (map (row_of_version yanked) ids.versions) (old 11) → key ≡ next_version ids
  next_id_of rows = next_is (row_of_version yanked) (λ v. v.id) (λ v. refl) ids.versions (old 11) key rows adds.is_next

  pub same_ids : IsPermutation (map (row_of_version yanked) ids.versions) (old 11) → ids.versions ++ added yanked ids.versions key of_crate p old new adds ∷ [] ≡ (ids_with_version of_crate p ids).versions
  same_ids rows i = ids.versions ++ record { id = next_id_of rows i; of_crate = of_crate; publication = p } ∷ []

-- a version of a crate that is there
module _ (ids : IdAssignment) (publications : List Publication) (yanked : finset.FinSet mark_cmp) (old new : Trees) (stands : StandCrates ids publications yanked old) where
  pub adds_version : (key of_crate : ℕ) (p : Publication) → IsIn (of_crate, p.name) ids.crates → finset.contains yanked (canon p.name, p.version) ≡ false → new 7 ≡ old 7 → AddsVersion key of_crate p old new
      → StandCrates (ids_with_version of_crate p ids) (publications ++ p ∷ []) yanked new
  adds_version key of_crate p there unmarked same_crates adds =
      let v = added yanked ids.versions key of_crate p old new adds in
      let after = ids.versions ++ v ∷ [] in
      let mine : StoredCrate = (of_crate, p.name) in
      subst (λ (vs : List StoredVersion). StandCrates (record ids { versions = vs }) (publications ++ p ∷ []) yanked new) (same_ids ids yanked key of_crate p old new adds stands.version_rows) (record {
        crate_rows = subst (IsPermutation (map row_of_crate ids.crates)) (sym same_crates) stands.crate_rows;
        version_rows = versions_after yanked ids.versions key of_crate p old new adds unmarked stands.version_rows;
        archive_rows = archives_after yanked ids.versions key of_crate p old new adds stands.archive_rows;
        canons = stands.canons;
        used = all_so (λ c. list_any (is_of c) ids.versions) (λ c. list_any (is_of c) after) (λ c h. any_more (is_of c) ids.versions (v ∷ []) h) ids.crates stands.used;
        of_crates = all_push (λ w. list_any (λ c. is_of c w) ids.crates) ids.versions v stands.of_crates (in_any (λ c. is_of c v) ids.crates mine there (and_from _ _ (eq-eqb of_crate of_crate refl) (text_itself p.name)));
        up = stands.up;
        rising = rising_after yanked ids.versions key of_crate p old new adds stands.version_rows stands.rising;
        published = published_after yanked ids.versions key of_crate p old new adds publications stands.published;
      })

-- a new crate with its first version
module _ (ids : IdAssignment) (publications : List Publication) (yanked : finset.FinSet mark_cmp) (old mid new : Trees) (stands : StandCrates ids publications yanked old) (id owner : ℕ) (p : Publication) (crate : AddsCrate id p.name owner old mid) (fresh : list_any (λ q. bytes_eq (canon q.name) (canon p.name)) publications ≡ false) where
  abbrev mine : StoredCrate
  mine = (id, p.name)

  pub id_is : id ≡ next_crate ids
  id_is = next_is row_of_crate (λ c. c.0) (λ c. refl) ids.crates (old 7) id stands.crate_rows crate.is_next

  below : (c : StoredCrate) → IsIn c ids.crates → c.0 < id
  below = above row_of_crate (λ c. c.0) (λ c. refl) ids.crates (old 7) id stands.crate_rows crate.is_next

  other_canon : (c : StoredCrate) → IsIn c ids.crates → bytes_eq (canon c.1) (canon p.name) ≡ false
  other_canon c i = not_true _ (λ same.
      let named : Publication → Bool = λ q. bytes_eq (canon q.name) (canon p.name) in
      let v = version_of ids publications yanked old stands c i in
      let there = in_any named publications v.0.publication (is_published ids publications yanked old stands v.0 v.1) (subst (λ t. bytes_eq (canon t) (canon p.name) ≡ true) v.3 same) in
      true_not_false (list_any named publications) there fresh)

  abbrev crates_now : List StoredCrate
  crates_now = ids.crates ++ mine ∷ []

  canons_after : IsDistinct (on (λ c. canon c.1) bytes_eq) crates_now
  canons_after =
      let same = on (λ (c : StoredCrate). canon c.1) bytes_eq in
      IsDistinct-IsPermutation same (λ c d. nat_list_eq_equiv.symm (canon c.1) (canon d.1)) (mine ∷ ids.crates) crates_now (snoc_permutes ids.crates mine)
      (IsDistinct-cons same mine ids.crates (in_each (λ c. bytes_eq (canon p.name) (canon c.1) ≡ false) ids.crates (λ c i. nat_list_eq_equiv.symm (canon p.name) (canon c.1) ∙ other_canon c i)) stands.canons)

  crate_rows : IsPermutation (map row_of_crate crates_now) (mid 7)
  crate_rows = pushed row_of_crate ids.crates mine (old 7) (mid 7) stands.crate_rows crate.crates

  up_after : IsStrictlySortedBy nat_cmp (map (λ c. c.0) crates_now)
  up_after =
      let before = map (λ (c : StoredCrate). c.0) ids.crates in
      let low : (n : ℕ) → IsIn n before → n < id = λ n i. let c = map_in (λ c. c.0) ids.crates n i in subst (λ k. k < id) c.2 (below c.0 c.1) in
      subst (IsStrictlySortedBy nat_cmp) (sym (map-append (λ (c : StoredCrate). c.0) ids.crates (mine ∷ []))) (rises_on before id (in_each (λ n. n < id) before low) stands.up)

  pub adds_crate : (key : ℕ) → finset.contains yanked (canon p.name, p.version) ≡ false → mid 11 ≡ old 11 → mid 13 ≡ old 13 → new 7 ≡ mid 7 → AddsVersion key id p mid new
      → StandCrates (ids_with_crate p ids) (publications ++ p ∷ []) yanked new
  adds_crate key unmarked e11 e13 e7 version =
      let v = added yanked ids.versions key id p mid new version in
      let after = ids.versions ++ v ∷ [] in
      let version_rows = subst (IsPermutation (map (row_of_version yanked) ids.versions)) (sym e11) stands.version_rows in
      let archive_rows = subst (IsPermutation (map row_of_archive ids.versions)) (sym e13) stands.archive_rows in
      let mine_has : is_of mine v ≡ true = and_from _ _ (eq-eqb id id refl) (text_itself p.name) in
      let last_any : (w : StoredVersion) → list_any (λ c. is_of c w) ids.crates ≡ true → list_any (λ c. is_of c w) crates_now ≡ true = λ w h. any_more (λ c. is_of c w) ids.crates (mine ∷ []) h in
      let so : StandCrates (record { crates = crates_now; versions = after }) (publications ++ p ∷ []) yanked new = record {
        crate_rows = subst (IsPermutation (map row_of_crate crates_now)) (sym e7) crate_rows;
        version_rows = versions_after yanked ids.versions key id p mid new version unmarked version_rows;
        archive_rows = archives_after yanked ids.versions key id p mid new version archive_rows;
        canons = canons_after;
        used = all_push (λ c. list_any (is_of c) after) ids.crates mine (all_so (λ c. list_any (is_of c) ids.versions) (λ c. list_any (is_of c) after) (λ c h. any_more (is_of c) ids.versions (v ∷ []) h) ids.crates stands.used) (in_any (is_of mine) after v (in_last ids.versions v) mine_has);
        of_crates = all_push (λ w. list_any (λ c. is_of c w) crates_now) ids.versions v (all_so (λ w. list_any (λ c. is_of c w) ids.crates) (λ w. list_any (λ c. is_of c w) crates_now) last_any ids.versions stands.of_crates) (in_any (λ c. is_of c v) crates_now mine (in_last ids.crates mine) mine_has);
        up = up_after;
        rising = rising_after yanked ids.versions key id p mid new version version_rows stands.rising;
        published = published_after yanked ids.versions key id p mid new version publications stands.published;
      } in
      let n : id ≡ next_crate ids = id_is in
      let k : key ≡ next_version ids = next_id_of ids yanked key id p mid new version version_rows in
      subst (λ (it : IdAssignment). StandCrates it (publications ++ p ∷ []) yanked new) (λ i. record { crates = ids.crates ++ (n i, p.name) ∷ []; versions = ids.versions ++ record { id = k i; of_crate = n i; publication = p } ∷ [] }) so

  of_each : (P : StoredCrate → Type 0) → ((c : StoredCrate) → IsIn c ids.crates → P c) → P mine → AllByRecursion P crates_now
  of_each P old_ones new_one = in_each P crates_now (λ c i. either c (pushed_in ids.crates mine c i))
    where
      either : (c : StoredCrate) → IsIn c ids.crates ⊎ (mine ≡ c) → P c
      either c (inl i) = old_ones c i
      either c (inr e) = subst P e new_one

  -- a relation that has no pair of its canonical text
  module _ (held : finset.FinSet owner_cmp) (rows : List Row) (stored : StandPairs ids.crates held rows) (unheld : (account : ℕ) → finset.contains held (canon p.name, account) ≡ false) where
    pair_below : (o : StoredPair) → IsIn o stored.pairs → o.0 < id
    pair_below o i =
        let c = any_in (λ c. c.0 == o.0) ids.crates (all_in (λ o. list_any (λ c. c.0 == o.0) ids.crates) stored.pairs o stored.of_crates i) in
        subst (λ k. k < id) (eqb-true c.0.0 o.0 c.2) (below c.0 c.1)

    none_yet : (account : ℕ) → is_paired stored.pairs id account ≡ false
    none_yet account = none_in (λ o. o.0 == id && o.1 == account) stored.pairs (λ o i. and_left (o.0 == id) (o.1 == account) (below_other o.0 id (pair_below o i)))

    was_so : (c : StoredCrate) → IsIn c ids.crates → (account : ℕ) → finset.contains held (canon c.1, account) ≡ is_paired stored.pairs c.0 account
    was_so c i = each_in (λ c. (account : ℕ) → finset.contains held (canon c.1, account) ≡ is_paired stored.pairs c.0 account) ids.crates c stored.same i

    still_of_crates : list_all (λ o. list_any (λ c. c.0 == o.0) crates_now) stored.pairs ≡ true
    still_of_crates = all_so (λ o. list_any (λ c. c.0 == o.0) ids.crates) (λ o. list_any (λ c. c.0 == o.0) crates_now) (λ o h. any_more (λ c. c.0 == o.0) ids.crates (mine ∷ []) h) stored.pairs stored.of_crates

    pub unpaired : StandPairs crates_now held rows
    unpaired = record {
      pairs = stored.pairs;
      are = stored.are;
      apart = stored.apart;
      of_crates = still_of_crates;
      once = stored.once;
      same = of_each (λ c. (account : ℕ) → finset.contains held (canon c.1, account) ≡ is_paired stored.pairs c.0 account) was_so (λ account. unheld account ∙ sym (none_yet account));
    }

    -- and the same with its owner
    abbrev held_now : finset.FinSet owner_cmp
    held_now = finset.insert held (canon p.name, owner)

    abbrev pairs_now : List StoredPair
    pairs_now = (id, owner) ∷ stored.pairs

    of_new : (account : ℕ) → finset.contains held_now (canon p.name, account) ≡ is_paired pairs_now id account
    of_new account =
        let left : finset.contains held_now (canon p.name, account) ≡ ((owner == account) || false) =
        finset.contains-insert owner_total held (canon p.name, owner) (canon p.name, account) ∙ (λ i. same_owner (canon p.name) account owner i || unheld account i) in
        let right : is_paired pairs_now id account ≡ ((owner == account) || false) = λ i. (eq-eqb id id refl i && (owner == account)) || none_yet account i in
        left ∙ sym right

    of_old : (c : StoredCrate) → IsIn c ids.crates → (account : ℕ) → finset.contains held_now (canon c.1, account) ≡ is_paired pairs_now c.0 account
    of_old c i account =
        finset.contains-insert owner_total held (canon p.name, owner) (canon c.1, account)
        ∙ ap (λ b. b || finset.contains held (canon c.1, account)) (other_owner (canon c.1) (canon p.name) account owner (other_canon c i))
        ∙ was_so c i account
        ∙ sym (ap (λ b. b || is_paired stored.pairs c.0 account) (and_left (id == c.0) (owner == account) (above_other id c.0 (below c i))))

    once : IsDistinct (λ a b. a.0 == b.0 && a.1 == b.1) pairs_now
    once =
        let o : StoredPair = (id, owner) in
        let same : StoredPair → StoredPair → Bool = λ a b. a.0 == b.0 && a.1 == b.1 in
        IsDistinct-cons same o stored.pairs (in_each (λ b. same o b ≡ false) stored.pairs (λ b i. and_left (id == b.0) (owner == b.1) (above_other id b.0 (pair_below b i)))) stored.once

    pub first_pair : (rowid : ℤ) → is_taken rows (Int rowid ∷ owner_columns id owner) ≡ false → StandPairs crates_now held_now (put_row (Int rowid ∷ owner_columns id owner) rows)
    first_pair rowid free = record {
      pairs = pairs_now;
      are = put_columns columns_of_stored stored.pairs rows stored.are (id, owner) rowid free;
      apart = own_put rowid (owner_columns id owner) rows free stored.apart;
      of_crates = and_from _ _ (in_any (λ c. c.0 == id) crates_now mine (in_last ids.crates mine) (eq-eqb id id refl)) still_of_crates;
      once = once;
      same = of_each (λ c. (account : ℕ) → finset.contains held_now (canon c.1, account) ≡ is_paired pairs_now c.0 account) of_old of_new;
    }

  -- a table of marks that has none of its canonical text
  module _ (marked : finset.FinSet text_cmp) (rows : List Row) (stored : StandMarked ids.crates marked rows) (unlisted : finset.contains marked (canon p.name) ≡ false) where
    mark_below : (i : ℕ) → IsIn i stored.marks → i < id
    mark_below i k =
        let c = any_in (λ c. c.0 == i) ids.crates (all_in (λ i. list_any (λ c. c.0 == i) ids.crates) stored.marks i stored.of_crates k) in
        subst (λ n. n < id) (eqb-true c.0.0 i c.2) (below c.0 c.1)

    pub unmarked_crate : StandMarked crates_now marked rows
    unmarked_crate = record {
      marks = stored.marks;
      are = stored.are;
      of_crates = all_so (λ i. list_any (λ c. c.0 == i) ids.crates) (λ i. list_any (λ c. c.0 == i) crates_now) (λ i h. any_more (λ c. c.0 == i) ids.crates (mine ∷ []) h) stored.marks stored.of_crates;
      same = of_each (λ c. finset.contains marked (canon c.1) ≡ list_any (λ i. i == c.0) stored.marks)
          (λ c i. each_in (λ c. finset.contains marked (canon c.1) ≡ list_any (λ i. i == c.0) stored.marks) ids.crates c stored.same i)
          (unlisted ∙ sym (none_in (λ i. i == id) stored.marks (λ i k. below_other i id (mark_below i k))));
    }
