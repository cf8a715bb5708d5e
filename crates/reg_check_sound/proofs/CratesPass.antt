-- The crates of a sound registry pass.
use Rattle.reg_check_sound.proofs.Words.{is_paired, IdAssignment, StoredVersion, bytes_same, is_published}
use Rattle.reg_check_sound.proofs.Common.{◌≡◌, ◌==◌, ◌∙◌, ◌&&◌, AllRows, and_from, and_parts, any_in, ap, bytes_eq, canon, Crate, each_in, entry_of_crate, eq-eqb, in_all, in_any, is_name, IsIn, List, Registry, string_bytes, sym, Trees, true, ℕ}
use Rattle.std.specs.FinSet as finset
use Rattle.reg_model.specs.Crates as crates_of
use Rattle.reg_model.specs.Steps as steps
use Rattle.reg_tables_represent.proofs.CrateLemmas.{version_of}
use Rattle.reg_audit.specs.Checks as checks
use Rattle.reg_check_sound.proofs.ListedCrates.{canon_is, crate_in}
use Rattle.reg_check_sound.proofs.ListedPairs as pairs
use Rattle.reg_check_sound.proofs.ListedVersions as versions
use Rattle.reg_check_sound.proofs.Standing.{Standing}

chained : (a b n : ℕ) → a ≡ b → (b == n) ≡ true → (a == n) ≡ true
chained a b n same is = ap (λ k. k == n) same ∙ is

module _ (it : AllRows) (db : Trees) (ids : IdAssignment) (s : Registry) (h : Standing it db ids s) where
  abbrev list : List Crate
  list = it.crates.items

  -- a version of a crate that is read
  its_version : (c : Crate) → IsIn c list → (v : StoredVersion) × IsIn v ids.versions × (c.id ≡ v.of_crate) × (string_bytes c.name ≡ v.publication.name)
  its_version c i = version_of ids s.publications s.yanked db h.holds.stands.crates (entry_of_crate c) (crate_in it db ids s h c i)

  named : (c : Crate) → IsIn c list → checks.is_named c ≡ true
  named c i =
      let v = its_version c i in
      let there = is_published ids s.publications s.yanked db h.holds.stands.crates v.0 v.1 in
      let genuine = each_in steps.IsGenuine s.publications v.0.publication h.holds.sound.publications there in
      and_from (is_name (string_bytes c.name)) _ (ap is_name v.3 ∙ genuine.name) (bytes_same (canon (string_bytes c.name)) (string_bytes c.canon) (canon_is it db ids s h c i))

  published : (c : Crate) → IsIn c list → checks.is_published it c.id ≡ true
  published c i =
      let w = its_version c i in
      let v = versions.in_list it db ids s h w.0 w.1 in
      in_any (λ v. v.crate_id == c.id) it.versions.items v.0 v.1 (eq-eqb v.0.crate_id c.id (ap (λ (t : versions.Told). t.of_crate) v.2 ∙ sym w.2))

  owned : (c : Crate) → IsIn c list → checks.is_owned it c.id ≡ true
  owned c i =
      let name = string_bytes c.name in
      let v = its_version c i in
      let there = is_published ids s.publications s.yanked db h.holds.stands.crates v.0 v.1 in
      let has : crates_of.has_crate s (canon name) ≡ true = in_any (λ p. bytes_eq (canon p.name) (canon name)) s.publications v.0.publication there (bytes_same (canon v.0.publication.name) (canon name) (ap canon (sym v.3))) in
      let owner = h.holds.sound.owned (canon name) has in
      let stands = h.holds.stands.owners in
      let same = each_in (λ e. (account : _) → finset.contains s.owners (canon e.1, account) ≡ is_paired stands.pairs e.0 account) ids.crates (entry_of_crate c) stands.same (crate_in it db ids s h c i) in
      let p = any_in (λ o. o.0 == c.id && o.1 == owner.0) stands.pairs (sym (same owner.0) ∙ owner.1) in
      let o = pairs.in_list ids.crates s.owners (db 9) stands it.owners.items h.are.owners p.0 p.1 in
      let same_id = (and_parts (p.0.0 == c.id) (p.0.1 == owner.0) p.2).0 in
      in_any (λ o. o.crate_id == c.id) it.owners.items o.0 o.1 (chained o.0.crate_id p.0.0 c.id o.2 same_id)

  pub crates_pass_so : checks.crates_pass it ≡ true
  crates_pass_so = in_all (λ c. checks.is_named c && (checks.is_owned it c.id && checks.is_published it c.id)) list (λ c i.
      and_from (checks.is_named c) _ (named c i) (and_from (checks.is_owned it c.id) _ (owned c i) (published c i)))
