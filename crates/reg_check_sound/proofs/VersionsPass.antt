-- The versions and archives of a sound registry pass.
use Rattle.reg_check_sound.proofs.Words.{nat_eq, string_bytes, on, sha256, Blob, Int, release_key_of, IsStemOf, IsIn, each_in, in_all}
use Rattle.reg_check_sound.proofs.Words.{in_each, one_passes, is_number, shows, archive_places, archives_with_id, row_of_archive, IdAssignment}
use Rattle.reg_check_sound.proofs.Words.{StoredCrate, StoredVersion, apart_by, bytes_same, is_published}
use Rattle.reg_check_sound.proofs.Common.{◌≡◌, [], ◌∷◌, ◌∙◌, AllRows, ap, Bool, eq-eqb, eqb-true, length, List, map, pos, refl, Registry, same_number, subst, sym, Trees, true, Version}
use Rattle.sha2.proofs.Facts256.{length-sha256}
use Rattle.reg_versions.specs.Versions.{is_version}
use Rattle.reg_model.specs.Steps as steps
use Rattle.reg_tables_schema.proofs.Permutes.{one_row}
use Rattle.reg_tables_represent.proofs.CrateLemmas.{crate_of}
use Rattle.reg_audit.specs.Checks as checks
use Rattle.reg_check_sound.proofs.ListedCrates.{found_at, in_list}
use Rattle.reg_check_sound.proofs.ListedVersions.{Told, version_in}
use Rattle.reg_check_sound.proofs.Standing.{Standing}

module _ (it : AllRows) (db : Trees) (ids : IdAssignment) (s : Registry) (h : Standing it db ids s) where
  abbrev list : List Version
  list = it.versions.items

  genuine : (w : StoredVersion) → IsIn w ids.versions → steps.IsGenuine w.publication
  genuine w i = each_in steps.IsGenuine s.publications w.publication h.holds.sound.publications (is_published ids s.publications s.yanked db h.holds.stands.crates w i)

  -- a version has one archive, with its bytes
  archive_at : (w : StoredVersion) → IsIn w ids.versions → archives_with_id w.id db ≡ (Int (pos w.id) ∷ Blob w.publication.archive ∷ []) ∷ []
  archive_at w i =
      let stands = h.holds.stands.crates in
      let test : StoredVersion → Bool = λ x. is_number 0 w.id (row_of_archive x) in
      let at = λ (x : StoredVersion) (p : test x ≡ true). eqb-true x.id w.id (sym (same_number x.id w.id) ∙ p) in
      let alike = λ (x : StoredVersion) (y : StoredVersion) (j : IsIn x ids.versions) (k : IsIn y ids.versions) (p : test x ≡ true) (q : test y ≡ true). eq-eqb x.id y.id (at x p ∙ sym (at y q)) in
      let one = one_passes (on (λ (x : StoredVersion). x.id) nat_eq) test ids.versions w (apart_by (λ (x : StoredVersion). x.id) ids.versions stands.rising) alike i (same_number w.id w.id ∙ eq-eqb w.id w.id refl) in
      ap (map (shows archive_places)) (one_row row_of_archive (is_number 0 w.id) w ids.versions (db 13) stands.archive_rows one)

  archive_right : (v : Version) → IsIn v list → checks.is_archive v.digest.items (archives_with_id v.id db) ≡ true
  archive_right v i =
      let w = version_in it db ids s h v i in
      let at = ap (λ n. archives_with_id n db) (ap (λ (t : Told). t.id) (sym w.2)) ∙ archive_at w.0 w.1 in
      let digest = (genuine w.0 w.1).digest ∙ ap (λ (t : Told). t.shown.digest) w.2 in
      ap (checks.is_archive v.digest.items) at ∙ bytes_same (sha256 w.0.publication.archive) v.digest.items digest

  pub archives_pass_so : checks.archives_pass it db ≡ true
  archives_pass_so = in_all (λ v. checks.is_archive v.digest.items (archives_with_id v.id db)) list archive_right

  version_right : (v : Version) → IsIn v list → checks.IsGenuine it v
  version_right v i =
      let w = version_in it db ids s h v i in
      let good = genuine w.0 w.1 in
      let p = w.0.publication in
      let e = crate_of ids s.publications s.yanked db h.holds.stands.crates w.0 w.1 in
      let c = in_list it db ids s h e.0 e.1 in
      let id = ap (λ (x : StoredCrate). x.0) c.2 ∙ e.2 ∙ ap (λ (t : Told). t.of_crate) w.2 in
      let name = sym e.3 ∙ ap (λ (x : StoredCrate). x.1) (sym c.2) in
      let version = ap (λ (t : Told). t.shown.version) w.2 in
      let digest = ap (λ (t : Told). t.shown.digest) w.2 in
      let stem = ap (λ (t : Told). t.shown.stem) w.2 in
      record {
        version = ap is_version (sym version) ∙ good.version;
        release = ap release_key_of (sym version) ∙ ap (λ (t : Told). t.shown.release) w.2;
        digest = ap length (sym digest ∙ sym good.digest) ∙ length-sha256 p.archive;
        of_crate = c.0;
        has_crate = found_at it db ids s h c.0 v.crate_id c.1 id;
        stem = subst (λ t. IsStemOf t (string_bytes c.0.name) (string_bytes v.vers) v.digest.items) stem (subst (λ t. IsStemOf p.stem t (string_bytes v.vers) v.digest.items) name (subst (λ t. IsStemOf p.stem p.name t v.digest.items) version (subst (IsStemOf p.stem p.name p.version) digest good.stem)));
      }

  pub versions_pass_so : checks.VersionsPass it
  versions_pass_so = in_each (checks.IsGenuine it) list version_right
