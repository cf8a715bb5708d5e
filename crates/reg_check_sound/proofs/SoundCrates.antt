-- What passes makes sound publications and marks.
use Rattle.reg_check_sound.proofs.Words.{AllByRecursion, list_all, option_map, and_from, eqb-false, all-map, IsStemOf, Publication, mark_cmp}
use Rattle.reg_check_sound.proofs.Words.{mark_total, mark_apart, same_key, IsIn, any_in, in_any, in_all, in_each, in_map, map_in, in_filter}
use Rattle.reg_check_sound.proofs.Words.{archives_with_id, canon_from, mark_from, name_from, publication_from, registry_from, spelling}
use Rattle.reg_check_sound.proofs.Common.{◌≡◌, ◌==◌, ◌∙◌, ◌&&◌, AllRows, ap, ap₂, Bool, bytes_eq, bytes_same, canon, eq_by_cmp, eqb-true, false, filter, is_name, List, map, not_true, refl, same_bytes, string_bytes, subst, sym, Trees, true, Version}
use Rattle.std.specs.List.{IsDistinct}
use Rattle.std.specs.FinSet as finset
use Rattle.reg_model.specs.Crates.{collides, first}
use Rattle.reg_model.specs.Registry as model
use Rattle.reg_model.specs.Registry.{holds}
use Rattle.reg_model.specs.Sound as sound
use Rattle.reg_model.specs.Steps as steps
use Rattle.reg_check_sound.proofs.Archives.{archive_digest}
use Rattle.reg_check_sound.proofs.Lists.{find_some}
use Rattle.reg_check_sound.proofs.Passing.{Passing, archive_is, crate_is, genuine}
use Rattle.reg_check_sound.proofs.Uniques.{distinct_map, distinct_on}
use Rattle.reg_check_sound.proofs.Versions.{crate_at, one_id, one_release, releases_apart}

module _ (it : AllRows) (db : Trees) (h : Passing it db) where
  abbrev s : model.Registry
  s = registry_from it db

  abbrev vs : List Version
  vs = it.versions.items

  abbrev pub_of : Version → Publication
  pub_of v = publication_from it db v

  pub publications_sound : AllByRecursion steps.IsGenuine s.publications
  publications_sound = all-map steps.IsGenuine pub_of vs (in_each (λ v. steps.IsGenuine (pub_of v)) vs (λ v i.
      let g = genuine it db h v i in
      let c = crate_at it db h v i in
      record {
        name = ap is_name c.3 ∙ (crate_is it db h c.0 c.1).name;
        version = g.version;
        digest = archive_digest v.digest.items (archives_with_id v.id db) (archive_is it db h v i);
        stem = subst (λ n. IsStemOf v.stem.items n (string_bytes v.vers) v.digest.items) (sym (ap spelling g.has_crate)) g.stem;
      }))

  pub spelled_sound : list_all (λ p. holds (λ n. bytes_eq n p.name) (first s p.name)) s.publications ≡ true
  spelled_sound = in_all (λ p. holds (λ n. bytes_eq n p.name) (first s p.name)) s.publications (λ p i.
      let v = map_in pub_of vs p i in
      let test : Publication → Bool = λ q. collides q.name p.name in
      let q = find_some test s.publications (in_any test s.publications p i (bytes_same (canon p.name) (canon p.name) refl)) in
      let w = map_in pub_of vs q.0 q.2 in
      let canons = ap (λ (x : Publication). canon x.name) w.2 ∙ same_bytes (canon q.0.name) (canon p.name) q.3 ∙ ap (λ (x : Publication). canon x.name) (sym v.2) in
      let names = ap (name_from it) (one_id it db h w.0 v.0 w.1 v.1 canons) in
      ap (λ o. holds (λ n. bytes_eq n p.name) (option_map (λ (x : Publication). x.name) o)) q.1
      ∙ bytes_same q.0.name p.name (ap (λ (x : Publication). x.name) (sym w.2) ∙ names ∙ ap (λ (x : Publication). x.name) v.2))

  pub releases_sound : IsDistinct sound.one_release s.publications
  releases_sound = distinct_map sound.one_release pub_of vs (distinct_on (one_release it db h) (λ v w. sound.one_release (pub_of v) (pub_of w)) vs (λ v w i j.
      let names = same_crate v w i j (v.crate_id == w.crate_id) refl in
      let gv = genuine it db h v i in
      let gw = genuine it db h w j in
      ap₂ ◌&&◌ names (ap₂ bytes_eq (sym gv.release) (sym gw.release))) (releases_apart it db h))
    where
      same_crate : (v w : Version) → IsIn v vs → IsIn w vs → (b : Bool) → (v.crate_id == w.crate_id) ≡ b → b ≡ bytes_eq (canon_from it v.crate_id) (canon_from it w.crate_id)
      same_crate v w i j true e = sym (bytes_same _ _ (ap (canon_from it) (eqb-true v.crate_id w.crate_id e)))
      same_crate v w i j false e = sym (not_true _ (λ t. eqb-false v.crate_id w.crate_id e (one_id it db h v w i j (same_bytes _ _ t))))

  pub yanked_sound : (c v : model.Text) → finset.contains s.yanked (c, v) ≡ true → sound.has_version s c v ≡ true
  yanked_sound c v there =
      let q : model.Mark = (c, v) in
      let kept = filter (λ v. v.yanked) vs in
      let marks = map (mark_from it) kept in
      let k = any_in (eq_by_cmp mark_cmp q) marks (sym (finset.contains-from_list mark_total marks q) ∙ there) in
      let w = map_in (mark_from it) kept k.0 k.1 in
      let same : mark_from it w.0 ≡ q = w.2 ∙ sym (same_key mark_apart q k.0 k.2) in
      in_any (λ p. bytes_eq (canon p.name) c && bytes_eq p.version v) s.publications (pub_of w.0) (in_map pub_of vs w.0 (in_filter (λ v. v.yanked) vs w.0 w.1))
      (and_from _ _ (bytes_same _ c (ap (λ (x : model.Mark). x.0) same)) (bytes_same _ v (ap (λ (x : model.Mark). x.1) same)))
