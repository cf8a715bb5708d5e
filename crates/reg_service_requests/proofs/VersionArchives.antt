-- The archive with the id of a version is that of its publication.
use Rattle.reg_service_requests.proofs.Words.{◌≡◌, ℕ, List, map, Bool, true, false, cond, Option, Some, None, refl, sym, ap, subst, ◌∙◌}
use Rattle.reg_service_requests.proofs.Words.{find, option_map, Trees, is_name, Publication, Registry, Text, maps_twice, Archive}
use Rattle.reg_service_requests.proofs.Words.{IsArchiveWithId, told_of, IdAssignment, IsIdOf, version_named}
use Rattle.std.proofs.Common.{◌==◌, is_some}
use Rattle.std.specs.FinSet as finset
use Rattle.std.specs.List.Sorted.{IsPermutation}
use Rattle.sqlite.specs.Order.{Row}
use Rattle.reg_model.specs.Actions.Action.{Download}
use Rattle.reg_model.specs.Crates.{version}
use Rattle.reg_model.specs.Registry.{mark_cmp}
use Rattle.reg_tables_schema.specs.Tests.{is_number, shows}
use Rattle.reg_tables_schema.proofs.Permutes.{filter_map}
use Rattle.reg_tables_sql.specs.Archives.{archive_places, archive_row, columns_of_archive}
use Rattle.reg_tables_represent.specs.Stands.{StandCrates, StoredVersion}
use Rattle.reg_tables_represent.proofs.Selected.{selected_one}
use Rattle.reg_tables_represent.proofs.Standing.{same_number}
use Rattle.reg_access.specs.Admitted.{publication_at}
use Rattle.reg_access.proofs.VersionIds.{finds_one}

-- the bytes of an archive behind the id of its version, as stored and as read
abbrev stored : StoredVersion → ℕ × Text
stored v = (v.id, v.publication.archive)

abbrev read : Archive → ℕ × Text
read a = (a.version, a.bytes.items)

abbrev row : ℕ × Text → Row
row e = archive_row e.0 e.1

same_archive : (e : ℕ × Text) (a : Archive) → shows archive_places (row e) ≡ columns_of_archive a → e ≡ read a
same_archive (id, bytes) a e = cc

map_twice : {X Y Z : Type 0} (f : X → Y) (g : Y → Z) (o : Option X) → option_map g (option_map f o) ≡ option_map (λ x. g (f x)) o
map_twice f g None = refl
map_twice f g (Some x) = refl

module _ (ids : IdAssignment) (ps : List Publication) (yanked : finset.FinSet mark_cmp) (db : Trees) (h : StandCrates ids ps yanked db) where
  pub archive_at : (id : ℕ) (found : Option Archive) → IsArchiveWithId id db found → option_map (λ a. a.bytes.items) found ≡ option_map (λ p. p.archive) (publication_at ids id)
  archive_at id found shown =
      let its = λ (v : StoredVersion). v.id == id in
      let rows = subst (λ rs. IsPermutation rs (db 13)) (sym (maps_twice stored row ids.versions)) h.archive_rows in
      let alone = selected_one row (shows archive_places) columns_of_archive read same_archive (is_number 0 id) (λ e. e.0 == id) (λ e. same_number e.0 id) (map stored ids.versions) (db 13) found rows shown in
      let one = finds_one stored its ids.versions (option_map read found) (sym (filter_map stored (λ e. e.0 == id) ids.versions) ∙ alone) in
      sym (map_twice read (λ (e : ℕ × Text). e.1) found) ∙ ap (option_map (λ e. e.1)) (sym one) ∙ map_twice stored (λ (e : ℕ × Text). e.1) (find its ids.versions)
      ∙ sym (map_twice (λ v. v.publication) (λ (p : Publication). p.archive) (find its ids.versions))

-- the version whose id was found of a download is the one that it names
pub named_version : (ids : IdAssignment) (s : Registry) (n v : Text) (id : ℕ) → IsIdOf ids (version_named s (Download n v)) (Some id) → publication_at ids id ≡ version s n v
named_version ids s n v id it = by (is_name n) it.0 it.1
  where
    by : (b : Bool) → publication_at ids id ≡ told_of (cond b (Some n) None) None (λ m. version s m v) → is_some (told_of (cond b (Some n) None) None (λ m. version s m v)) ≡ true → publication_at ids id ≡ version s n v
    by true is there = is
    by false is there = absurd cc
