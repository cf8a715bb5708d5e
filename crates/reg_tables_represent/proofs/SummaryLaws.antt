-- The highest version of a crate and the length of its index file, by its id and by its name.
use Rattle.reg_tables_represent.proofs.Words.{file_text, file, versions, StandCrates, spelling_at, is_marked, its_versions, length_of}
use Rattle.reg_tables_represent.proofs.Words.{marked_of, top_place, parts_of}
use Rattle.reg_tables_represent.proofs.Common.{◌≡◌, ◌==◌, ◌∙◌, ap, Bool, canon, filter, filter_map, filtered_passes, in_filter, IsIn, length, List, map, map_same, maps_twice, None, Option, option_and_then, option_map, Publication, refl, Registry, slice_get, Some, sym, Text, Trees, ℕ}
use Rattle.std.specs.FinSet as finset
use Rattle.reg_model.specs.Crates.{collides, is_yanked}
use Rattle.reg_model.specs.Search.{marked, top}
use Rattle.reg_tables_represent.proofs.CrateLemmas.{same_bytes, same_crate, there_at}
use Rattle.reg_tables_represent.proofs.SummaryRows.{got_map}
use Rattle.reg_tables_represent.proofs.VersionEntries.{same_passes}
use Rattle.reg_tables_represent.specs.Stored.{IdAssignment, StoredVersion}
use Rattle.reg_tables_represent.specs.Summaries.{top_of}

-- the image of what stands at a place
got : {X Y : Type 0} (f : X → Y) (xs : List X) (o : Option ℕ) → option_map f (option_and_then (slice_get xs) o) ≡ option_and_then (slice_get (map f xs)) o
got f xs None = refl
got f xs (Some k) = sym (got_map f k xs)

module _ (ids : IdAssignment) (s : Registry) (db : Trees) (h : StandCrates ids s.publications s.yanked db) (id : ℕ) (name : Text) (at : spelling_at ids id ≡ Some name) where
  there : IsIn (id, name) ids.crates
  there = there_at ids id name at

  abbrev its : List StoredVersion
  its = its_versions ids id

  same : (v : StoredVersion) → IsIn v ids.versions → (v.of_crate == id) ≡ collides v.publication.name name
  same = same_crate ids s.publications s.yanked db h id name there

  pub published : map (λ v. v.publication) its ≡ versions s name
  published =
      ap (map (λ (v : StoredVersion). v.publication)) (same_passes (λ v. v.of_crate == id) (λ v. collides v.publication.name name) ids.versions same)
      ∙ sym (filter_map (λ v. v.publication) (λ p. collides p.name name) ids.versions) ∙ ap (filter (λ p. collides p.name name)) h.published

  canon_is : (v : StoredVersion) → IsIn v its → canon v.publication.name ≡ canon name
  canon_is v i = same_bytes (canon v.publication.name) (canon name) (sym (same v (in_filter (λ v. v.of_crate == id) ids.versions v i)) ∙ filtered_passes (λ v. v.of_crate == id) ids.versions v i)

  yanked_is : (v : StoredVersion) → IsIn v its → is_marked s.yanked v ≡ is_yanked s name v.publication.version
  yanked_is v i = ap (λ c. finset.contains s.yanked (c, v.publication.version)) (canon_is v i)

  read_as : map (marked_of s.yanked) its ≡ map (marked s name) (versions s name)
  read_as =
      map_same (marked_of s.yanked) (λ v. marked s name v.publication) its (λ v i. ap (λ b. (parts_of v.publication.version, b)) (yanked_is v i))
      ∙ sym (maps_twice (λ v. v.publication) (marked s name) its) ∙ ap (map (marked s name)) published

  lined_as : map {B = Text × Bool} (λ v. (v.publication.stem, is_marked s.yanked v)) its ≡ map {B = Text × Bool} (λ p. (p.stem, is_yanked s name p.version)) (versions s name)
  lined_as =
      map_same (λ v. (v.publication.stem, is_marked s.yanked v)) (λ v. (v.publication.stem, is_yanked s name v.publication.version)) its (λ v i. ap (λ b. (v.publication.stem, b)) (yanked_is v i))
      ∙ sym (maps_twice (λ v. v.publication) (λ p. (p.stem, is_yanked s name p.version)) its) ∙ ap (map {B = Text × Bool} (λ (p : Publication). (p.stem, is_yanked s name p.version))) published

  pub top_named : option_map (λ v. v.publication) (top_of ids s.yanked id) ≡ top s name
  unfolding top
  top_named =
      got (λ v. v.publication) its (top_place (map (marked_of s.yanked) its))
      ∙ (λ i. option_and_then (slice_get (published i)) (top_place (read_as i)))

  pub length_named : length_of ids s.yanked id ≡ length (file s name)
  length_named = ap (λ ls. length (file_text ls)) lined_as
