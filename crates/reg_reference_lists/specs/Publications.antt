-- What is asked of a list of publications.
use Rattle.std.specs.Prelude.{ℕ, suc, if◌then◌else◌, Bool, List, [], ◌∷◌, Option, map, slice_get, string_bytes}
use Rattle.std.specs.Option.{option_and_then, option_map}
use Rattle.std.specs.FinMap as finmap
use Rattle.std.specs.FinMap.Entries.{by_order}
use Rattle.reg_names.specs.Names.{canon}
use Rattle.reg_versions.specs.Precedence.{top_place}
use Rattle.reg_versions.specs.Versions.{parts_of}
use Rattle.std.specs.List.{filter}
use Rattle.std.specs.Ordering.{is_gt}
use Rattle.reg_model.specs.Registry as model
use Rattle.std.specs.FinSet as finset
use Rattle.reg_model.specs.Registry.{Text, mark_cmp, text_cmp}
use Rattle.reg_model.specs.Crates.{collides}
use Rattle.reg_reference_lists.specs.declared.publications.Publication.{Publication}

abbrev pub publication_of : Publication → model.Publication
publication_of p = record {
  name = p.name;
  version = string_bytes p.version;
  description = option_map string_bytes p.description;
  stem = p.stem.items;
  digest =
      p.digest;
  archive = p.archive.items;
}

-- the publications of a crate, oldest first
abbrev pub versions_in : List model.Publication → Text → List model.Publication
versions_in ps n = filter (λ p. collides p.name n) ps

-- a version's stem and mark, where these are the marks and this is the crate
abbrev pub marked_in : finset.FinSet mark_cmp → Text → model.Publication → Text × Bool
marked_in yanked c p = (p.stem, finset.contains yanked (c, p.version))

-- the publication of the highest version of a crate, where these are the marks
abbrev pub top_in : finset.FinSet mark_cmp → List model.Publication → Text
    → Option model.Publication
top_in yanked ps n = option_and_then (slice_get (versions_in ps n))
    (top_place (map (λ p. (parts_of p.version, finset.contains yanked (canon n, p.version)))
    (versions_in ps n)))

-- the canonical texts of the crates, in their order
abbrev pub canons_in : List model.Publication → List Text
canons_in ps = finmap.keys (finmap.from_entries {R = text_cmp}
    (map (λ p. (canon p.name, tt {0})) ps))

-- a text put in its place among others in their order, unless it is there
abbrev pub put_text : Text → List Text → List Text
put_text t [] = t ∷ []
put_text t (u ∷ us) = by_order (text_cmp t u) (t ∷ u ∷ us) (u ∷ us) (u ∷ put_text t us)

-- how many of the texts at the front a text stands behind
abbrev pub place_for : Text → List Text → ℕ
place_for t [] = 0
place_for t (u ∷ us) = if is_gt (text_cmp t u) then suc (place_for t us) else 0
