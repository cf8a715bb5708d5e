-- What the metadata of a publish request stands for
-- (the Cargo Book, "Registry Web API", "Publish").
use Rattle.std.specs.Prelude.{ℕ, Bool, true, false, not, List, [], codes, Option, Some, None, Ok, Err, is_ok, bytes_eq, if◌then◌else◌, length, ◌==◌, ◌||◌, ◌&&◌}
use Rattle.std.specs.List.{list_all}
use Rattle.semver.specs.Parse.{req_of}
use Rattle.serde_json.specs.Data.{Data, no_items}
use Rattle.reg_names.specs.Names.{is_name}
use Rattle.reg_versions.specs.Versions.{is_version}
use Rattle.reg_manifest.specs.Parsing.{Parsed, ◌>>=◌}
use Rattle.reg_manifest.specs.Fields.{json_of, field, required, or_else, optional, text_of, texts_of, flag_of, list_of, members_of, each, features_of}
use Rattle.reg_manifest.specs.Manifests.{AboutData, DepData, Metadata, PlaceData}
use Rattle.reg_manifest.specs.declared.fault.ManifestFault.TheVariants as fault

-- ---- the fields, each of its kind or refused

-- what a dependency is for, and where it is from
unfoldable pub place_of : Data → Parsed PlaceData
place_of d = optional text_of (field (codes "target") d) >>= λ target.
    or_else (codes "normal") text_of (field (codes "kind") d) >>= λ kind.
    optional text_of (field (codes "registry") d) >>= λ registry.
    optional text_of (field (codes "explicit_name_in_toml") d) >>= λ rename.
    Ok (record { target = target; kind = kind; registry = registry; rename = rename })

-- a dependency's fields; it has to be an object
unfoldable pub dep_of : Data → Parsed DepData
dep_of d = members_of d >>= λ _.
    required text_of (field (codes "name") d) >>= λ name.
    required text_of (field (codes "version_req") d) >>= λ req.
    or_else [] texts_of (field (codes "features") d) >>= λ features.
    or_else false flag_of (field (codes "optional") d) >>= λ opt.
    or_else true flag_of (field (codes "default_features") d) >>= λ default.
    place_of d >>= λ place.
    Ok (record {
      name = name;
      req = req;
      features = features;
      optional = opt;
      default_features = default;
      target = place.target;
      kind = place.kind;
      registry = place.registry;
      rename = place.rename;
    })

-- what else is told of a version
unfoldable pub about_of : Data → Parsed AboutData
about_of d = optional text_of (field (codes "description") d) >>= λ description.
    optional text_of (field (codes "links") d) >>= λ links.
    optional text_of (field (codes "rust_version") d) >>= λ rust_version.
    Ok (record { description = description; links = links; rust_version = rust_version })

-- the whole value's fields; it has to be an object
unfoldable pub fields_of : Data → Parsed Metadata
fields_of d = members_of d >>= λ _.
    required text_of (field (codes "name") d) >>= λ name.
    required text_of (field (codes "vers") d) >>= λ vers.
    or_else no_items list_of (field (codes "deps") d) >>= λ list.
    each dep_of list >>= λ deps.
    or_else [] features_of (field (codes "features") d) >>= λ features.
    about_of d >>= λ about.
    Ok (record {
      name = name;
      vers = vers;
      deps = deps;
      features = features;
      description = about.description;
      links = about.links;
      rust_version = about.rust_version;
    })

-- ---- the rules

abbrev pub is_kind : List ℕ → Bool
is_kind k = bytes_eq k (codes "normal") || (bytes_eq k (codes "build") || bytes_eq k (codes "dev"))

-- an optional text that is there and empty
abbrev pub is_given_empty : Option (List ℕ) → Bool
is_given_empty None = false
is_given_empty (Some t) = length t == 0

-- a dependency has a name, a new name that is not empty, a known kind, and a requirement
-- as `semver` reads it
unfoldable pub is_dep : DepData → Bool
is_dep d = not (length d.name == 0)
    && (not (is_given_empty d.rename) && (is_kind d.kind && is_ok (req_of d.req)))

-- the name is a crate name, the version is one, and each dependency is as it has to be
unfoldable pub keeps_rules : Metadata → Bool
keeps_rules m = is_name m.name && (is_version m.vers && list_all is_dep m.deps)

-- the rules in their order
unfoldable pub checked : Metadata → Parsed Metadata
checked m =
    if not (is_name m.name) then Err fault.Name
    else if not (is_version m.vers) then Err fault.Version
    else if not (list_all is_dep m.deps) then Err fault.Dependency
    else Ok m

-- ---- the whole

-- the manifest that bytes stand for, or the first fault
unfoldable pub metadata_of : List ℕ → Parsed Metadata
metadata_of bytes = json_of bytes >>= λ d. fields_of d >>= λ m. checked m
