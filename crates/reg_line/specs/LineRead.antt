-- Reading a line's value back into what a manifest tells, its description aside.
use Rattle.std.specs.Prelude.{ℕ, true, false, Option, Some, None, List, [], codes, Ok, Err, if◌then◌else◌, option_map, string_bytes}
use Rattle.serde_json.specs.Data.{Data, no_items}
use Rattle.reg_names.specs.Names.{is_name}
use Rattle.reg_manifest.specs.Parsing.{Parsed, ◌>>=◌}
use Rattle.reg_manifest.specs.Fields.{Features, json_of, field, text_of, texts_of, flag_of, list_of, members_of, required, or_else, optional, each, features_of, lists_onto}
use Rattle.reg_manifest.specs.Manifests.{DepData, Metadata}
use Rattle.reg_manifest.specs.declared.fault.ManifestFault.TheVariants as fault
use Rattle.reg_line.specs.declared.line_read.VersionFields.{VersionFields}
use Rattle.reg_line.specs.declared.line_read.Origin.{Origin}

-- the package's own name, from `name` and `package`
abbrev pub own_name : List ℕ → Option (List ℕ) → List ℕ
own_name name None = name
own_name name (Some own) = own

-- the new name of a renamed dependency
abbrev pub new_name : List ℕ → Option (List ℕ) → Option (List ℕ)
new_name name None = None
new_name name (Some own) = Some name

-- where a dependency is from, what of it is asked for, and what it is for
pub record OriginData : Type 0 where
  pub own : Option (List ℕ)
  pub registry : Option (List ℕ)
  pub req : List ℕ
  pub target : Option (List ℕ)

unfoldable pub origin_from : Data → Parsed OriginData
origin_from d = optional text_of (field (codes "package") d) >>= λ own.
    optional text_of (field (codes "registry") d) >>= λ registry.
    required text_of (field (codes "req") d) >>= λ req.
    optional text_of (field (codes "target") d) >>= λ target.
    Ok (record { own = own; registry = registry; req = req; target = target })

-- a dependency of a line
unfoldable pub dep_from : Data → Parsed DepData
dep_from d = members_of d >>= λ _.
    or_else true flag_of (field (codes "default_features") d) >>= λ default.
    or_else [] texts_of (field (codes "features") d) >>= λ features.
    required text_of (field (codes "kind") d) >>= λ kind.
    required text_of (field (codes "name") d) >>= λ name.
    or_else false flag_of (field (codes "optional") d) >>= λ opt.
    origin_from d >>= λ origin.
    Ok (record {
      name = own_name name origin.own;
      req = origin.req;
      features = features;
      optional = opt;
      default_features = default;
      target = origin.target;
      kind = kind;
      registry = origin.registry;
      rename = new_name name origin.own;
    })

-- a field that is a crate name
abbrev pub name_from : Option Data → Parsed (List ℕ)
name_from found =
    required text_of found >>= λ name. if is_name name then Ok name else Err fault.Name

-- the newer features put among the older ones
abbrev pub with_newer : Features → Option Data → Parsed Features
with_newer olds None = Ok olds
with_newer olds (Some d) = members_of d >>= λ ms. lists_onto ms olds

unfoldable pub features_from : Data → Parsed Features
features_from d =
    or_else [] features_of (field (codes "features") d) >>= λ olds.
    with_newer olds (field (codes "features2") d)

-- what else is told of a version
pub record AboutData : Type 0 where
  pub links : Option (List ℕ)
  pub name : List ℕ
  pub rust_version : Option (List ℕ)
  pub vers : List ℕ

unfoldable pub about_from : Data → Parsed AboutData
about_from d = optional text_of (field (codes "links") d) >>= λ links.
    name_from (field (codes "name") d) >>= λ name.
    optional text_of (field (codes "rust_version") d) >>= λ rust_version.
    required text_of (field (codes "vers") d) >>= λ vers.
    Ok (record { links = links; name = name; rust_version = rust_version; vers = vers })

-- what a line tells
unfoldable pub line_from : Data → Parsed Metadata
line_from d = members_of d >>= λ _.
    or_else no_items list_of (field (codes "deps") d) >>= λ list.
    each dep_from list >>= λ deps.
    features_from d >>= λ features.
    about_from d >>= λ about.
    Ok (record {
      name = about.name;
      vers = about.vers;
      deps = deps;
      features = features;
      description = None;
      links = about.links;
      rust_version = about.rust_version;
    })

-- what the bytes of a line tell
unfoldable pub bytes_from : List ℕ → Parsed Metadata
bytes_from bytes = json_of bytes >>= λ d. line_from d

-- ---- what the parts that are read hold

abbrev pub origin_view : Origin → OriginData
origin_view o = record {
  own = option_map string_bytes o.own;
  registry = option_map string_bytes o.registry;
  req = string_bytes o.req;
  target = option_map string_bytes o.target;
}

abbrev pub about_view : VersionFields → AboutData
about_view a = record {
  links = option_map string_bytes a.links;
  name = a.name;
  rust_version = option_map string_bytes a.rust_version;
  vers = string_bytes a.vers;
}
