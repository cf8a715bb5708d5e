-- What a manifest tells, apart from how it is held.
use Rattle.std.specs.Prelude.{ℕ, Bool, List, map, Option, option_map, String, string_bytes}
use Rattle.std.specs.declared.alloc.Global.{Global}
use Rattle.std.specs.declared.vec.Vec.{Vec}
use Rattle.reg_manifest.specs.Fields.{Features}
use Rattle.reg_manifest.specs.declared.manifest.Dep.{Dep}
use Rattle.reg_manifest.specs.declared.manifest.Manifest.{Manifest}
use Rattle.reg_manifest.specs.declared.metadata.Details.{Details}
use Rattle.reg_manifest.specs.declared.metadata.Draft.{Draft}
use Rattle.reg_manifest.specs.declared.metadata.DepOrigin.{DepOrigin}

-- a dependency as it was sent, nulls replaced; rename is the field explicit_name_in_toml
pub record DepData : Type 0 where
  pub name : List ℕ
  pub req : List ℕ
  pub features : List (List ℕ)
  pub optional : Bool
  pub default_features : Bool
  pub target : Option (List ℕ)
  pub kind : List ℕ
  pub registry : Option (List ℕ)
  pub rename : Option (List ℕ)

pub record Metadata : Type 0 where
  pub name : List ℕ
  pub vers : List ℕ
  pub deps : List DepData
  pub features : Features
  pub description : Option (List ℕ)
  pub links : Option (List ℕ)
  pub rust_version : Option (List ℕ)

-- what a dependency is for, and where it is from
pub record PlaceData : Type 0 where
  pub target : Option (List ℕ)
  pub kind : List ℕ
  pub registry : Option (List ℕ)
  pub rename : Option (List ℕ)

-- what else is told of a version
pub record AboutData : Type 0 where
  pub description : Option (List ℕ)
  pub links : Option (List ℕ)
  pub rust_version : Option (List ℕ)

-- ---- what a caller sees of the types

abbrev pub dep_view : Dep → DepData
dep_view d = record {
  name = string_bytes d.name;
  req = string_bytes d.version_req;
  features = map string_bytes d.features.items;
  optional = d.optional;
  default_features = d.default_features;
  target = option_map string_bytes d.target;
  kind = string_bytes d.kind;
  registry = option_map string_bytes d.registry;
  rename = option_map string_bytes d.explicit_name_in_toml;
}

abbrev pub place_view : DepOrigin → PlaceData
place_view p = record {
  target = option_map string_bytes p.target;
  kind = string_bytes p.kind;
  registry = option_map string_bytes p.registry;
  rename = option_map string_bytes p.explicit_name_in_toml;
}

abbrev pub about_view : Details → AboutData
about_view a = record {
  description = option_map string_bytes a.description;
  links = option_map string_bytes a.links;
  rust_version = option_map string_bytes a.rust_version;
}

abbrev pub feature_view : String Global × Vec (String Global) Global → List ℕ × List (List ℕ)
feature_view e = (string_bytes e.0, map string_bytes e.1.items)

abbrev pub manifest_view : Manifest → Metadata
manifest_view m = record {
  name = m.name;
  vers = string_bytes m.vers;
  deps = map dep_view m.deps.items;
  features = map feature_view m.features.entries;
  description = option_map string_bytes m.description;
  links = option_map string_bytes m.links;
  rust_version = option_map string_bytes m.rust_version;
}

abbrev pub draft_view : Draft → Metadata
draft_view m = record {
  name = string_bytes m.name;
  vers = string_bytes m.vers;
  deps = map dep_view m.deps.items;
  features = map feature_view m.features.entries;
  description = option_map string_bytes m.description;
  links = option_map string_bytes m.links;
  rust_version = option_map string_bytes m.rust_version;
}
