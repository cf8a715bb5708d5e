-- The members of a line and of a dependency, some at a time, put beside those that are there.
use Rattle.std.specs.Prelude.{ℕ, List, codes}
use Rattle.serde_json.specs.Data.{boolean, number, object, string, unsigned, Members, put}
use Rattle.reg_manifest.specs.Manifests.{DepData, Metadata}
use Rattle.reg_line.specs.Features.{texts}
use Rattle.reg_line.specs.Line.{deps_data, text_or_null}

-- a dependency's members up to its name
abbrev pub first_members : List ℕ → DepData → Members → Members
first_members name d m =
    put (codes "optional") (boolean d.optional)
    (put (codes "name") (string name)
    (put (codes "kind") (string d.kind)
    (put (codes "features") (texts d.features)
    (put (codes "default_features") (boolean d.default_features) m))))

-- what a line has of its manifest, features aside
abbrev pub manifest_members : Metadata → Members → Members
manifest_members metadata m =
    put (codes "vers") (string metadata.vers)
    (put (codes "rust_version") (text_or_null metadata.rust_version)
    (put (codes "name") (string metadata.name)
    (put (codes "links") (text_or_null metadata.links)
    (put (codes "deps") (deps_data metadata.deps) m))))

-- the newer features, and the format that they ask for
abbrev pub newer_members : Members → Members → Members
newer_members newer m =
    put (codes "v") (number (unsigned 2)) (put (codes "features2") (object newer) m)
