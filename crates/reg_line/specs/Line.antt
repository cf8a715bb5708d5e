-- The index line of a manifest and a digest (the Cargo Book, "Registry Index", "JSON schema"):
-- compact JSON, its keys in byte order.
use Rattle.std.specs.Prelude.{◌≡◌, ℕ, Bool, true, false, Option, Some, None, List, [], ◌∷◌, ◌++◌, map, codes}
use Rattle.hex.specs.Hex.{encode_lower}
use Rattle.serde_json.specs.Data.{Data, unsigned, null, boolean, number, string, array, object, Members, no_members, member}
use Rattle.serde_json.specs.View.{items_of}
use Rattle.serde_json.specs.Written.{compact_text}
use Rattle.reg_manifest.specs.Fields.{Features}
use Rattle.reg_manifest.specs.Manifests.{DepData, Metadata}
use Rattle.reg_line.specs.Features.{feature_members, newer, older, texts}

abbrev pub text_or_null : Option (List ℕ) → Data
text_or_null None = null
text_or_null (Some s) = string s

-- ---- dependencies

-- a dependency under the name that it has in the manifest, and the package's own name, or null
abbrev pub dep_object : List ℕ → Data → DepData → Data
dep_object name own d = object
    (member (codes "default_features") (boolean d.default_features)
    (member (codes "features") (texts d.features)
    (member (codes "kind") (string d.kind)
    (member (codes "name") (string name)
    (member (codes "optional") (boolean d.optional)
    (member (codes "package") own
    (member (codes "registry") (text_or_null d.registry)
    (member (codes "req") (string d.req)
    (member (codes "target") (text_or_null d.target) no_members)))))))))

-- a renamed dependency has its new name as `name` and its own as `package`
abbrev pub dep_named : Option (List ℕ) → DepData → Data
dep_named None d = dep_object d.name null d
dep_named (Some new) d = dep_object new (string d.name) d

abbrev pub dep_data : DepData → Data
dep_data d = dep_named d.rename d

abbrev pub deps_data : List DepData → Data
deps_data ds = array (items_of (map dep_data ds))

-- ---- the line

-- a line without newer features
abbrev pub short_members : Members → Metadata → List ℕ → Bool → Members
short_members features m cksum yanked =
    member (codes "cksum") (string cksum)
    (member (codes "deps") (deps_data m.deps)
    (member (codes "features") (object features)
    (member (codes "links") (text_or_null m.links)
    (member (codes "name") (string m.name)
    (member (codes "rust_version") (text_or_null m.rust_version)
    (member (codes "vers") (string m.vers)
    (member (codes "yanked") (boolean yanked) no_members)))))))

-- a line with newer features
abbrev pub long_members : Members → Members → Metadata → List ℕ → Bool → Members
long_members features features2 m cksum yanked =
    member (codes "cksum") (string cksum)
    (member (codes "deps") (deps_data m.deps)
    (member (codes "features") (object features)
    (member (codes "features2") (object features2)
    (member (codes "links") (text_or_null m.links)
    (member (codes "name") (string m.name)
    (member (codes "rust_version") (text_or_null m.rust_version)
    (member (codes "v") (number (unsigned 2))
    (member (codes "vers") (string m.vers)
    (member (codes "yanked") (boolean yanked) no_members)))))))))

-- `features2` and `v` stand only where there are newer features
abbrev pub line_members : Features → Features → Metadata → List ℕ → Bool → Members
line_members olds [] m cksum yanked = short_members (feature_members olds) m cksum yanked
line_members olds (f ∷ fs) m cksum yanked =
    long_members (feature_members olds) (feature_members (f ∷ fs)) m cksum yanked

-- the line's value, its checksum the digest in lower-case hex
unfoldable pub line_data : Metadata → List ℕ → Bool → Data
line_data m digest yanked =
    object (line_members (older m.features) (newer m.features) m (encode_lower digest) yanked)

-- the line without its line feed
unfoldable pub line_json : Metadata → List ℕ → Bool → List ℕ
line_json m digest yanked = compact_text (line_data m digest yanked)

-- the line
abbrev pub line_text : Metadata → List ℕ → Bool → List ℕ
line_text m digest yanked = line_json m digest yanked ++ (10 ∷ [])

-- the stem: what stands before the value of `yanked`, the same for either value
abbrev pub IsStem : Metadata → List ℕ → List ℕ → Type 0
IsStem m digest s =
    (s ++ codes "false}" ≡ line_json m digest false)
    × (s ++ codes "true}" ≡ line_json m digest true)
