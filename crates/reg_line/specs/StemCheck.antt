-- Which bytes are a stem: what the check decides, and how it goes about it.
use Rattle.std.specs.Prelude.{◌≡◌, ℕ, Bool, true, false, not, List, ◌++◌, codes, Ok, if◌then◌else◌, bytes_eq, string_bytes, string_cmp}
use Rattle.std.specs.BTreeMap.{IsOrdered}
use Rattle.reg_manifest.specs.Manifests.{Metadata, manifest_view}
use Rattle.reg_manifest.specs.Metadata.{keeps_rules}
use Rattle.reg_manifest.specs.Parsing.{Parsed, ◌>>=◌}
use Rattle.reg_manifest.specs.declared.manifest.Manifest.{Manifest}
use Rattle.reg_line.specs.Line.{IsStem, line_json}
use Rattle.reg_line.specs.LineRead.{bytes_from}

-- some manifest of this name and version keeps the rules, and s is its stem with this digest
abbrev pub IsStemOf : List ℕ → List ℕ → List ℕ → List ℕ → Type 0
IsStemOf s name vers digest = (m : Manifest) × IsOrdered string_cmp m.features
    × (keeps_rules (manifest_view m) ≡ true)
    × (m.name ≡ name) × (string_bytes m.vers ≡ vers) × IsStem (manifest_view m) digest s

-- the manifest is of this name and version, keeps the rules, and its line is this
unfoldable pub fits : Metadata → List ℕ → List ℕ → List ℕ → List ℕ → Bool
fits m whole name vers digest =
    if not (bytes_eq m.name name) then false
    else if not (bytes_eq m.vers vers) then false
    else if not (keeps_rules m) then false
    else bytes_eq (line_json m digest false) whole

-- the line that the stem begins is read back, and written again
unfoldable pub stem_read : List ℕ → List ℕ → List ℕ → List ℕ → Parsed Bool
stem_read s name vers digest =
    bytes_from (s ++ codes "false}") >>= λ m. Ok (fits m (s ++ codes "false}") name vers digest)
