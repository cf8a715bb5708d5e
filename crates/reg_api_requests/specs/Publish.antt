-- What a publish body asks for, or the first rule that it breaks
-- (the Cargo Book, "Registry Web API", "Publish").
use Rattle.std.specs.Prelude.{◌≡◌, ◌-◌, take, length, false, Result, Ok, Err}
use Rattle.sha2.specs.Sha256.{sha256}
use Rattle.reg_body.specs.declared.limits.Limits.{Limits}
use Rattle.reg_body.specs.declared.frame.BodyFault.{BodyFault}
use Rattle.reg_manifest.specs.Manifests.{Metadata}
use Rattle.reg_manifest.specs.Metadata.{metadata_of}
use Rattle.reg_manifest.specs.Parsing.{Parsed}
use Rattle.reg_line.specs.Line.{line_json}
use Rattle.reg_model.specs.declared.rule.Rule.{Rule}
use Rattle.reg_model.specs.Faults.{rule_of_body, rule_of_manifest}
use Rattle.reg_model.specs.Registry.{Publication, Text}
use Rattle.reg_api_requests.specs.Bodies.{body_parts}
use Rattle.reg_api_requests.specs.declared.fault.RequestFault.{RequestFault}
use Rattle.reg_api_requests.specs.declared.fault.RequestFault.TheVariants.{Broken, Memory}

-- the stem of a manifest's line: all of the line that stands before `false}`
unfoldable pub stem_of : Metadata → Text → Text
stem_of m digest = take (length (line_json m digest false) - 6) (line_json m digest false)

-- a manifest and an archive as a version that is published
abbrev pub publication_of : Text → Metadata → Publication
publication_of archive m = record {
  name = m.name;
  version = m.vers;
  description = m.description;
  stem = stem_of m (sha256 archive);
  digest = sha256 archive;
  archive = archive;
}

abbrev pub with_metadata : Text → Parsed Metadata → Result Publication Rule
with_metadata archive (Ok m) = Ok (publication_of archive m)
with_metadata archive (Err e) = Err (rule_of_manifest e)

abbrev pub with_parts : Result (Text × Text) BodyFault → Result Publication Rule
with_parts (Ok p) = with_metadata p.1 (metadata_of p.0)
with_parts (Err e) = Err (rule_of_body e)

-- the version that a body publishes, or the first rule that it breaks: of the frame, then of the
-- metadata
unfoldable pub publish_of : Limits → Text → Result Publication Rule
publish_of limits body = with_parts (body_parts limits body)

-- what a function returned, seen by view, is what is asked for, memory aside
abbrev pub Reads : {X Y : Type 0} → (X → Y) → Result X RequestFault → Result Y Rule → Type 0
Reads view (Ok x) asked = asked ≡ Ok (view x)
Reads view (Err (Broken rule)) asked = asked ≡ Err rule
Reads view (Err Memory) asked = Unit {0}
