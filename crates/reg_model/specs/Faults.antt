-- Which rule a refused publish body breaks (the Cargo Book, "Registry Web API", Publish).
use Rattle.reg_body.specs.declared.frame.BodyFault.{BodyFault}
use Rattle.reg_body.specs.declared.frame.BodyFault.TheVariants as body
use Rattle.reg_manifest.specs.declared.fault.ManifestFault.{ManifestFault}
use Rattle.reg_manifest.specs.declared.fault.ManifestFault.TheVariants as manifest
use Rattle.reg_model.specs.declared.rule.Rule.{Rule}
use Rattle.reg_model.specs.declared.rule.Rule.TheVariants as rule

abbrev pub rule_of_body : BodyFault → Rule
rule_of_body body.Short = rule.B1
rule_of_body body.Trailing = rule.B2
rule_of_body body.TooLong = rule.B3

-- want of memory is S1, as for each request
abbrev pub rule_of_manifest : ManifestFault → Rule
rule_of_manifest manifest.NotJson = rule.B4
rule_of_manifest manifest.Field = rule.B5
rule_of_manifest manifest.Name = rule.N1
rule_of_manifest manifest.Version = rule.V1
rule_of_manifest manifest.Dependency = rule.M1
rule_of_manifest manifest.Memory = rule.S1
