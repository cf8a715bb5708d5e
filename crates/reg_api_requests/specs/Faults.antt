-- Why nothing was read of a publish body.
use Rattle.std.specs.Prelude.{◌≡◌, true}
use Rattle.reg_manifest.specs.declared.fault.ManifestFault.{ManifestFault}
use Rattle.reg_manifest.specs.declared.fault.ManifestFault.TheVariants as manifest
use Rattle.reg_model.specs.declared.rule.Rule.TheVariants as rule
use Rattle.reg_model.specs.Steps.{is_own_rule}
use Rattle.reg_api_requests.specs.declared.fault.RequestFault.{RequestFault}
use Rattle.reg_api_requests.specs.declared.fault.RequestFault.TheVariants.{Broken, Memory}

abbrev pub fault_of_manifest : ManifestFault → RequestFault
fault_of_manifest manifest.NotJson = Broken rule.B4
fault_of_manifest manifest.Field = Broken rule.B5
fault_of_manifest manifest.Name = Broken rule.N1
fault_of_manifest manifest.Version = Broken rule.V1
fault_of_manifest manifest.Dependency = Broken rule.M1
fault_of_manifest manifest.Memory = Memory

-- a rule that is broken is one that a body breaks by itself
abbrev pub IsOwn : RequestFault → Type 0
IsOwn (Broken r) = is_own_rule r ≡ true
IsOwn Memory = Unit {0}
