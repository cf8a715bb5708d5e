-- The words of the rules that metadata can break.
use Rattle.std.specs.Prelude.{ℕ, List, codes}
use Rattle.reg_manifest.specs.declared.fault.ManifestFault.{ManifestFault}
use Rattle.reg_manifest.specs.declared.fault.ManifestFault.TheVariants as fault

-- the rule's code, a space and words; want of memory is no rule
abbrev pub words_of : ManifestFault → List ℕ
words_of fault.NotJson = codes "B4 metadata is not JSON"
words_of fault.Field = codes "B5 metadata field missing or of the wrong kind"
words_of fault.Name = codes "N1 bad crate name"
words_of fault.Version = codes "V1 bad version"
words_of fault.Dependency = codes "M1 bad dependency"
words_of fault.Memory = codes "memory"
