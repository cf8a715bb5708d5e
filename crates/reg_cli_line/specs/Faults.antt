-- What is called of a fault of `line`: its words.
use Rattle.std.specs.Prelude.{ℕ, List}
use Rattle.reg_body.specs.Words as body
use Rattle.reg_manifest.specs.Words as metadata
use Rattle.reg_manifest.specs.declared.fault.ManifestFault.TheVariants as manifest
use Rattle.reg_cli_line.specs.declared.fault.LineFault.{LineFault}
use Rattle.reg_cli_line.specs.declared.fault.LineFault.TheVariants as fault

-- want of memory, which is no rule
abbrev pub memory : LineFault
memory = fault.Manifest manifest.Memory

-- the line on standard error
abbrev pub words_of : LineFault → List ℕ
words_of (fault.Body f) = body.words_of f
words_of (fault.Manifest f) = metadata.words_of f
