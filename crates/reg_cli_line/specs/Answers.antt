-- What `line` prints for a publish body, the first rule that a body breaks, and why a run stops.
use Rattle.std.specs.Prelude.{◌≡◌, ◌⊎◌, ℕ, ◌+◌, List, [], ◌∷◌, ◌++◌, codes, false, Ok}
use Rattle.sha2.specs.Sha256.{sha256}
use Rattle.reg_names.specs.Names.{path_of}
use Rattle.reg_body.specs.Counting.{CountedEnd}
use Rattle.reg_body.specs.Frames.{Frame, IsCut, IsTooLong, IsTrailed, IsWithin}
use Rattle.reg_body.specs.declared.frame.BodyFault.TheVariants as body
use Rattle.reg_body.specs.declared.limits.Limits.{Limits}
use Rattle.reg_manifest.specs.Manifests.{Metadata}
use Rattle.reg_manifest.specs.Metadata.{metadata_of}
use Rattle.reg_manifest.specs.Parsing.{FailsAs}
use Rattle.reg_line.specs.Line.{line_text}
use Rattle.reg_cli_line.specs.Ends.{NoneFailed, OneFailed}
use Rattle.reg_cli_line.specs.declared.ends.EndFault.{EndFault}
use Rattle.reg_cli_line.specs.declared.ends.EndFault.TheVariants as end
use Rattle.reg_cli_line.specs.declared.fault.LineFault.{LineFault}
use Rattle.reg_cli_line.specs.declared.fault.LineFault.TheVariants as fault

-- the index path, and the line of a version that is not yanked, whose checksum is the archive's
abbrev pub printed : Metadata → List ℕ → List ℕ
printed m archive = (path_of m.name ++ (10 ∷ [])) ++ line_text m (sha256 archive) false

-- the input is a publish body within the limits, of this JSON and this archive
abbrev pub IsBodyOf : Limits → List ℕ → List ℕ → List ℕ → Type 0
IsBodyOf limits input json archive = Frame input json archive × IsWithin limits json archive

-- the text is what is printed for the input
abbrev pub IsAnswer : Limits → List ℕ → List ℕ → Type 0
IsAnswer limits input text = (json : List ℕ) × (archive : List ℕ) × (m : Metadata)
    × IsBodyOf limits input json archive × (metadata_of json ≡ Ok m) × (text ≡ printed m archive)

-- the first broken rule of the input, want of memory aside
abbrev pub Breaks : Limits → List ℕ → LineFault → Type 0
Breaks limits input (fault.Body body.Short) = IsCut input
Breaks limits input (fault.Body body.Trailing) = IsTrailed input
Breaks limits input (fault.Body body.TooLong) = IsTooLong limits input
Breaks limits input (fault.Manifest f) = (json : List ℕ) × (archive : List ℕ)
    × IsBodyOf limits input json archive × FailsAs f (metadata_of json)

-- the line for an end that stopped, its failing told by the words given
abbrev pub stop_words : EndFault → List ℕ → List ℕ
stop_words end.Failed words = words
stop_words end.Spent words = codes "too many turns"
stop_words end.Memory words = codes "memory"

-- what the line says was so, and it was all: one call failed, the calls were used up, or memory
-- was refused; nothing was written where the reader failed or memory was refused
abbrev pub IsStop : {R W : Type 0} → List ℕ → ℕ
    → CountedEnd R → CountedEnd R → CountedEnd W → CountedEnd W → Type 0
IsStop words turns reader read writer written =
    ((words ≡ codes "read fault") × OneFailed reader read × (written ≡ writer))
    ⊎ (((words ≡ codes "write fault") × NoneFailed reader read × OneFailed writer written)
    ⊎ (((words ≡ codes "too many turns") × NoneFailed reader read × NoneFailed writer written
    × (read.calls + written.calls ≡ reader.calls + writer.calls + turns))
    ⊎ ((words ≡ codes "memory") × NoneFailed reader read × (written ≡ writer))))
