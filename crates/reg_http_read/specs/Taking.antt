-- Reading a request from a stream.
use Rattle.std.specs.Prelude.{◌≡◌, ◌⊎◌, ◌+◌, ◌<◌, ◌≤◌, ◌++◌, ℕ, [], length, get_or, Option, Some, None, Result, Ok, Err, ⊤}
use Rattle.std.specs.Io.KnownBytes.{Appends, Consumes, IsAtEnd}
use Rattle.reg_body.specs.declared.limits.Limits.{Limits}
use Rattle.reg_http_read.specs.Heads.{Facts, IsHeadAt, IsUnfinished}
use Rattle.reg_model.specs.Registry.{Text}
use Rattle.reg_body.specs.Sent.{AppendsFront}
use Rattle.reg_http_read.specs.Begun.{IsBegun, IsRefused, begins_head, interim_if, interim_of}
use Rattle.reg_http_read.specs.Owned.{facts_owned}
use Rattle.reg_http_read.specs.declared.fault.StreamFault.{StreamFault}
use Rattle.reg_http_read.specs.declared.fault.StreamFault.TheVariants.{ReadFault, TooManyTurns, WriteFault}
use Rattle.reg_http_read.specs.declared.reading.Piece.{Piece}
use Rattle.reg_http_read.specs.declared.reading.Piece.TheVariants as piece
use Rattle.reg_http_read.specs.declared.taking.Awaited.{Awaited}
use Rattle.reg_http_read.specs.declared.taking.Awaited.TheVariants as awaited
use Rattle.reg_http_read.specs.declared.taking.Rest.{Rest}
use Rattle.reg_http_read.specs.declared.taking.Rest.TheVariants as remaining
use Rattle.reg_http_read.specs.declared.taking.Taken.{Taken}
use Rattle.reg_http_read.specs.declared.taking.Taken.TheVariants as taken

-- the bytes begin with this head, are refused with nothing written, or are too few to tell
abbrev pub IsFound : Limits → Text → Option Awaited → Type 0
IsFound limits bytes None = IsUnfinished limits bytes
IsFound limits bytes (Some awaited.End) = ⊥
IsFound limits bytes (Some (awaited.Refused broken head_only)) =
    IsRefused limits bytes [] broken head_only
IsFound limits bytes (Some (awaited.Head it)) = IsHeadAt limits bytes (facts_owned it)

-- no line ends among the bytes
abbrev pub HasNoLine : Text → Type 0
HasNoLine bytes = (k : ℕ) → k < length bytes → get_or bytes k 0 ≡ 10 → ⊥

-- the reader's bytes before and after, and the bytes that wait before and after
module _ (r0 r1 : Option Text) (was now : Text) where
  -- some bytes were read, and this holds of all that wait with them
  abbrev pub Reads : (Text → Type 0) → Type 0
  Reads holds = (bytes : Text) × Consumes r0 r1 bytes × holds (was ++ bytes)

  -- what one read brought
  abbrev pub IsPiece : Result Piece StreamFault → Type 0
  IsPiece (Ok piece.End) = Reads (λ rest. now ≡ rest) × IsAtEnd r1 × (now ≡ was)
  IsPiece (Ok piece.More) = Reads (λ rest. now ≡ rest)
  IsPiece (Ok (piece.NoMemory head_only)) =
      Reads (λ rest. (0 < length rest) × (head_only ≡ begins_head rest))
  IsPiece (Err ReadFault) = Reads (λ rest. now ≡ rest) × (now ≡ was)
  IsPiece (Err TooManyTurns) = Reads (λ rest. now ≡ rest) × (now ≡ was)
  IsPiece (Err fault) = ⊥

  -- what was found where more of a head was waited for
  abbrev pub IsLine : Limits → Result Piece StreamFault → Type 0
  IsLine limits (Ok piece.End) = Reads (λ rest. IsUnfinished limits rest) × IsAtEnd r1
  IsLine limits (Ok piece.More) = Reads (λ rest. now ≡ rest)
  IsLine limits (Ok (piece.NoMemory head_only)) =
      Reads (λ rest. (0 < length rest) × (head_only ≡ begins_head rest))
  IsLine limits (Err ReadFault) = Reads (λ rest. IsUnfinished limits rest)
  IsLine limits (Err TooManyTurns) = Reads (λ rest. IsUnfinished limits rest)
  IsLine limits (Err fault) = ⊥

  -- what was found where a head was waited for
  abbrev pub Awaits : Limits → Result Awaited StreamFault → Type 0
  Awaits limits (Ok awaited.End) = Reads (λ rest. IsUnfinished limits rest) × IsAtEnd r1
  Awaits limits (Ok (awaited.Refused broken head_only)) =
      Reads (λ rest. IsRefused limits rest [] broken head_only)
  Awaits limits (Ok (awaited.Head it)) =
      Reads (λ rest. (now ≡ rest) × IsHeadAt limits rest (facts_owned it))
  Awaits limits (Err ReadFault) = Reads (λ rest. IsUnfinished limits rest)
  Awaits limits (Err TooManyTurns) = Reads (λ rest. IsUnfinished limits rest)
  Awaits limits (Err fault) = ⊥

  -- what was found where so many bytes were waited for
  abbrev pub Fills : ℕ → Result Rest StreamFault → Type 0
  Fills total (Ok remaining.Whole) = Reads (λ rest. (now ≡ rest) × (total ≤ length rest))
  Fills total (Ok remaining.End) = Reads (λ rest. length rest < total) × IsAtEnd r1
  Fills total (Ok remaining.NoMemory) = Reads (λ rest. ⊤)
  Fills total (Err ReadFault) = Reads (λ rest. length rest < total)
  Fills total (Err TooManyTurns) = Reads (λ rest. length rest < total)
  Fills total (Err fault) = ⊥

  -- what was found where a request was waited for, and what was written for it
  module _ (w0 w1 : Option Text) (limits : Limits) where
    abbrev pub HasBegun : Type 0
    HasBegun = Reads (λ rest. (more : Text) × Appends w0 w1 more × IsBegun limits rest more)

    -- the interim line was cut off
    abbrev pub IsCutOff : Type 0
    IsCutOff = Reads (λ rest. (f : Facts) × IsHeadAt limits rest f
        × AppendsFront (interim_of f) w0 w1)

    abbrev pub Takes : Result Taken StreamFault → Type 0
    Takes (Ok taken.End) = HasBegun × IsAtEnd r1
    Takes (Ok (taken.Refused broken head_only)) = Reads (λ rest. (more : Text) × Appends w0 w1 more
        × IsRefused limits rest more broken head_only)
    Takes (Ok (taken.Whole it)) = Reads (λ rest. (now ≡ rest)
        × IsHeadAt limits rest (facts_owned it) × (it.len + it.body_len ≤ length rest)
        × Appends w0 w1 (interim_if it.interim))
    Takes (Err ReadFault) = HasBegun
    Takes (Err TooManyTurns) = HasBegun ⊎ IsCutOff
    Takes (Err WriteFault) = IsCutOff
    Takes (Err fault) = ⊥
