-- New tokens: where their digests are from, and what their texts are.
use Rattle.std.specs.Prelude.{◌≡◌, ℕ, List, length, codes, Some, None, Result, Ok, Err}
use Rattle.hex.specs.Hex.{encode_lower}
use Rattle.sha2.specs.Sha256.{sha256}
use Rattle.reg_model.specs.Registry.{Text}
use Rattle.reg_cli_args.specs.Orders.{Source}
use Rattle.reg_cli_args.specs.Orders.Source.{Random, Told}
use Rattle.reg_cli_line.specs.declared.exit.Exit.{Exit}
use Rattle.reg_cli_run.specs.Exits.{EndsWith}
use Rattle.reg_cli_run.specs.declared.tokens.TokenMade.{TokenMade}

-- a token of a text that is known here: its digest is the text's SHA-256 (FIPS 180-4)
pub record IsTokenOf (text : Text) (made : TokenMade) : Type 0 where
  pub digest : made.digest ≡ sha256 text
  pub text_is : made.text ≡ Some text

-- the text is the digits of 32 bytes
pub record IsRandom (made : TokenMade) : Type 0 where
  pub bytes : List ℕ
  pub count : length bytes ≡ 32
  pub token : IsTokenOf (encode_lower bytes) made

-- The token of a source: the digest that was told, or that of a text of random bytes, unless the
-- file cannot be read.
abbrev pub Makes : Source → Result TokenMade Exit → Type 0
Makes (Told digest) (Ok made) = (made.digest ≡ digest) × (made.text ≡ None)
Makes (Told digest) (Err fault) = ⊥
Makes (Random file) (Ok made) = IsRandom made
Makes (Random file) (Err fault) = EndsWith 3 (codes "storage") fault
