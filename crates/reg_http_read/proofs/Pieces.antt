-- What one read brought that kept nothing.
use Rattle.reg_http_read.proofs.Common.{◌≡◌, ◌<◌, ◌++◌, ℕ, [], length, take, refl, sym, subst, append-nil, Option, Ok, Consumes-nil, Text}
use Rattle.reg_http_read.proofs.Common.{IsPiece, Reads}
use Rattle.std.specs.Io.KnownBytes.{Consumes, IsAtEnd, Keeps}
use Rattle.std.proofs.KnownBytes.{Consumes-kept}
use Rattle.reg_http_read.specs.declared.reading.Piece.TheVariants as piece

module _ (r0 r1 : Option Text) (was : Text) where
  pub reads_kept : Keeps r0 r1 → Reads r0 r1 was was (λ rest. was ≡ rest)
  reads_kept keeps = ([], Consumes-kept r0 r0 r1 [] (Consumes-nil r0) keeps, sym (append-nil was))

  pub piece_ended : (n : ℕ) (buf : Text) → n ≡ 0 → 0 < length buf → Consumes r0 r1 (take n buf) × (n ≡ 0 → 0 < length buf → IsAtEnd r1)
      → IsPiece r0 r1 was was (Ok piece.End)
  piece_ended n buf none some (eats, ends) =
      ((take n buf, eats, subst (λ k. was ≡ was ++ take k buf) (sym none) (sym (append-nil was))), ends none some, refl)
