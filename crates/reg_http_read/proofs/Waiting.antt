-- What one more read brought, behind what waits already.
use Rattle.reg_http_read.proofs.Common.{◌≡◌, ◌<◌, ◌≤◌, ℕ, inl, inr, refl, Bool, ap, length, sym, ◌∙◌, subst, Option, Ok, Err, Limits, Text}
use Rattle.reg_http_read.proofs.Common.{IsUnfinished, Awaits, Fills, IsPiece, Reads, StreamFault, Memory, ReadFault, StoreFault}
use Rattle.reg_http_read.proofs.Common.{TooManyTurns, WriteFault}
use Rattle.reg_model.specs.declared.rule.Rule.TheVariants as rule
use Rattle.reg_http_read.specs.Begun.{begins_head}
use Rattle.reg_http_read.specs.Taking.{IsLine}
use Rattle.reg_http_read.specs.declared.reading.Piece.TheVariants as piece
use Rattle.reg_http_read.specs.declared.taking.Awaited.TheVariants as awaited
use Rattle.reg_http_read.specs.declared.taking.Rest.TheVariants as remaining
use Rattle.reg_http_read.proofs.Adding.{reads_on}

-- what holds of all that waits
module _ (r0 r1 : Option Text) (was now : Text) (first : Reads r0 r1 was now (λ rest. now ≡ rest)) where
  pub fills_whole : (total : ℕ) → total ≤ length now → Fills r0 r1 was now total (Ok remaining.Whole)
  fills_whole total le = let (a, eats, same) = first in (a, eats, (same, subst (λ l. total ≤ length l) same le))

  -- there is no memory to look for a head
  pub await_unread : (limits : Limits) (head_only : Bool) → 0 < length now → head_only ≡ begins_head now
      → Awaits r0 r1 was now limits (Ok (awaited.Refused rule.S1 head_only))
  await_unread limits head_only some told =
      let (a, eats, same) = first in
      (a, eats, inr (refl, inl (subst (λ l. 0 < length l) same some, refl, told ∙ ap begins_head same)))

module _ (r0 r1 r2 : Option Text) (was mid now : Text) (first : Reads r0 r1 was mid (λ rest. mid ≡ rest)) where
  -- what holds of all that waits, where no more was kept
  stays : (holds : Text → Type 0) → holds mid → Reads r1 r2 mid now (λ rest. now ≡ rest) → now ≡ mid → Reads r0 r2 was now holds
  stays holds h (a, eats, same) is = reads_on r0 r1 r2 was mid now holds first (a, eats, subst holds (sym is ∙ same) h)

  module _ (total : ℕ) (short : length mid < total) where
    pub fills_failed : (fault : StreamFault) → IsPiece r1 r2 mid now (Err fault) → Fills r0 r2 was now total (Err fault)
    fills_failed ReadFault (more, is) = stays (λ rest. length rest < total) short more is
    fills_failed TooManyTurns (more, is) = stays (λ rest. length rest < total) short more is
    fills_failed WriteFault x = absurd x
    fills_failed StoreFault x = absurd x
    fills_failed Memory x = absurd x

    pub fills_ended : IsPiece r1 r2 mid now (Ok piece.End) → Fills r0 r2 was now total (Ok remaining.End)
    fills_ended (more, end, is) = (stays (λ rest. length rest < total) short more is, end)

  module _ (limits : Limits) where
    pub line_failed : IsUnfinished limits mid → (fault : StreamFault) → IsPiece r1 r2 mid now (Err fault) → IsLine r0 r2 was now limits (Err fault)
    line_failed begun ReadFault (more, is) = stays (λ rest. IsUnfinished limits rest) begun more is
    line_failed begun TooManyTurns (more, is) = stays (λ rest. IsUnfinished limits rest) begun more is
    line_failed begun WriteFault x = absurd x
    line_failed begun StoreFault x = absurd x
    line_failed begun Memory x = absurd x

    pub line_ended : IsUnfinished limits mid → IsPiece r1 r2 mid now (Ok piece.End) → IsLine r0 r2 was now limits (Ok piece.End)
    line_ended begun (more, end, is) = (stays (λ rest. IsUnfinished limits rest) begun more is, end)

    pub await_failed : (fault : StreamFault) → IsLine r1 r2 mid now limits (Err fault) → Awaits r0 r2 was now limits (Err fault)
    await_failed ReadFault more = reads_on r0 r1 r2 was mid now (λ rest. IsUnfinished limits rest) first more
    await_failed TooManyTurns more = reads_on r0 r1 r2 was mid now (λ rest. IsUnfinished limits rest) first more
    await_failed WriteFault x = absurd x
    await_failed StoreFault x = absurd x
    await_failed Memory x = absurd x

    pub await_ended : IsLine r1 r2 mid now limits (Ok piece.End) → Awaits r0 r2 was now limits (Ok awaited.End)
    await_ended (more, end) = (reads_on r0 r1 r2 was mid now (λ rest. IsUnfinished limits rest) first more, end)
