-- What is known of a request while its body is read.
use Rattle.reg_http_read.proofs.Common.{arith, ◌≡◌, ◌≤◌, ◌<◌, ◌+◌, ◌++◌, inl, inr, refl, ap, ◌∙◌, subst, append_assoc, length, sym, [], Bool}
use Rattle.reg_http_read.proofs.Common.{Option, Some, Ok, Err, Consumes-trans, Limits, Facts, IsHeadAt, IsUnfinished, Text}
use Rattle.reg_http_read.proofs.Common.{Rule, IsRefused, is_head_only, facts_owned, Awaits, Fills, Reads, StreamFault, Memory, ReadFault}
use Rattle.reg_http_read.proofs.Common.{StoreFault, TooManyTurns, WriteFault}
use Rattle.std.specs.Io.KnownBytes.{Appends}
use Rattle.std.proofs.KnownBytes.{Appends-nil}
use Rattle.reg_model.specs.declared.rule.Rule.TheVariants as rule
use Rattle.reg_body.specs.Sent.{AppendsFront}
use Rattle.reg_http_read.specs.Begun.{interim_if, interim_of}
use Rattle.reg_http_read.specs.Taking.{HasBegun, IsCutOff, IsFound, Takes}
use Rattle.reg_http_read.specs.Turns.{Sends}
use Rattle.reg_http_read.proofs.Following.{head_some, head_within}
use Rattle.reg_http_read.proofs.FirstBytes.{told_by_first}
use Rattle.reg_http_read.specs.declared.owned.OwnedHead.{OwnedHead}
use Rattle.reg_http_read.specs.declared.taking.Awaited.{Awaited}
use Rattle.reg_http_read.specs.declared.taking.Awaited.TheVariants as awaited
use Rattle.reg_http_read.specs.declared.taking.Rest.TheVariants as remaining
use Rattle.reg_http_read.specs.declared.taking.Taken.TheVariants as taken

-- a head stays one whatever follows it
abbrev HeadsStay : Type 0
HeadsStay = (limits : Limits) (b more : Text) (f : Facts) → IsHeadAt limits b f → IsHeadAt limits (b ++ more) f

-- there is no room for the head, and nothing was written
pub no_room_kept : (limits : Limits) (bytes : Text) (f : Facts) → IsHeadAt limits bytes f → (head_only : Bool) → head_only ≡ is_head_only f
    → IsRefused limits bytes [] rule.S1 head_only
no_room_kept limits bytes f head head_only told =
    let some : 0 < length bytes = omega (arith, head_some limits bytes f head, head_within limits bytes f head) in
    inr (refl, inl (some, refl, told ∙ sym (told_by_first limits bytes f head)))

-- what was found in all that was read
pub found_awaits : (r0 r1 : Option Text) (was now : Text) (limits : Limits) (found : Awaited) → Reads r0 r1 was now (λ rest. now ≡ rest)
    → IsFound limits now (Some found) → Awaits r0 r1 was now limits (Ok found)
found_awaits r0 r1 was now limits awaited.End reads is = absurd is
found_awaits r0 r1 was now limits (awaited.Refused broken head_only) (a, c, same) is =
    (a, c, subst (λ l. IsRefused limits l [] broken head_only) same is)
found_awaits r0 r1 was now limits (awaited.Head it) (a, c, same) is =
    (a, c, (same, subst (λ l. IsHeadAt limits l (facts_owned it)) same is))

-- no head was there, and nothing was written
module _ (r0 r1 : Option Text) (was now : Text) (limits : Limits) (w : Option Text) where
  unwritten : Reads r0 r1 was now (λ rest. IsUnfinished limits rest) → HasBegun r0 r1 was now w w limits
  unwritten (a, c, short) = (a, c, ([], Appends-nil w, inl (short, refl)))

  pub head_failed : (fault : StreamFault) → Awaits r0 r1 was now limits (Err fault) → Takes r0 r1 was now w w limits (Err fault)
  head_failed ReadFault x = unwritten x
  head_failed TooManyTurns x = inl (unwritten x)
  head_failed WriteFault x = absurd x
  head_failed StoreFault x = absurd x
  head_failed Memory x = absurd x

  pub head_ended : Awaits r0 r1 was now limits (Ok awaited.End) → Takes r0 r1 was now w w limits (Ok taken.End)
  head_ended (short, end) = (unwritten short, end)

  pub head_refused : (broken : Rule) (head_only : Bool) → Awaits r0 r1 was now limits (Ok (awaited.Refused broken head_only)) → Takes r0 r1 was now w w limits (Ok (taken.Refused broken head_only))
  head_refused broken head_only (a, c, refused) = (a, c, ([], Appends-nil w, refused))

module _ (limits : Limits) (stay : HeadsStay) (it : OwnedHead) (r0 r1 : Option Text) (was mid : Text)
    (first : Reads r0 r1 was mid (λ rest. (mid ≡ rest) × IsHeadAt limits rest (facts_owned it))) where
  abbrev f : Facts
  f = facts_owned it

  -- the head stands in all that was read since
  head_on : (r2 : Option Text) (now : Text) (holds : Text → Type 0) → Reads r1 r2 mid now holds
      → Reads r0 r2 was now (λ rest. IsHeadAt limits rest f × holds rest)
  head_on r2 now holds (d, e, h) =
      let (a, c, (same, head)) = first in
      let is : mid ++ d ≡ was ++ (a ++ d) = ap (λ l. l ++ d) same ∙ append_assoc was a d in (
        a ++ d,
        Consumes-trans r0 r1 r2 a d c e,
        (subst (λ l. IsHeadAt limits l f) (append_assoc was a d) (stay limits (was ++ a) d f head), subst holds is h),
      )

  module _ (w0 w1 : Option Text) where
    -- the interim line was cut off
    pub cut_off : AppendsFront (interim_if it.interim) w0 w1 → IsCutOff r0 r1 was mid w0 w1 limits
    cut_off front = let (a, c, (same, head)) = first in (a, c, (f, head, front))

    pub ask_failed : (fault : StreamFault) → Sends (interim_if it.interim) w0 w1 {A = Unit {0}} (Err fault) → Takes r0 r1 was mid w0 w1 limits (Err fault)
    ask_failed ReadFault x = absurd x
    ask_failed Memory x = absurd x
    ask_failed StoreFault x = absurd x
    ask_failed WriteFault x = cut_off x
    ask_failed TooManyTurns x = inr (cut_off x)

-- a head stands in all that was read, and its interim line was sent
pub record Begins (limits : Limits) (it : OwnedHead) (r0 r1 : Option Text) (was mid : Text) (w0 w1 : Option Text) : Type 0 where
  pub stay : HeadsStay
  pub first : Reads r0 r1 was mid (λ rest. (mid ≡ rest) × IsHeadAt limits rest (facts_owned it))
  pub sent : Appends w0 w1 (interim_if it.interim)

-- and more was read
module _ {limits : Limits} {it : OwnedHead} {r0 r1 : Option Text} {was mid : Text} {w0 w1 : Option Text} (begins : Begins limits it r0 r1 was mid w0 w1) (r2 : Option Text) (now : Text) where
  stands : (holds : Text → Type 0) → Reads r1 r2 mid now holds → Reads r0 r2 was now (λ rest. IsHeadAt limits rest (facts_owned it) × holds rest)
  stands holds = head_on limits begins.stay it r0 r1 was mid begins.first r2 now holds

  waits : Reads r1 r2 mid now (λ rest. length rest < it.len + it.body_len) → HasBegun r0 r2 was now w0 w1 limits
  waits short =
      let (a, c, (head, lt)) = stands (λ rest. length rest < it.len + it.body_len) short in
      (a, c, (interim_of (facts_owned it), begins.sent, inr (facts_owned it, head, lt, refl)))

  pub rest_failed : (fault : StreamFault) → Fills r1 r2 mid now (it.len + it.body_len) (Err fault) → Takes r0 r2 was now w0 w1 limits (Err fault)
  rest_failed ReadFault x = waits x
  rest_failed TooManyTurns x = inl (waits x)
  rest_failed WriteFault x = absurd x
  rest_failed StoreFault x = absurd x
  rest_failed Memory x = absurd x

  pub rest_ended : Fills r1 r2 mid now (it.len + it.body_len) (Ok remaining.End) → Takes r0 r2 was now w0 w1 limits (Ok taken.End)
  rest_ended (short, end) = (waits short, end)

  pub rest_refused : (head_only : Bool) → head_only ≡ is_head_only (facts_owned it) → Fills r1 r2 mid now (it.len + it.body_len) (Ok remaining.NoMemory)
      → Takes r0 r2 was now w0 w1 limits (Ok (taken.Refused rule.S1 head_only))
  rest_refused head_only told x =
      let (a, c, (head, any)) = stands (λ rest. Unit {0}) x in (a, c, (interim_of (facts_owned it), begins.sent, inr (refl, inr (facts_owned it, head, refl, told))))

  pub rest_whole : Fills r1 r2 mid now (it.len + it.body_len) (Ok remaining.Whole) → Takes r0 r2 was now w0 w1 limits (Ok (taken.Whole it))
  rest_whole x =
      let (a, c, (head, (same, le))) = stands (λ rest. (now ≡ rest) × (it.len + it.body_len ≤ length rest)) x in
      (a, c, (same, head, le, begins.sent))
