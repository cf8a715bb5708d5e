-- One outcome of reading a publish body says all that the contract of `split` says.
use Rattle.std.proofs.Common.{◌≡◌, ◌≤◌, ◌↔◌, List, ℕ, length, Bor, Result, Ok, Err, IsErrOf, IsOkAnd, refl, subst}
use Rattle.reg_body.specs.declared.limits.Limits.{Limits}
use Rattle.reg_body.specs.declared.frame.BodyFault.{BodyFault}
use Rattle.reg_body.specs.declared.frame.BodyFault.TheVariants.{Short, Trailing, TooLong}
use Rattle.reg_body.specs.Frames.{Frame, IsCut, IsTrailed, IsWithin, IsTooLong}
use Rattle.reg_body.proofs.FrameFacts.{no_prefix, cut_no_trail, same_parts}

abbrev pub Parts : Type 0
Parts = Bor (List ℕ) × Bor (List ℕ)

abbrev pub Judges : Limits → List ℕ → Result Parts BodyFault → Type 0
Judges limits b (Ok p) = Frame b p.0.now p.1.now × IsWithin limits p.0.now p.1.now
Judges limits b (Err Short) = IsCut b
Judges limits b (Err Trailing) = IsTrailed b
Judges limits b (Err TooLong) = IsTooLong limits b

abbrev pub Verdict : Limits → List ℕ → Result Parts BodyFault → Type 0
Verdict limits b result =
    ((j a : List ℕ) → IsOkAnd result (λ p. (p.0.now ≡ j) × (p.1.now ≡ a)) ↔ (Frame b j a × IsWithin limits j a))
    × (IsErrOf result Short ↔ IsCut b)
    × (IsErrOf result Trailing ↔ IsTrailed b)
    × (IsErrOf result TooLong ↔ IsTooLong limits b)

cut_no_frame : (b j a : List ℕ) → IsCut b → Frame b j a → ⊥
cut_no_frame b j a (whole, framed, more) frame = no_prefix b whole (j, a, frame) framed more

trailed_no_frame : (b j a : List ℕ) → IsTrailed b → Frame b j a → ⊥
trailed_no_frame b j a (front, framed, more) frame = no_prefix front b framed (j, a, frame) more

within_same : (limits : Limits) (b j a k c : List ℕ) → Frame b j a → Frame b k c → IsWithin limits j a → IsWithin limits k c
within_same limits b j a k c one other within =
    let same = same_parts b j a k c one other in
    (subst (λ l. length l ≤ limits.json) same.0 within.0, subst (λ l. length l ≤ limits.archive) same.1 within.1)

frame_along : (b j a k c : List ℕ) → Frame b j a → j ≡ k → a ≡ c → Frame b k c
frame_along b j a k c frame e f = subst (λ l. Frame b l c) e (subst (Frame b j) f frame)

pub verdict : (limits : Limits) (b : List ℕ) (result : Result Parts BodyFault) → Judges limits b result → Verdict limits b result
verdict limits b (Ok p) h =
    let j = p.0.now in
    let a = p.1.now in (
      λ k c. (
        λ e. (frame_along b j a k c h.0 e.0 e.1, within_same limits b j a k c h.0 (frame_along b j a k c h.0 e.0 e.1) h.1),
        λ other. same_parts b j a k c h.0 other.0,
      ),
      (λ e. cc e, λ cut. absurd (cut_no_frame b j a cut h.0)),
      (λ e. cc e, λ trail. absurd (trailed_no_frame b j a trail h.0)),
      (λ e. cc e, λ (k, c, frame, long). absurd (long (within_same limits b j a k c h.0 frame h.1))),
    )
verdict limits b (Err Short) cut = (
  λ j a. (λ e. absurd e, λ whole. absurd (cut_no_frame b j a cut whole.0)),
  (λ e. cut, λ _. refl),
  (λ e. cc e, λ trail. absurd (cut_no_trail b cut trail)),
  (λ e. cc e, λ (j, a, frame, long). absurd (cut_no_frame b j a cut frame)),
)
verdict limits b (Err Trailing) trail = (
  λ j a. (λ e. absurd e, λ whole. absurd (trailed_no_frame b j a trail whole.0)),
  (λ e. cc e, λ cut. absurd (cut_no_trail b cut trail)),
  (λ e. trail, λ _. refl),
  (λ e. cc e, λ (j, a, frame, long). absurd (trailed_no_frame b j a trail frame)),
)
verdict limits b (Err TooLong) (j, a, frame, long) = (
  λ k c. (λ e. absurd e, λ whole. absurd (long (within_same limits b k c j a whole.0 frame whole.1))),
  (λ e. cc e, λ cut. absurd (cut_no_frame b j a cut frame)),
  (λ e. cc e, λ trail. absurd (trailed_no_frame b j a trail frame)),
  (λ e. (j, a, frame, long), λ _. refl),
)
