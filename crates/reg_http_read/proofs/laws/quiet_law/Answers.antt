use Rattle.reg_http_read.proofs.Common.{ℕ, inl, inr, [], ◌∷◌, arith, ap, length, length-append, length-take-le, IsFront}
use Rattle.reg_http_read.proofs.Following.{head_some, head_within}
use Rattle.reg_http_read.proofs.laws.quiet_law.Goals as goal

-- nothing has no line
no_front : (limit n : ℕ) → ¬ (IsFront limit [] n)
no_front limit n front =
    let there = front.there in
    let ends = front.ends in
    absurd (omega (arith, length-take-le {A = ℕ} n [] there, ap length ends.1, length-append {A = ℕ} ends.0 (10 ∷ [])))

pub returns : goal.returns
returns c limits more r head_only some (inl (inl bad, none)) = no_front limits.head bad.cut.front bad.cut.line
returns c limits more r head_only some (inl (inr (inl large), none)) = let long = large.long in omega (arith, long, some)
returns c limits more r head_only some (inl (inr (inr broken), none)) = no_front limits.head broken.len broken.cut.cut.line
returns c limits more r head_only some (inr (is, inl (came, wrote, told))) = omega (arith, came)
returns c limits more r head_only some (inr (is, inr (f, head, wrote, told))) = omega (arith, head_some limits [] f head, head_within limits [] f head)
