-- What is read of bytes is one thing.
use Rattle.reg_http_read.proofs.Common.{◌≡◌, ℕ, inl, inr, Bool, ◌++◌, drop, Ok, Err, sym, ap, ◌∙◌, arith, RequestHead, Limits, Text, Rule}
use Rattle.reg_http_read.proofs.Common.{IsHeadCut, Facts, IsBroken, IsHeadAt, IsRefusedAt, IsUnfinished}
use Rattle.httparse.proofs.GrammarLemmas.{request_unique}
use Rattle.reg_http_read.specs.Heads.{judge_head}
use Rattle.reg_http_read.proofs.Following.{IsHeadAt-append, IsRefusedAt-append, front_reads}

same_heads : (limit n m : ℕ) (b : Text) (h k : RequestHead) → IsHeadCut limit b n h → IsHeadCut limit b m k → h ≡ k
same_heads limit n m b h k x y =
    (request_unique b h k (drop n b) (drop m b) (front_reads limit n b h x) (front_reads limit m b k y)).0

module _ (limits : Limits) (b : Text) where
  -- a head is not refused
  not_both : (f : Facts) (r : Rule) (head_only : Bool) → IsHeadAt limits b f → IsRefusedAt limits b r head_only → ⊥
  not_both f r head_only it (inl bad) = bad.cut.none f.len it.cut.cut.line (it.head, it.cut.reads)
  not_both f r head_only it (inr (inl large)) = large.unjudged f.len it.cut.cut.line it.cut.cut.judged
  not_both f r head_only it (inr (inr broken)) =
      let same : it.head ≡ broken.head = same_heads limits.head f.len broken.len b it.head broken.head it.cut broken.cut in
      let kept : judge_head limits it.head ≡ Ok f = it.judged in
      let lost : judge_head limits broken.head ≡ Err r = broken.judged in
      cc

  same_rules : (r q : Rule) (x y : Bool) → IsBroken limits b r x → IsBroken limits b q y → (r ≡ q) × (x ≡ y)
  same_rules r q x y first second =
      let same : first.head ≡ second.head =
      same_heads limits.head first.len second.len b first.head second.head first.cut second.cut in
      let one : judge_head limits first.head ≡ Err r = first.judged in
      let two : judge_head limits second.head ≡ Err q = second.judged in
      let rule : r ≡ q = cc in
      let told = first.told in
      let other = second.told in
      let method : first.head.method ≡ second.head.method = ap (λ h. h.method) same in
      (rule, cc)

  -- there is one rule
  one_rule : (r q : Rule) (x y : Bool) → IsRefusedAt limits b r x → IsRefusedAt limits b q y → (r ≡ q) × (x ≡ y)
  one_rule r q x y (inl a) (inl c) = (a.rule_is ∙ sym c.rule_is, a.told ∙ sym c.told)
  one_rule r q x y (inl a) (inr (inl c)) = absurd (c.unjudged a.cut.front a.cut.line (inr a.cut.never))
  one_rule r q x y (inl a) (inr (inr c)) = absurd (a.cut.none c.len c.cut.cut.line (c.head, c.cut.reads))
  one_rule r q x y (inr (inl a)) (inl c) = absurd (a.unjudged c.cut.front c.cut.line (inr c.cut.never))
  one_rule r q x y (inr (inl a)) (inr (inl c)) = (a.rule_is ∙ sym c.rule_is, a.told ∙ sym c.told)
  one_rule r q x y (inr (inl a)) (inr (inr c)) = absurd (a.unjudged c.len c.cut.cut.line c.cut.cut.judged)
  one_rule r q x y (inr (inr a)) (inl c) = absurd (c.cut.none a.len a.cut.cut.line (a.head, a.cut.reads))
  one_rule r q x y (inr (inr a)) (inr (inl c)) = absurd (c.unjudged a.len a.cut.cut.line a.cut.cut.judged)
  one_rule r q x y (inr (inr a)) (inr (inr c)) = same_rules r q x y a c

  pub no_head_yet : (f : Facts) → IsUnfinished limits b → IsHeadAt limits b f → ⊥
  no_head_yet f waits it = waits.unjudged f.len it.cut.cut.line it.cut.cut.judged

  pub no_rule_yet : (r : Rule) (head_only : Bool) → IsUnfinished limits b → IsRefusedAt limits b r head_only → ⊥
  no_rule_yet r head_only waits (inl bad) = waits.unjudged bad.cut.front bad.cut.line (inr bad.cut.never)
  no_rule_yet r head_only waits (inr (inl large)) =
      let short = waits.short in
      let long = large.long in
      omega arith
  no_rule_yet r head_only waits (inr (inr broken)) =
      waits.unjudged broken.len broken.cut.cut.line broken.cut.cut.judged

module _ (limits : Limits) (b more : Text) where
  pub head_not_refused : (f : Facts) (r : Rule) (head_only : Bool) → IsHeadAt limits b f → IsRefusedAt limits (b ++ more) r head_only → ⊥
  head_not_refused f r head_only it = not_both limits (b ++ more) f r head_only (IsHeadAt-append limits b more f it)

  pub refused_no_head : (f : Facts) (r : Rule) (head_only : Bool) → IsRefusedAt limits b r head_only → IsHeadAt limits (b ++ more) f → ⊥
  refused_no_head f r head_only refused it =
      not_both limits (b ++ more) f r head_only it (IsRefusedAt-append limits b more r head_only refused)

  pub one_refusal : (r q : Rule) (x y : Bool) → IsRefusedAt limits b r x → IsRefusedAt limits (b ++ more) q y → (r ≡ q) × (x ≡ y)
  one_refusal r q x y first = one_rule limits (b ++ more) r q x y (IsRefusedAt-append limits b more r x first)
