-- What was read stays so when more bytes follow.
use Rattle.reg_http_read.proofs.Common.{◌≡◌, ℕ, ◌<◌, ◌≤◌, inl, inr, Bool, [], ◌∷◌, ◌++◌, length, take, drop, Ok, sym, ap, ◌∙◌, subst, arith}
use Rattle.reg_http_read.proofs.Common.{length-append, take-append-drop, cases_lt, take-append-le, length-take-le, RequestHead, ReadsRequest}
use Rattle.reg_http_read.proofs.Common.{NeverHasRequest, ReadsRequest-append, request_prefix_free, Limits, Text, Rule, EndsLine, IsBadCut}
use Rattle.reg_http_read.proofs.Common.{IsFront, IsHead, IsHeadCut, IsJudged, IsUnjudged, Facts, IsHeadAt, IsRefusedAt, greatest_body}
use Rattle.reg_http_read.specs.Fronts.{IsCut}
use Rattle.reg_http_read.specs.Heads.{judge_head}
use Rattle.reg_http_read.proofs.Cuts.{take_longer, take_shorter}
use Rattle.reg_http_read.proofs.Judged.{judged_body}

module _ (limit : ℕ) (b more : Text) where
  same_front : (n : ℕ) → n ≤ length b → take n (b ++ more) ≡ take n b
  same_front n le = take-append-le n b more le

  pub front_after : (n : ℕ) → IsFront limit b n → IsFront limit (b ++ more) n
  front_after n line = record {
    small = line.small;
    there = let le = line.there in omega (arith, length-append b more);
    ends = subst EndsLine (sym (same_front n line.there)) line.ends;
  }

  pub front_before : (n : ℕ) → n ≤ length b → IsFront limit (b ++ more) n → IsFront limit b n
  front_before n le line = record {
    small = line.small;
    there = le;
    ends = subst EndsLine (same_front n le) line.ends;
  }

  cut_after : (n : ℕ) → IsCut limit b n → IsCut limit (b ++ more) n
  cut_after n cut =
      let there = cut.line.there in
      record {
        line = front_after n cut.line;
        judged = subst IsJudged (sym (same_front n there)) cut.judged;
        shortest = λ m less line judged.
            let le : m ≤ length b = omega arith in
            cut.shortest m less (front_before m le line) (subst IsJudged (same_front m le) judged);
      }

  head_after : (n : ℕ) (h : RequestHead) → IsHeadCut limit b n h → IsHeadCut limit (b ++ more) n h
  head_after n h it = record {
    cut = cut_after n it.cut;
    reads = subst (λ t. ReadsRequest t h []) (sym (same_front n it.cut.line.there)) it.reads;
  }

  -- what can't be continued is no front of a head either
  no_head_after : (e n : ℕ) → IsFront limit b e → NeverHasRequest (take e b)
      → ((k : ℕ) → IsFront limit b k → IsHead (take k b) → ⊥)
      → IsFront limit (b ++ more) n → IsHead (take n (b ++ more)) → ⊥
  no_head_after e n front never none line head =
      let there = front.there in
      let fits = line.there in
      elim (cases_lt n e) as (λ _. ⊥) [
        | inl less ↦
            let le : n ≤ length b = omega arith in
            none n (front_before n le line) (subst IsHead (same_front n le) head)
        | inr ge ↦
            let whole : take n (b ++ more) ≡ take e b ++ drop e (take n (b ++ more)) =
            take_longer e n (b ++ more) ge fits ∙ ap (λ t. t ++ drop e (take n (b ++ more))) (same_front e there) in
            never (drop e (take n (b ++ more))) head.0 [] (subst (λ t. ReadsRequest t head.0 []) whole head.1)
      ]

  bad_after : IsBadCut limit b → IsBadCut limit (b ++ more)
  bad_after bad = record {
    front = bad.front;
    line = front_after bad.front bad.line;
    never = subst NeverHasRequest (sym (same_front bad.front bad.line.there)) bad.never;
    none = λ n. no_head_after bad.front n bad.line bad.never bad.none;
  }

  unjudged_after : limit ≤ length b → IsUnjudged limit b → IsUnjudged limit (b ++ more)
  unjudged_after long none n line judged =
      let small = line.small in
      let le : n ≤ length b = omega arith in
      none n (front_before n le line) (subst IsJudged (same_front n le) judged)

module _ (limits : Limits) (b more : Text) where
  pub IsHeadAt-append : (f : Facts) → IsHeadAt limits b f → IsHeadAt limits (b ++ more) f
  IsHeadAt-append f it = record { head = it.head; cut = head_after limits.head b more f.len it.head it.cut; judged = it.judged }

  pub IsRefusedAt-append : (r : Rule) (head_only : Bool) → IsRefusedAt limits b r head_only → IsRefusedAt limits (b ++ more) r head_only
  IsRefusedAt-append r head_only (inl bad) =
      inl (record { cut = bad_after limits.head b more bad.cut; rule_is = bad.rule_is; told = bad.told })
  IsRefusedAt-append r head_only (inr (inl large)) =
      let long = large.long in
      inr (inl (record {
        unjudged = unjudged_after limits.head b more large.long large.unjudged;
        long = omega (arith, length-append b more);
        rule_is = large.rule_is;
        told = large.told;
      }))
  IsRefusedAt-append r head_only (inr (inr broken)) =
      inr (inr (record {
        head = broken.head;
        len = broken.len;
        cut = head_after limits.head b more broken.len broken.head broken.cut;
        judged = broken.judged;
        told = broken.told;
      }))

pub front_reads : (limit n : ℕ) (b : Text) (h : RequestHead) → IsHeadCut limit b n h → ReadsRequest b h (drop n b)
front_reads limit n b h it =
    subst (λ t. ReadsRequest t h (drop n b)) (take-append-drop n b)
    (ReadsRequest-append (take n b) h [] (drop n b) it.reads)

-- the bytes begin with one head
pub one_head : (limits : Limits) (b more : Text) (f g : Facts) → IsHeadAt limits b f → IsHeadAt limits (b ++ more) g → f ≡ g
one_head limits b more f g x y =
    let same =
    request_prefix_free b more x.head y.head (drop f.len b) (drop g.len (b ++ more))
    (front_reads limits.head f.len b x.head x.cut) (front_reads limits.head g.len (b ++ more) y.head y.cut) in
    let heads : x.head ≡ y.head = same.0 in
    let first : judge_head limits x.head ≡ Ok f = x.judged in
    let second : judge_head limits y.head ≡ Ok g = y.judged in
    cc

module _ (limits : Limits) (b : Text) (f : Facts) (it : IsHeadAt limits b f) where
  pub head_some : 0 < f.len
  head_some =
      let ends = it.cut.cut.line.ends in
      let there = it.cut.cut.line.there in
      omega (arith, length-take-le f.len b there, ap length ends.1, length-append ends.0 (10 ∷ []))

  pub head_within : f.len ≤ length b
  head_within = it.cut.cut.line.there

  pub head_body : f.body_len ≤ greatest_body limits
  head_body = judged_body limits it.head f it.judged

  -- a head needs its own bytes alone
  pub head_alone : IsHeadAt limits (take f.len b) f
  head_alone =
      let there = it.cut.cut.line.there in
      let long = length-take-le f.len b there in
      let whole : take f.len (take f.len b) ≡ take f.len b = take_shorter f.len f.len b (omega arith) there in
      record {
        head = it.head;
        judged = it.judged;
        cut = record {
          reads = subst (λ t. ReadsRequest t it.head []) (sym whole) it.cut.reads;
          cut = record {
            line = record { small = it.cut.cut.line.small; there = omega arith; ends = subst EndsLine (sym whole) it.cut.cut.line.ends };
            judged = subst IsJudged (sym whole) it.cut.cut.judged;
            shortest = λ m less line judged.
                let le : m ≤ f.len = omega arith in
                let same : take m (take f.len b) ≡ take m b = take_shorter m f.len b le there in
                it.cut.cut.shortest m less
                (record { small = line.small; there = omega arith; ends = subst EndsLine same line.ends })
                (subst IsJudged same judged);
          };
        };
      }
