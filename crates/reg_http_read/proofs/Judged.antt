-- What a head is judged by its parts.
use Rattle.reg_http_read.proofs.Common.{◌≡◌, ℕ, min, ◌-◌, ◌<◌, ◌≤◌, ◌^◌, Bool, true, false, List, length, drop, map, Option, inr, Some}
use Rattle.reg_http_read.proofs.Common.{Result, Ok, Err, refl, sym, ap, ◌∙◌, subst, arith, nat_tests, ReadsRequest, RequestHead}
use Rattle.reg_http_read.proofs.Common.{header_parts, Limits, Rule, H4, H5, Facts, greatest_body, IsAsked, IsJudgement, facts_of, Head}
use Rattle.reg_http_read.proofs.Common.{HeadRead}
use Rattle.std.proofs.Common.{cond, ltb, codes, option_copied, Bor, None, option_map}
use Rattle.httparse.specs.Grammar.{print_request}
use Rattle.httparse.specs.Borrowed.{HoldsRequest}
use Rattle.httparse.specs.Spans.{name_and_value}
use Rattle.httparse.specs.declared.borrowed.Request.{Request}
use Rattle.reg_model.specs.declared.rule.Rule.TheVariants.{H1, H2, H3}
use Rattle.reg_http_read.specs.Fields as spec
use Rattle.reg_http_read.specs.Heads.{answers_head, facts_from, judge_head, judge_parts, with_asked}
use Rattle.reg_http_read.specs.Reads.{HasAsked, IsAnswer}
use Rattle.reg_http_read.specs.declared.asked.FieldsAsked.{FieldsAsked}
use Rattle.reg_http_read.specs.declared.head.HeadRead.TheVariants as read

not_less : (a b : ℕ) → b ≤ a → ltb a b ≡ false
not_less a b le = grind (arith, nat_tests)

less : (a b : ℕ) → a < b → ltb a b ≡ true
less a b lt = grind (arith, nat_tests)

-- a number that is at most the greatest was not cut off
pub length_judged : (most greatest minor : ℕ) (fields : List spec.Field) (it : FieldsAsked) (n : ℕ) (o : Option ℕ)
    → greatest < 2 ^ 64 - 1 → Some n ≡ option_map (λ k. min k (2 ^ 64 - 1)) o → n ≤ greatest
    → HasAsked it (spec.asked_for minor fields n)
    → IsAsked (Ok it) (spec.with_length most greatest minor fields o)
length_judged most greatest minor fields it n None small is le has = absurd cc
length_judged most greatest minor fields it n (Some m) small is le has =
    let cut : n ≡ min m (2 ^ 64 - 1) = cc in
    let same : n ≡ m = omega arith in
    subst (λ k. IsAsked (Ok it) (spec.with_length most greatest minor fields (Some k))) same
    (rw (not_less greatest n le) has)

-- the rules before the length are kept
pub past_counts : (most greatest minor : ℕ) (fields : List spec.Field) → length fields ≤ most
    → spec.hosts_fit minor (spec.count_named (codes "host") fields) ≡ true
    → spec.count_named (codes "transfer-encoding") fields ≤ 0
    → spec.judge_fields most greatest minor fields ≡ spec.with_length most greatest minor fields (spec.body_length fields)
past_counts most greatest minor fields few hosts none = rw (not_less most (length fields) few, hosts, not_less 0 _ none) refl

-- a rule that is broken
module _ (most greatest minor : ℕ) (fields : List spec.Field) where
  pub many_judged : most < length fields → IsAsked (Err H2) (spec.judge_fields most greatest minor fields)
  many_judged many = rw (less most (length fields) many) refl

  pub hosts_judged : length fields ≤ most → spec.hosts_fit minor (spec.count_named (codes "host") fields) ≡ false
      → IsAsked (Err H1) (spec.judge_fields most greatest minor fields)
  hosts_judged few hosts = rw (not_less most (length fields) few, hosts) refl

  pub coding_judged : length fields ≤ most → spec.hosts_fit minor (spec.count_named (codes "host") fields) ≡ true
      → 0 < spec.count_named (codes "transfer-encoding") fields → IsAsked (Err H3) (spec.judge_fields most greatest minor fields)
  coding_judged few hosts some = rw (not_less most (length fields) few, hosts, less 0 _ some) refl

  pub no_length_judged : (o : Option ℕ) → None ≡ option_map (λ k. min k (2 ^ 64 - 1)) o → IsAsked (Err H4) (spec.with_length most greatest minor fields o)
  no_length_judged None is = refl
  no_length_judged (Some m) is = absurd cc

  pub large_judged : (n : ℕ) (o : Option ℕ) → Some n ≡ option_map (λ k. min k (2 ^ 64 - 1)) o → greatest < n
      → IsAsked (Err H5) (spec.with_length most greatest minor fields o)
  large_judged n None is large = absurd cc
  large_judged n (Some m) is large =
      let cut : n ≡ min m (2 ^ 64 - 1) = cc in rw (less greatest m (omega arith)) refl

module _ (asked : spec.FieldsAsked) where
  past_rule : (b : Bool) (r : Rule) (x : Result spec.FieldsAsked Rule) → cond b (Err r) x ≡ Ok asked → x ≡ Ok asked
  past_rule true r x is = absurd cc
  past_rule false r x is = is

  module _ (most greatest minor : ℕ) (fields : List spec.Field) where
    length_within : (o : Option ℕ) → spec.with_length most greatest minor fields o ≡ Ok asked → asked.body_len ≤ greatest
    length_within None is = absurd cc
    length_within (Some n) is = by_test (ltb greatest n) refl is
      where
        by_test : (b : Bool) → ltb greatest n ≡ b → cond b (Err H5) (Ok (spec.asked_for minor fields n)) ≡ Ok asked → asked.body_len ≤ greatest
        by_test true is e = absurd cc
        by_test false is e =
            let same : spec.asked_for minor fields n ≡ asked = cc in
            let len : n ≡ asked.body_len = ap (λ a. a.body_len) same in
            grind (arith, nat_tests)

    body_within : spec.judge_fields most greatest minor fields ≡ Ok asked → asked.body_len ≤ greatest
    body_within is =
        length_within (spec.body_length fields)
        (past_rule _ H3 _ (past_rule _ H1 _ (past_rule _ H2 _ is)))

module _ (method target : List ℕ) (n : ℕ) (f : Facts) where
  with_asked_is : (x : Result spec.FieldsAsked Rule) → with_asked method target n x ≡ Ok f
      → (f.len ≡ n) × ((a : spec.FieldsAsked) × (x ≡ Ok a) × (f.body_len ≡ a.body_len)) × (f.method ≡ method)
  with_asked_is (Ok a) is =
      let same : facts_from method target n a ≡ f = cc in
      (sym (ap (λ g. g.len) same), (a, refl, sym (ap (λ g. g.body_len) same)), sym (ap (λ g. g.method) same))
  with_asked_is (Err r) is = absurd cc

module _ (limits : Limits) (h : RequestHead) (f : Facts) (is : judge_head limits h ≡ Ok f) where
  -- the facts have the length of the head
  pub judged_len : f.len ≡ length (print_request h)
  unfolding judge_head
  judged_len = (with_asked_is h.method h.target _ f _ is).0

  pub judged_method : f.method ≡ h.method
  unfolding judge_head
  judged_method = (with_asked_is h.method h.target _ f _ is).2

  -- the body is at most the greatest
  pub judged_body : f.body_len ≤ greatest_body limits
  unfolding judge_head
  judged_body =
      let asked = (with_asked_is h.method h.target _ f _ is).1 in
      rw asked.2 (body_within asked.0 limits.fields _ h.minor (map name_and_value h.fields) asked.1)

-- ---- answers

pub refused_by : (x : Result Facts Rule) (rule : Rule) (head_only : Bool) (method : List ℕ)
    → IsAnswer (read.Refused rule head_only) method x → (x ≡ Err rule) × (head_only ≡ answers_head rule method)
refused_by (Ok f) rule head_only method a = absurd a
refused_by (Err r) rule head_only method a = (ap Err (sym a.0), a.1 ∙ ap (λ q. answers_head q method) (sym a.0))

pub told_by : (x : Result Facts Rule) (it : Head) (method : List ℕ) → IsAnswer (read.Head it) method x → x ≡ Ok (facts_of it)
told_by (Ok f) it method a = ap Ok (sym a)
told_by (Err r) it method a = absurd a

-- the parts are those of the head
pub answer_of_parts : (limits : Limits) (h : RequestHead) (it : HeadRead) (m t : List ℕ) (minor n : ℕ) (fields : List spec.Field)
    → m ≡ h.method → t ≡ h.target → minor ≡ h.minor → n ≡ length (print_request h) → fields ≡ map name_and_value h.fields
    → IsAnswer it m (judge_parts limits m t minor n fields) → IsAnswer it h.method (judge_head limits h)
unfolding judge_head
answer_of_parts limits h it m t minor n fields em et ei en ef a = rw (em, et, ei, en, ef) at a

pub refused_parts : (method target : List ℕ) (n : ℕ) (x : Result spec.FieldsAsked Rule) (rule : Rule) (head_only : Bool)
    → IsAsked (Err rule) x → head_only ≡ answers_head rule method
    → IsAnswer (read.Refused rule head_only) method (with_asked method target n x)
refused_parts method target n (Ok a) rule head_only asked told = absurd asked
refused_parts method target n (Err r) rule head_only asked told = (asked, told ∙ ap (λ q. answers_head q method) asked)

-- a head at the front, and the answer to it
pub judgement_from : (limits : Limits) (front : List ℕ) (h : RequestHead) (n : ℕ) (it : HeadRead)
    → ReadsRequest front h (drop n front) → n ≡ length (print_request h) → IsAnswer it h.method (judge_head limits h)
    → IsJudgement limits front it
judgement_from limits front h n read.More reads len a = absurd a
judgement_from limits front h n (read.Head it) reads len a = record { head = h; reads = rw len at reads; answer = a }
judgement_from limits front h n (read.Refused rule head_only) reads len a =
    inr (record { head = h; reads = rw len at reads; answer = a })

copied_is : (o : Option (Bor (List ℕ))) (r : Bor (List ℕ)) (t : List ℕ) → o ≡ Some r → option_copied o ≡ Some t → r.now ≡ t
copied_is o r t is copied = let same = rw is at copied in cc

-- the parts of a request that was parsed, and the answer to them
pub judgement_of_request : (limits : Limits) (front : List ℕ) (n : ℕ) (r : Request) (h : RequestHead)
    (m t : Bor (List ℕ)) (minor : ℕ) (it : HeadRead) → HoldsRequest front n r h
    → r.method ≡ Some m → r.path ≡ Some t → r.version ≡ Some minor
    → IsAnswer it m.now (judge_parts limits m.now t.now minor n (map header_parts r.headers.now))
    → IsJudgement limits front it
judgement_of_request limits front n r h m t minor it holds em et ev answer =
    let version = holds.version in
    let v : minor ≡ h.minor = cc in
    judgement_from limits front h n it holds.reads holds.len_is
    (answer_of_parts limits h it _ _ minor n (map header_parts r.headers.now) (copied_is _ m h.method em holds.method)
    (copied_is _ t h.target et holds.path) v holds.len_is holds.fields answer)
