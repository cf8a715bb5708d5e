-- The head at the front of a stream, and why there is none.
use Rattle.std.specs.Prelude.{◌≡◌, ℕ, ◌+◌, ◌<◌, ◌≤◌, ◌⊎◌, Bool, false, List, codes, length, map, Option, Result, Ok, Err}
use Rattle.std.specs.Str.{bytes_eq}
use Rattle.httparse.specs.Grammar.{RequestHead, print_request}
use Rattle.httparse.specs.Spans.{name_and_value}
use Rattle.reg_body.specs.declared.limits.Limits.{Limits}
use Rattle.reg_model.specs.Registry.{Text}
use Rattle.reg_model.specs.declared.rule.Rule.{Rule}
use Rattle.reg_model.specs.declared.rule.Rule.TheVariants.{H1, H2}
use Rattle.reg_http_read.specs.Fields.{FieldsAsked, Field, judge_fields}
use Rattle.reg_http_read.specs.Fronts.{IsBadCut, IsHeadCut, IsUnjudged}

-- what a head tells: how many bytes it and its body have, whether the interim line is waited for,
-- and whether the connection closes after the reply
pub record Facts : Type 0 where
  pub method : Text
  pub target : Text
  pub token : Option Text
  pub len : ℕ
  pub body_len : ℕ
  pub interim : Bool
  pub close : Bool

-- how many bytes the greatest body has
abbrev pub greatest_body : Limits → ℕ
greatest_body limits = 8 + (limits.json + limits.archive)

module _ (method target : Text) (len : ℕ) where
  abbrev pub facts_from : FieldsAsked → Facts
  facts_from asked = record {
    method = method;
    target = target;
    token = asked.token;
    len = len;
    body_len = asked.body_len;
    interim = asked.interim;
    close = asked.close;
  }

  abbrev pub with_asked : Result FieldsAsked Rule → Result Facts Rule
  with_asked (Ok asked) = Ok (facts_from asked)
  with_asked (Err r) = Err r

-- what a head with these fields tells, or the first rule that they break
abbrev pub judge_parts : Limits → Text → Text → ℕ → ℕ → List Field → Result Facts Rule
judge_parts limits method target minor len fields =
    with_asked method target len (judge_fields limits.fields (greatest_body limits) minor fields)

-- what the head tells, or the first rule that it breaks
unfoldable pub judge_head : Limits → RequestHead → Result Facts Rule
judge_head limits h = judge_parts limits h.method h.target h.minor (length (print_request h))
    (map name_and_value h.fields)

-- the head of the bytes tells these facts
pub record IsHeadAt (limits : Limits) (bytes : Text) (facts : Facts) : Type 0 where
  pub head : RequestHead
  pub cut : IsHeadCut limits.head bytes facts.len head
  pub judged : judge_head limits head ≡ Ok facts

-- the refusal answers a HEAD request (RFC 9110, section 9.3.2); where the head is bad or too large,
-- its method is not looked at
abbrev pub answers_head : Rule → Text → Bool
answers_head H1 method = false
answers_head H2 method = false
answers_head r method = bytes_eq method (codes "HEAD")

-- the head of the bytes breaks the rule
pub record IsBroken (limits : Limits) (bytes : Text) (rule : Rule) (head_only : Bool) : Type 0 where
  pub head : RequestHead
  pub len : ℕ
  pub cut : IsHeadCut limits.head bytes len head
  pub judged : judge_head limits head ≡ Err rule
  pub told : head_only ≡ answers_head rule head.method

-- the bytes begin with no head
pub record IsBad (limits : Limits) (bytes : Text) (rule : Rule) (head_only : Bool) : Type 0 where
  pub cut : IsBadCut limits.head bytes
  pub rule_is : rule ≡ H1
  pub told : head_only ≡ false

-- as many bytes as a head may have, and no front of them is judged
pub record IsTooLarge (limits : Limits) (bytes : Text) (rule : Rule) (head_only : Bool)
    : Type 0 where
  pub unjudged : IsUnjudged limits.head bytes
  pub long : limits.head ≤ length bytes
  pub rule_is : rule ≡ H2
  pub told : head_only ≡ false

-- the bytes are refused for the rule; head_only where that answers a HEAD request
abbrev pub IsRefusedAt : Limits → Text → Rule → Bool → Type 0
IsRefusedAt limits bytes rule head_only =
    IsBad limits bytes rule head_only
    ⊎ (IsTooLarge limits bytes rule head_only ⊎ IsBroken limits bytes rule head_only)

-- more bytes are waited for
pub record IsUnfinished (limits : Limits) (bytes : Text) : Type 0 where
  pub unjudged : IsUnjudged limits.head bytes
  pub short : length bytes < limits.head
