-- What `read_head` answers.
use Rattle.std.specs.Prelude.{◌≡◌, Bool, false, length, drop, Result, Ok, Err, option_copied, ◌⊎◌}
use Rattle.httparse.specs.Grammar.{RequestHead, ReadsRequest, HasNoRequest, NeverHasRequest, MayBecomeRequest, print_request}
use Rattle.reg_body.specs.declared.limits.Limits.{Limits}
use Rattle.reg_model.specs.Registry.{Text}
use Rattle.reg_model.specs.declared.rule.Rule.{Rule}
use Rattle.reg_model.specs.declared.rule.Rule.TheVariants.{H1}
use Rattle.reg_http_read.specs.Fields as spec
use Rattle.reg_http_read.specs.Heads.{Facts, IsHeadAt, IsRefusedAt, IsUnfinished, answers_head, judge_head}
use Rattle.reg_http_read.specs.declared.asked.FieldsAsked.{FieldsAsked}
use Rattle.reg_http_read.specs.declared.head.Head.{Head}
use Rattle.reg_http_read.specs.declared.head.HeadRead.{HeadRead}
use Rattle.reg_http_read.specs.declared.head.HeadRead.TheVariants as read

abbrev pub facts_of : Head → Facts
facts_of it = record {
  method = it.method.now;
  target = it.target.now;
  token = option_copied it.token;
  len = it.len;
  body_len = it.body_len;
  interim = it.interim;
  close = it.close;
}

-- the bytes begin with this head, are refused, or are too few to tell
abbrev pub IsRead : Limits → Text → HeadRead → Type 0
IsRead limits bytes read.More = IsUnfinished limits bytes
IsRead limits bytes (read.Head it) = IsHeadAt limits bytes (facts_of it)
IsRead limits bytes (read.Refused rule head_only) = IsRefusedAt limits bytes rule head_only

-- the front is no head, and nothing continues it to one
pub record IsBadFront (front : Text) (rule : Rule) (head_only : Bool) : Type 0 where
  pub never : NeverHasRequest front
  pub rule_is : rule ≡ H1
  pub told : head_only ≡ false

-- what a whole head, whose method is given, is answered
abbrev pub IsAnswer : HeadRead → Text → Result Facts Rule → Type 0
IsAnswer read.More method facts = ⊥
IsAnswer (read.Head it) method (Ok facts) = facts_of it ≡ facts
IsAnswer (read.Head it) method (Err r) = ⊥
IsAnswer (read.Refused rule head_only) method (Ok facts) = ⊥
IsAnswer (read.Refused rule head_only) method (Err r) =
    (rule ≡ r) × (head_only ≡ answers_head r method)

-- the front begins with a head, and that is the answer to it
pub record IsWhole (limits : Limits) (front : Text) (it : HeadRead) : Type 0 where
  pub head : RequestHead
  pub reads : ReadsRequest front head (drop (length (print_request head)) front)
  pub answer : IsAnswer it head.method (judge_head limits head)

-- what one parse of the front tells
abbrev pub IsJudgement : Limits → Text → HeadRead → Type 0
IsJudgement limits front read.More = HasNoRequest front × MayBecomeRequest front
IsJudgement limits front (read.Head it) = IsWhole limits front (read.Head it)
IsJudgement limits front (read.Refused rule head_only) =
    IsBadFront front rule head_only ⊎ IsWhole limits front (read.Refused rule head_only)

-- the same values
pub record HasAsked (it : FieldsAsked) (asked : spec.FieldsAsked) : Type 0 where
  pub token : option_copied it.token ≡ asked.token
  pub body_len : it.body_len ≡ asked.body_len
  pub interim : it.interim ≡ asked.interim
  pub close : it.close ≡ asked.close

abbrev pub IsAsked : Result FieldsAsked Rule → Result spec.FieldsAsked Rule → Type 0
IsAsked (Ok it) (Ok asked) = HasAsked it asked
IsAsked (Ok it) (Err e) = ⊥
IsAsked (Err e) (Ok asked) = ⊥
IsAsked (Err e) (Err f) = e ≡ f
