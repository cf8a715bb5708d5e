-- The texts of replies: a head, and the body that it tells of.
use Rattle.std.specs.Prelude.{◌++◌, [], ℕ, length, Bool, if◌then◌else◌, Option, Some, None}
use Rattle.reg_model.specs.declared.rule.Rule.{Rule}
use Rattle.reg_model.specs.declared.rule.Rule.TheVariants.{H7}
use Rattle.reg_model.specs.Registry.{Text}
use Rattle.reg_model.specs.Events.{Answer, Asked}
use Rattle.reg_api_replies.specs.Bodies.{body_of, error_body}
use Rattle.reg_policy.specs.Words.{status_of}
use Rattle.reg_api_replies.specs.Heads.{code_of, head_text, kind_of, refusal_of}
use Rattle.reg_api_replies.specs.declared.head.Kind.{Kind}
use Rattle.reg_api_replies.specs.declared.head.Kind.TheVariants as kind
use Rattle.reg_api_replies.specs.declared.head.Methods.{Methods}
use Rattle.reg_api_replies.specs.declared.reply.Reply.{Reply}
use Rattle.reg_api_replies.specs.declared.reply.Reply.TheVariants.{Denied, Done, Method}

-- the body where it is sent
abbrev pub body_if : Bool → Text → Text
body_if head_only body = if head_only then [] else body

-- the head of what is served or done, of an index file, and of a refusal
abbrev pub done_head : Kind → ℕ → Bool → Text
done_head kind len close = head_text 200 kind None len close

abbrev pub file_head : ℕ → Bool → Text
file_head len close = done_head kind.Text len close

abbrev pub refusal_head : Rule → Option Methods → ℕ → Bool → Text
refusal_head r allow len close = head_text (status_of r) kind.Json allow len close

-- a refusal as it is sent
abbrev pub refusal_text : Rule → Option Methods → Bool → Bool → Text
refusal_text r allow close head_only =
    refusal_head r allow (length (error_body r)) close ++ body_if head_only (error_body r)

-- a reply as it is sent: where only its head is asked for, its body is left out, and its length is
-- kept
abbrev pub reply_text : Reply → Bool → Bool → Text
reply_text (Done kind body) close head_only =
    done_head kind (length body.items) close ++ body_if head_only body.items
reply_text (Denied r) close head_only = refusal_text r None close head_only
reply_text (Method m) close head_only = refusal_text H7 (Some m) close head_only

-- the answer to what is asked as it is sent
abbrev pub answer_head : Asked → Answer → Bool → Text
answer_head asked a close =
    head_text (code_of (refusal_of a)) (kind_of a) None (length (body_of asked a)) close

abbrev pub answer_text : Asked → Answer → Bool → Text
answer_text asked a close = answer_head asked a close ++ body_of asked a
