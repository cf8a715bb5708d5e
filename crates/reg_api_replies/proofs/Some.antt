-- No reply is empty.
use Rattle.std.proofs.Common.{◌<◌, ◌++◌, ℕ, length, arith, Bool, Option}
use Rattle.reg_model.specs.Registry.{Text}
use Rattle.reg_api_replies.specs.Heads.{head_text}
use Rattle.reg_api_replies.specs.declared.head.Kind.{Kind}
use Rattle.reg_api_replies.specs.declared.head.Methods.{Methods}
use Rattle.reg_api_replies.specs.declared.reply.Reply.{Reply}
use Rattle.reg_api_replies.specs.declared.reply.Reply.TheVariants.{Denied, Done, Method}
use Rattle.reg_api_replies.specs.Texts.{reply_text}

pub head_some : (status : ℕ) (kind : Kind) (allow : Option Methods) (n : ℕ) (close : Bool) (rest : Text) → 0 < length (head_text status kind allow n close ++ rest)
unfolding head_text
head_some status kind allow n close rest = omega arith

pub reply_some : (reply : Reply) (close head_only : Bool) → 0 < length (reply_text reply close head_only)
reply_some (Done kind body) close head_only = head_some _ _ _ _ _ _
reply_some (Denied r) close head_only = head_some _ _ _ _ _ _
reply_some (Method m) close head_only = head_some _ _ _ _ _ _
