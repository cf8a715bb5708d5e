-- Which answer a reply tells.
use Rattle.std.specs.Prelude.{◌≡◌, None}
use Rattle.reg_model.specs.Events.{Answer, Asked}
use Rattle.reg_model.specs.Events.Answer.{Denied as to_denied}
use Rattle.reg_api_replies.specs.Bodies.{body_of}
use Rattle.reg_api_replies.specs.Heads.{kind_of, refusal_of}
use Rattle.reg_api_replies.specs.declared.reply.Reply.{Reply}
use Rattle.reg_api_replies.specs.declared.reply.Reply.TheVariants.{Denied, Done, Method}

-- the reply to what is asked tells this answer; that there is no such method is no answer
abbrev pub Says : Asked → Answer → Reply → Type 0
Says asked a (Done kind body) =
    (refusal_of a ≡ None) × (kind ≡ kind_of a) × (body.items ≡ body_of asked a)
Says asked a (Denied r) = a ≡ to_denied r
Says asked a (Method m) = ⊥
