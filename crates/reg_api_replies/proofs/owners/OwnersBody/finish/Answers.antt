use Rattle.std.proofs.Common.{◌≡◌, ap, ◌∙◌}
use Rattle.std.proofs.lemmas.Result.{IfOk-weaker}
use Rattle.serde_json.specs.View.{view}
use Rattle.serde_json.specs.Written.{has_float, compact_text}
use Rattle.reg_api_replies.specs.Bodies.{owners_body, owners_data}
use Rattle.reg_api_replies.proofs.EntryFacts.{owners-no_float}
use Rattle.reg_api_replies.proofs.owners.OwnersBody.finish.Goals as goal

pub returns : goal.returns
unfolding owners_body
returns c =
    let told : view c.in_ok-owners_value.field-0 ≡ owners_data c.args.self = c.in_ok-owners_value.ensures ∙ ap owners_data c.self.view_is in
    IfOk-weaker c.to_vec.result _ _
    (λ v h. h (ap has_float told ∙ owners-no_float c.args.self) ∙ ap compact_text told)
    c.to_vec.ensures.text
