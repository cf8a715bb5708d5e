use Rattle.std.proofs.Common.{◌≡◌, ap, ◌∙◌}
use Rattle.std.proofs.lemmas.Result.{IfOk-weaker}
use Rattle.serde_json.specs.View.{view}
use Rattle.serde_json.specs.Written.{has_float, compact_text}
use Rattle.reg_api_replies.specs.Bodies.{found_body, found_data}
use Rattle.reg_api_replies.specs.Entries.{found_of}
use Rattle.reg_api_replies.proofs.EntryFacts.{found-no_float}
use Rattle.reg_api_replies.proofs.found.FoundBody.finish.Goals as goal

pub returns : goal.returns
unfolding found_body
returns c =
    let found = found_of c.args.total c.args.self in
    let told : view c.in_ok-found_value.field-0 ≡ found_data found = c.in_ok-found_value.ensures ∙ ap (λ hits. found_data (found_of c.args.total hits)) c.self.view_is in
    IfOk-weaker c.to_vec.result _ _
    (λ v h. h (ap has_float told ∙ found-no_float found) ∙ ap compact_text told)
    c.to_vec.ensures.text
