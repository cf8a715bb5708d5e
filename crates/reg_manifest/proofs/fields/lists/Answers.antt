use Rattle.std.proofs.Common.{map, subst, ap, ◌∙◌}
use Rattle.serde_json.specs.View.{members_view}
use Rattle.reg_manifest.specs.Parsing.{Gives}
use Rattle.reg_manifest.specs.Fields.{lists_onto}
use Rattle.reg_manifest.specs.Manifests.{feature_view}
use Rattle.reg_manifest.proofs.Ascending.{ascending_members}
use Rattle.reg_manifest.proofs.Lists.{onto_none}
use Rattle.reg_manifest.proofs.fields.lists.Goals as goal

pub returns : goal.returns
returns c =
    let ms = members_view c.args.object.now.entries in
    let same = ap (λ fs. lists_onto ms (map feature_view fs)) c.new.ensures.empty ∙ onto_none ms (ascending_members c.args.object.now.entries c.lists_onto.ensures.ordered) in
    subst (Gives (λ m. map feature_view m.entries) c.lists_onto.result) same c.lists_onto.ensures.read
