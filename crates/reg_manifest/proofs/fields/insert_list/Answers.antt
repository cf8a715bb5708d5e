use Rattle.std.proofs.Common.{ap, ◌∙◌, map}
use Rattle.reg_manifest.specs.Manifests.{feature_view}
use Rattle.reg_manifest.proofs.Ascending.{view-insert_entry}
use Rattle.reg_manifest.proofs.fields.insert_list.Goals as goal

pub returns-clause-put_in : goal.returns-clause-put_in
returns-clause-put_in c = ap (map feature_view) c.in_ok-insert.ensures.entries ∙ view-insert_entry c.args.lists.now.entries c.args.key c.args.values
