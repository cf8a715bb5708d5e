use Rattle.std.proofs.Common.{◌≡◌, map}
use Rattle.serde_json.specs.View.{members_view}
use Rattle.reg_manifest.specs.Fields.{lists_onto}
use Rattle.reg_manifest.specs.Manifests.{feature_view}
use Rattle.reg_manifest.proofs.fields.lists_onto.Given as goal

abbrev pub invariant-loop-key : goal.invariant-loop-key
invariant-loop-key l =
    (goal.iterator-loop-key).can_next l.key-iterator × (goal.iterator-loop-key).is_finite l.key-iterator
    × (lists_onto (members_view l.key-iterator) (map feature_view l.lists.entries) ≡ lists_onto (members_view l.object.entries) (map feature_view l.initial.lists.entries))
