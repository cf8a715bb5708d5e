use Rattle.reg_line.proofs.Words.{◌≡◌, map, no_members, members_view, feature_view, newer, older}
use Rattle.reg_line.proofs.Maps.{put_all}
use Rattle.reg_line.proofs.features.feature_maps.Given as goal

abbrev pub invariant-loop-key : goal.invariant-loop-key
invariant-loop-key l =
    (goal.iterator-loop-key).can_next l.key-iterator × (goal.iterator-loop-key).is_finite l.key-iterator
    × (put_all (older (map feature_view l.key-iterator)) (members_view l.older.entries) ≡ put_all (older (map feature_view l.features.entries)) no_members)
    × (put_all (newer (map feature_view l.key-iterator)) (members_view l.newer.entries) ≡ put_all (newer (map feature_view l.features.entries)) no_members)
