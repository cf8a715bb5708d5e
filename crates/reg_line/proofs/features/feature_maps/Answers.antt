use Rattle.reg_line.proofs.Words.{◌≡◌, [], map, not, sym, ap, ◌∙◌, members_view, feature_view, is_newer, older, newer}
use Rattle.std.proofs.lemmas.Map.Iter.{rest_all}
use Rattle.std.specs.Map.Iter.{deref_pair}
use Rattle.reg_line.proofs.Maps.{put_all, put_all_ascending, ascending_filter, ascending_view}
use Rattle.reg_line.proofs.features.feature_maps.Goals as goal

pub returns-clause-older : goal.returns-clause-older
returns-clause-older c =
    let es = c.args.features.now.entries in
    let fs = map feature_view es in
    let all : c.loop-key.key-iterator ≡ [] = rest_all deref_pair _ _ _ c.in-None.is c.next.ensures.steps in
    ap (λ s. put_all (older (map feature_view s)) (members_view c.loop-key.older.entries)) (sym all) ∙ c.loop-key.invariant.2
    ∙ put_all_ascending (older fs) (ascending_filter (λ f. not (is_newer f)) fs (ascending_view es c.iter-key-items.ensures.ordered))

pub returns-clause-newer : goal.returns-clause-newer
returns-clause-newer c =
    let es = c.args.features.now.entries in
    let fs = map feature_view es in
    let all : c.loop-key.key-iterator ≡ [] = rest_all deref_pair _ _ _ c.in-None.is c.next.ensures.steps in
    ap (λ s. put_all (newer (map feature_view s)) (members_view c.loop-key.newer.entries)) (sym all) ∙ c.loop-key.invariant.3
    ∙ put_all_ascending (newer fs) (ascending_filter is_newer fs (ascending_view es c.iter-key-items.ensures.ordered))
