use Rattle.reg_line.proofs.Words.{◌≡◌, [], ap, ◌∙◌, length, view-Object, manifest_view, feature_members, newer}
use Rattle.std.proofs.lemmas.Bool.{both_ways}
use Rattle.reg_line.proofs.WhichLine.{is_long, is_short, no_entries}
use Rattle.reg_line.proofs.lines.line_value.Goals as goal

pub returns-then-is_empty-clause-value : goal.returns-then-is_empty-clause-value
returns-then-is_empty-clause-value c =
    view-Object c.in_ok-line.line
    ∙ is_short (manifest_view c.args.manifest.now) c.args.digest.now c.as_str.result.now c.args.yanked _ _ c.in_ok-older.newer.entries (c.as_str.ensures.value ∙ c.in_ok-cksum.ensures) c.in_ok-older.ensures.older c.in_ok-older.ensures.newer (c.is_empty.ensures.0 c.if-is_empty.true) c.in_ok-line.ensures

pub returns-clause-value : goal.returns-clause-value
returns-clause-value c =
    let m = manifest_view c.args.manifest.now in
    let some = λ (e : newer m.features ≡ []).
    let empty = no_entries c.in_ok-older.newer.entries (c.in_ok-older.ensures.newer ∙ ap feature_members e) in
    both_ways c.is_empty.result c.if-is_empty.false (c.is_empty.ensures.1 (ap length empty)) in
    view-Object c.put_newer.new.line
    ∙ is_long m c.args.digest.now c.as_str.result.now c.args.yanked _ _ _ _ (c.as_str.ensures.value ∙ c.in_ok-cksum.ensures) c.in_ok-older.ensures.older c.in_ok-older.ensures.newer some c.in_ok-line.ensures c.in_ok-put_newer.ensures
