use Rattle.std.proofs.Common.{rules, ◌∙◌, ap, not}
use Rattle.reg_search.proofs.HitRows.{match_seen, passed_over}
use Rattle.reg_search.proofs.numbered.Hits.look_at.Goals as goal

pub returns-in_ok-add : goal.returns-in_ok-add
returns-in_ok-add c rows are =
    let seen = match_seen c.args.needle.now c.args.hidden.now c.args.row.now c.in_ok-id.id c.is_hidden.result (search rules) c.in_ok-id.ensures c.is_hidden.ensures in
    c.in_ok-add.ensures c.args.needle.now c.args.hidden.now rows c.args.row.now are (seen ∙ ap not c.if-not-is_hidden.true) c.in_ok-id.ensures

pub returns-else-not-is_hidden : goal.returns-else-not-is_hidden
returns-else-not-is_hidden c rows are =
    let seen = match_seen c.args.needle.now c.args.hidden.now c.args.row.now c.in_ok-id.id c.is_hidden.result (search rules) c.in_ok-id.ensures c.is_hidden.ensures in
    passed_over c.args.needle.now c.args.hidden.now c.args.most rows c.args.row.now c.args.self.now are (seen ∙ ap not c.if-not-is_hidden.false)
