use Rattle.std.proofs.Common.{◌∙◌, sym}
use Rattle.reg_audit.proofs.Sets.{keep_first, put_first}
use Rattle.reg_audit.proofs.versions.add.Goals as goal

pub returns-in_ok-insert : goal.returns-in_ok-insert
returns-in_ok-insert c = put_first c.args.places.now c.args.id c.args.place c.insert.new.self (sym c.contains_key.ensures ∙ c.if-not-contains_key.true) c.in_ok-insert.ensures.updates.0

pub returns-else-not-contains_key : goal.returns-else-not-contains_key
returns-else-not-contains_key c = keep_first c.args.places.now c.args.id c.args.place (sym c.contains_key.ensures ∙ c.if-not-contains_key.false)
