use Rattle.std.proofs.Common.{◌∙◌, sym}
use Rattle.std.proofs.lemmas.Bool.{and_parts}
use Rattle.reg_cli.proofs.Healing.{finds_left}
use Rattle.reg_cli.proofs.store.open_again.Goals as goal

pub open_files_with-requires-clause-log : goal.open_files_with-requires-clause-log
open_files_with-requires-clause-log g c = (and_parts _ _ (sym c.may_be_used.ensures ∙ c.if-not-may_be_used.false)).0

pub open_files_with-requires-clause-db : goal.open_files_with-requires-clause-db
open_files_with-requires-clause-db g c = (and_parts _ _ (sym c.may_be_used.ensures ∙ c.if-not-may_be_used.false)).1

pub returns-in-Ok-clause-found : goal.returns-in-Ok-clause-found
returns-in-Ok-clause-found g c =
    finds_left c.args.conn c.into_store.result c.close-files.result c.in-Ok.conn g.met.D.Disk.seen_may_stay
    c.into_store.ensures.numbered c.into_store.ensures.sound c.into_store.ensures.quiet c.close-files.ensures c.in-Ok.ensures.opened c.in-Ok.ensures.found
