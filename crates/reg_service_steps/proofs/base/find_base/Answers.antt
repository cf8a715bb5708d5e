use Rattle.std.proofs.Common.{[], Ok, refl}
use Rattle.reg_tables_sql.specs.Reserved.{columns_of_text}
use Rattle.reg_access.proofs.Questions.{asks_made, asks_refused, only_asked}
use Rattle.reg_service_steps.proofs.ConfigText.{base_gives, base_is, base_told, bases}
use Rattle.reg_service_steps.proofs.base.find_base.Goals as goal

pub select_one-requires-clause-reads : goal.select_one-requires-clause-reads
select_one-requires-clause-reads g c = base_is.plain

pub returns-in-Some : goal.returns-in-Some
returns-in-Some g c =
    asks_made g.S.Store c.in_ok-base.field-0 c.in-Some.base c.args.work.now c.select_one.new.self
    (λ shown. base_told _ c.in-Some.base (rw c.in-Some.is at shown))
    (only_asked g.S.Store base_is _ [] bases base_gives c.args.work.now c.select_one.new.self columns_of_text (Ok c.in_ok-base.field-0) c.requires
    c.in_ok-base.ensures.row c.in_ok-base.ensures.same c.in_ok-base.ensures.leaves refl)

pub returns-in-None : goal.returns-in-None
returns-in-None g c =
    asks_refused g.S.Store c.in_ok-base.field-0 c.fail.result c.args.work.now c.select_one.new.self c.fail.new.self c.fail.ensures.fails
    (only_asked g.S.Store base_is _ [] bases base_gives c.args.work.now c.select_one.new.self columns_of_text (Ok c.in_ok-base.field-0) c.requires
    c.in_ok-base.ensures.row c.in_ok-base.ensures.same c.in_ok-base.ensures.leaves refl) c.fail.ensures.leaves
