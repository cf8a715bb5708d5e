use Rattle.std.proofs.Common.{lit<, rules}
use Rattle.std.specs.declared.alloc.AllocError.{AllocError}
use Rattle.std.proofs.lemmas.Iterator.Consumers.{map_from_collect}
use Rattle.std.proofs.lemmas.Iterator.Splits.{YieldsList-from_str_split}
use Rattle.reg_cli_args.proofs.orders.parts.Goals as goal

pub returns-in-Some : goal.returns-in-Some
returns-in-Some c =
    let is = map_from_collect {E = AllocError} c.collect.result c.collect.ensures.ran
    (YieldsList-from_str_split 44 c.in-Some.list.now (lit< tt) c.split.ensures.text c.split.ensures.has_more c.split.ensures.pattern) in
    search (rules, is)
