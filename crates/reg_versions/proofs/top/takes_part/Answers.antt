use Rattle.std.proofs.Common.{arith}
use Rattle.std.proofs.lemmas.Option.{slice_get-get_or}
use Rattle.reg_versions.proofs.top.takes_part.Goals as goal

pub returns-else-all : goal.returns-else-all
returns-else-all c r here =
    let read = slice_get-get_or c.args.releases.now c.args.i c.index-releases-i.result c.requires.place in
    grind (arith, read, here)
