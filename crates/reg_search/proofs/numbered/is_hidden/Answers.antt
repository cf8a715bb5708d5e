use Rattle.std.proofs.Common.{◌∙◌}
use Rattle.reg_search.proofs.Lookup.{looked_up}
use Rattle.reg_search.proofs.numbered.is_hidden.Goals as goal

pub returns : goal.returns
returns c = c.is_ok.ensures.value ∙ looked_up c.args.id c.args.hidden.now c.binary_search.result c.requires c.binary_search.ensures.bound c.binary_search.ensures.position
