use Rattle.std.proofs.Common.{arith, refl}
use Rattle.reg_search.proofs.HitRows.{counted_only}
use Rattle.reg_search.proofs.numbered.Hits.add.Goals as goal

pub returns-else-len-most : goal.returns-else-len-most
returns-else-len-most c needle hidden rows row are seen is =
    counted_only needle hidden c.args.most rows row c.args.self.now _ are seen (omega arith) (omega arith) refl
