use Rattle.std.proofs.Common.{inl, inr, refl}
use Rattle.reg_cli.proofs.administering.do_task.Goals as goal

pub returns-in-Export : goal.returns-in-Export
returns-in-Export g c = rw c.in-Export.is (refl, c.export_into.ensures.looked, λ clean s h. elim (c.export_into.ensures.exported clean s h) [ inl all ↦ inl all.0 | inr fault ↦ inr fault ])
