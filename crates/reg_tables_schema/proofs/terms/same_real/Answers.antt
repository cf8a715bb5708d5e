use Rattle.std.proofs.Common.{sym, ◌∙◌}
use Rattle.std.specs.Bool.{passes}
use Rattle.reg_tables_schema.proofs.SameLemmas.{same_bits, nan_beside}
use Rattle.reg_tables_schema.proofs.terms.same_real.Goals as goal

pub returns-then-is_nan : goal.returns-then-is_nan
returns-then-is_nan c = nan_beside c.args.x c.args.y _ (sym c.is_nan.ensures.value ∙ c.if-is_nan.true) c.is_nan-then-is_nan.ensures.value

pub returns : goal.returns
returns c = same_bits c.args.x c.args.y (passes _ c.well_formed.0.1) (passes _ c.well_formed.1.0.1)
