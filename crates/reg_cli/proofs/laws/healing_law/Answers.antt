use Rattle.std.proofs.Common.{inl, inr}
use Rattle.reg_cli.proofs.laws.healing_law.Goals as goal

pub returns : goal.returns
returns g c found next finds same clean now limits s entry es xs t sound run =
    let left = finds clean in
    elim (run.left _ left.2) [
      | inl before ↦ inl before
      | inr it ↦ inr (it.0, it.2, same now it.0 (c.left_law.ensures left.0 _ left.2 it.0 (it.2.sound sound) it.1))
    ]
