use Rattle.std.specs.Prelude.{codes}
use Rattle.std.specs.Fmt.{decimal}
use Rattle.std.proofs.Common.{◌≡◌, [], ◌∷◌, ◌++◌, refl, ap, sym, arith, ◌∙◌}
use Rattle.std.proofs.lemmas.Fmt.{decimal_digit}
use Rattle.reg_versions.specs.Versions.{parts_or_zero}
use Rattle.reg_versions.proofs.Grammar.{parts_grammar}
use Rattle.reg_reference_lists.proofs.tops.zero.Goals as goal

pub returns-in-Ok : goal.returns-in-Ok
returns-in-Ok c =
    let d = decimal_digit 0 (omega arith) in
    let text : decimal 0 ++ (46 ∷ (decimal 0 ++ (46 ∷ (decimal 0 ++ [])))) ≡ codes "0.0.0" = λ i. d i ++ (46 ∷ (d i ++ (46 ∷ (d i ++ [])))) in
    sym (ap parts_or_zero c.in-Ok.ensures.ok) ∙ ap parts_or_zero ((parts_grammar _ (0, 0, 0, [], [])).1 ((omega arith, omega arith, omega arith, refl, refl), text))
