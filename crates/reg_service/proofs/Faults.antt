-- Faults of opening and of making that are not the same.
use Rattle.reg_service.proofs.Words.{◌≡◌, ◌∙◌, ℕ, Bool, true, false, refl, sym, ap, false≢true, OpenFault, BadBase, Damaged, Storage}
use Rattle.reg_service.proofs.Words.{UnknownSchema}
use Rattle.std.proofs.Common.{eqb, not}
use Rattle.reg_tables_schema.specs.declared.make.MakeFault.TheVariants as making

abbrev kind : OpenFault → ℕ
kind BadBase = 0
kind UnknownSchema = 1
kind (Damaged check) = 2
kind Storage = 3

abbrev pub differ : OpenFault → OpenFault → Bool
differ a b = not (eqb (kind a) (kind b))

itself : (f : OpenFault) → differ f f ≡ false
itself BadBase = refl
itself UnknownSchema = refl
itself (Damaged check) = refl
itself Storage = refl

pub apart : (a b : OpenFault) → differ a b ≡ true → a ≡ b → ⊥
apart a b others is = false≢true (sym (itself b) ∙ ap (λ f. differ f b) (sym is) ∙ others)

pub not_unknown : making.Storage ≡ making.UnknownSchema → ⊥
not_unknown is = absurd cc
