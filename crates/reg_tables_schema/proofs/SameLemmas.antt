-- When two floats are the same, and two lists.
-- Floats of one format are the same where their bits are, and there is one NaN.
use Rattle.std.proofs.Common.{◌≡◌, ◌↔◌, ◌<◌, ℕ, List, length, get_or, map, Bool, true, false, T, refl, sym, ap, ◌∙◌, IsTrue, is_nan, to_bits, nat_eq}
use Rattle.std.proofs.lemmas.List.{get_or-map}
use Rattle.std.specs.Float.{binary64}
use lib.Dec.{eqb→eq, eqb_refl}
use Rattle.std.proofs.lemmas.Float.{T_from_true}
use lib.Ieee
use lib.Ieee.{Float, nan, inf, fin}
use lib.Ieee.Bits.{of_bits-to_bits, is_true}

bits_tell : (x y : Float) → T (Ieee.fits binary64 x) → T (Ieee.fits binary64 y) → to_bits binary64 x ≡ to_bits binary64 y → x ≡ y
bits_tell x y fx fy h = sym (of_bits-to_bits binary64 x fx) ∙ ap (Ieee.of_bits binary64) h ∙ of_bits-to_bits binary64 y fy

nan_only : (x : Float) → is_nan x ≡ true → x ≡ nan
unfolding Ieee.is_nan
nan_only nan h = refl
nan_only (inf s) h = absurd (let e : false ≡ true = h in cc)
nan_only (fin s m e) h = absurd (let e : false ≡ true = h in cc)

pub nan_beside : (x y : Float) (same : Bool) → is_nan x ≡ true → same ≡ is_nan y → IsTrue same ↔ (x ≡ y)
nan_beside x y same h is = (λ yes. nan_only x h ∙ sym (nan_only y (sym is ∙ yes)), λ e. is ∙ ap is_nan (sym e) ∙ h)

pub same_bits : (x y : Float) → T (Ieee.fits binary64 x) → T (Ieee.fits binary64 y) → IsTrue (nat_eq (to_bits binary64 x) (to_bits binary64 y)) ↔ (x ≡ y)
same_bits x y fx fy = (λ h. bits_tell x y fx fy (eqb→eq _ _ (T_from_true _ h)), λ e. rw e (is_true _ (eqb_refl _)))

-- what two functions make of two lists is the same at each place
pub same_at : {X Y : Type 0} (f g : X → Y) (xs ys : List X) (i : ℕ) (d : X) → i < length xs → i < length ys → map f xs ≡ map g ys → f (get_or xs i d) ≡ g (get_or ys i d)
same_at f g xs ys i d low below e = sym (get_or-map f xs i d (f d) low) ∙ ap (λ zs. get_or zs i (f d)) e ∙ get_or-map g ys i d (f d) below
