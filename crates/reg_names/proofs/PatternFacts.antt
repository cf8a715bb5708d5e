-- The test of a pattern is its meaning.
use Rattle.reg_names.proofs.Words.{◌≡◌, ◌-◌, ◌==◌, ◌||◌, ℕ, Bool, true, false, List, ◌++◌, length, take, drop, cond, inl, inr, refl, sym}
use Rattle.reg_names.proofs.Words.{◌∙◌, ap, subst, arith, drop-append_seam, length-append, length-map, list_all-append, bytes_eq-Decides}
use Rattle.reg_names.proofs.Words.{starts_is, and_parts, Decides-eqb, codes, list_all, starts_with, bytes_eq, canon, is_name, is_name_byte}
use Rattle.reg_names.proofs.Words.{Covers, covers, has_star, is_pattern, prefix_of}
use Rattle.std.proofs.Math.Seq.{take-append_seam}
use Rattle.std.proofs.lemmas.List.{take-append-drop}
use Rattle.std.specs.Prelude.{nat_eq}
use Rattle.std.specs.Bool.{Decides, IsTrue}
use Rattle.std.specs.List.{take-map}

pub alike_front : (base name : List ℕ) → bytes_eq (canon base) (canon (take (length base) name)) ≡ starts_with nat_eq (canon name) (canon base)
alike_front base name = rw (length-map, take-map)

-- one less than the length of a text with its star
short : (r : List ℕ) → length (r ++ codes "*") - 1 ≡ length r
short r = omega (arith, length-append r (codes "*"))

star_there : (r : List ℕ) → has_star (r ++ codes "*") ≡ true
star_there r = ap (λ k. bytes_eq (codes "*") (drop k (r ++ codes "*"))) (short r) ∙ ap (bytes_eq (codes "*")) (drop-append_seam r (codes "*"))

before_star : (r : List ℕ) → prefix_of (r ++ codes "*") ≡ r
before_star r = ap (λ k. take k (r ++ codes "*")) (short r) ∙ take-append_seam r (codes "*")

with_star : (p : List ℕ) → has_star p ≡ true → p ≡ prefix_of p ++ codes "*"
with_star p e = sym (take-append-drop (length p - 1) p) ∙ ap (λ l. prefix_of p ++ l) (sym ((bytes_eq-Decides (codes "*") (drop (length p - 1) p)).0 e))

-- no name has a star
no_star : (p : List ℕ) → has_star p ≡ true → is_name p ≡ true → ⊥
no_star p e n =
    let all : list_all is_name_byte (prefix_of p ++ codes "*") ≡ true = subst (λ (t : List ℕ). list_all is_name_byte t ≡ true) (with_star p e) (and_parts _ _ (and_parts _ _ n).1).1 in
    let last : list_all is_name_byte (codes "*") ≡ true = (and_parts _ _ (sym (list_all-append is_name_byte (prefix_of p) (codes "*")) ∙ all)).1 in
    cc last

starts : (p n : List ℕ) → Decides (starts_with nat_eq (canon n) (canon p)) ((w : List ℕ) × (canon n ≡ canon p ++ w))
starts p n =
    let h = starts_is Decides-eqb (canon n) (canon p) (starts_with nat_eq (canon n) (canon p)) refl in
    (λ e. (drop (length (canon p)) (canon n), h.0 e), λ (w, e). h.1 w e)

pub covers-Decides : (p n : List ℕ) → is_pattern p ≡ true → Decides (covers p n) (Covers p n)
covers-Decides p n ok = by (has_star p) refl ok
  where
    by : (b : Bool) → has_star p ≡ b → cond b (length (prefix_of p) == 0 || is_name (prefix_of p)) (is_name p) ≡ true → Decides (cond b (starts_with nat_eq (canon n) (canon (prefix_of p))) (bytes_eq (canon n) (canon p))) (Covers p n)
    by true star ok = (λ e. inr (prefix_of p, ((starts (prefix_of p) n).0 e).0, with_star p star, ((starts (prefix_of p) n).0 e).1), back)
      where
        back : Covers p n → starts_with nat_eq (canon n) (canon (prefix_of p)) ≡ true
        back (inl h) = absurd (no_star p star h.0)
        back (inr (r, w, e, f)) = (starts (prefix_of p) n).1 (w, f ∙ ap (λ t. canon t ++ w) (sym (before_star r) ∙ ap prefix_of (sym e)))
    by false plain ok = (λ e. inl (ok, (bytes_eq-Decides (canon n) (canon p)).0 e), back)
      where
        back : Covers p n → bytes_eq (canon n) (canon p) ≡ true
        back (inl h) = (bytes_eq-Decides (canon n) (canon p)).1 h.1
        back (inr (r, w, e, f)) = absurd (cc (plain, star_there r, ap has_star e))

-- an answer that is the test's is the meaning's
pub covers-says : (r : Bool) (p q n : List ℕ) → is_pattern q ≡ true → q ≡ p → r ≡ covers p n → (IsTrue r → Covers p n) × (Covers p n → IsTrue r)
covers-says r p q n ok same e =
    let d = covers-Decides p n (ap is_pattern (sym same) ∙ ok) in
    (λ t. d.0 (sym e ∙ t), λ k. e ∙ d.1 k)
