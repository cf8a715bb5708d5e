-- What is in the range of a pattern.
use Rattle.reg_names.proofs.Words.{◌≡◌, ◌&&◌, ◌<◌, ◌==◌, ℕ, Bool, true, false, cond, List, [], ◌∷◌, ◌++◌, drop, length, nat_lt, refl, sym}
use Rattle.reg_names.proofs.Words.{◌∙◌, ap, subst, arith, and_parts, and_from, Decides-eqb, list_all-append, bytes_eq-Decides, starts_is}
use Rattle.reg_names.proofs.Words.{codes, to_ascii_lowercase, list_all, starts_with, bytes_eq, canon, canon_byte, is_name, is_name_byte}
use Rattle.reg_names.proofs.Words.{Covers, covers, has_star, is_pattern, prefix_of}
use Rattle.std.proofs.Common.{nat_eq, append-nil}
use Rattle.std.specs.Ordering.{is_le, is_lt, nat_cmp, ordering_then}
use Rattle.std.specs.declared.cmp.Ordering.{Ordering}
use Rattle.reg_names.specs.Ranges.{Range, byte_order, is_within, range_of, range_to}
use Rattle.reg_names.proofs.PatternFacts.{covers-Decides}

-- the range from a text to that text followed by one character
abbrev to_end : List ℕ → ℕ → Range
to_end low end = record { low = low; high = low ++ end ∷ [] }

-- a text comes before one character
abbrev ends_before : List ℕ → ℕ → Bool
ends_before w end = is_lt (byte_order w (end ∷ []))

same_head : (x y : ℕ) (a b : Ordering) → (is_le (ordering_then (nat_cmp x y) a) && is_lt (ordering_then (nat_cmp y x) b)) ≡ true → x ≡ y
same_head x y a b h = grind arith

same_tail : (x : ℕ) (a b : Ordering) → (is_le (ordering_then (nat_cmp x x) a) && is_lt (ordering_then (nat_cmp x x) b)) ≡ (is_le a && is_lt b)
same_tail x a b = grind arith

-- a text of the range goes on from low, with what comes before the end
front : (low t : List ℕ) (end : ℕ) → is_within (to_end low end) t ≡ true → (w : List ℕ) × (t ≡ low ++ w) × (ends_before w end ≡ true)
front [] t end h = (t, refl, (and_parts _ _ h).1)
front (x ∷ low) [] end h = absurd (cc h)
front (x ∷ low) (y ∷ t) end h =
    let e : x ≡ y = same_head x y (byte_order low t) (byte_order t (low ++ end ∷ [])) h in
    let P : ℕ → Type 0 = λ z. is_within (to_end (x ∷ low) end) (z ∷ t) ≡ true in
    let (w, f, g) = front low t end (sym (same_tail x (byte_order low t) (byte_order t (low ++ end ∷ []))) ∙ subst P (sym e) h) in
    (w, λ i. sym e i ∷ f i, g)

back : (low w : List ℕ) (end : ℕ) → ends_before w end ≡ true → is_within (to_end low end) (low ++ w) ≡ true
back [] w end h = and_from _ _ (low_first w) h
  where
    low_first : (w : List ℕ) → is_le (byte_order [] w) ≡ true
    low_first [] = refl
    low_first (x ∷ w) = refl
back (x ∷ low) w end h = same_tail x (byte_order low (low ++ w)) (byte_order (low ++ w) (low ++ end ∷ [])) ∙ back low w end h

-- a character between `!` and `{`
abbrev is_inner : ℕ → Bool
is_inner b = nat_lt 33 b && nat_lt b 123

above_mark : (b : ℕ) → is_name_byte b ≡ true → 33 < b
above_mark b e = grind arith

below_brace : (b : ℕ) → is_name_byte b ≡ true → b < 123
below_brace b e = grind arith

inner_lower : (b : ℕ) → 33 < b → b < 123 → is_inner (to_ascii_lowercase b) ≡ true
inner_lower b l h = grind arith

inner_byte : (b : ℕ) → is_name_byte b ≡ true → is_inner (canon_byte b) ≡ true
inner_byte b e = by (b == 45)
  where
    by : (d : Bool) → is_inner (cond d 95 (to_ascii_lowercase b)) ≡ true
    by true = refl
    by false = inner_lower b (above_mark b e) (below_brace b e)

all_inner : (n : List ℕ) → list_all is_name_byte n ≡ true → list_all is_inner (canon n) ≡ true
all_inner [] e = refl
all_inner (b ∷ n) e = and_from _ _ (inner_byte b (and_parts _ _ e).0) (all_inner n (and_parts _ _ e).1)

inner : (n : List ℕ) → is_name n ≡ true → list_all is_inner (canon n) ≡ true
inner n ok = all_inner n (and_parts _ _ (and_parts _ _ ok).1).1

-- what goes on with inner characters comes before `{`, and not before `!`
before_brace : (w : List ℕ) → list_all is_inner w ≡ true → ends_before w 123 ≡ true
before_brace [] e = refl
before_brace (b ∷ w) e = below b (byte_order w []) (and_parts (is_inner b) _ e).0
  where
    below : (b : ℕ) (o : Ordering) → is_inner b ≡ true → is_lt (ordering_then (nat_cmp b 123) o) ≡ true
    below b o e = grind arith

past_mark : (w : List ℕ) → list_all is_inner w ≡ true → ends_before w 33 ≡ true → w ≡ []
past_mark [] e h = refl
past_mark (b ∷ w) e h = absurd (above b (byte_order w []) (and_parts (is_inner b) _ e).0 h)
  where
    above : (b : ℕ) (o : Ordering) → is_inner b ≡ true → is_lt (ordering_then (nat_cmp b 33) o) ≡ true → ⊥
    above b o e h = grind arith

inner_rest : (low w n : List ℕ) → is_name n ≡ true → canon n ≡ low ++ w → list_all is_inner w ≡ true
inner_rest low w n ok e = (and_parts _ _ (sym (list_all-append is_inner low w) ∙ ap (list_all is_inner) (sym e) ∙ inner n ok)).1

-- a prefix's range has what begins with the prefix
prefix_there : (r n : List ℕ) → is_name n ≡ true → (is_within (range_to r (codes "{")) (canon n) ≡ true → starts_with nat_eq (canon n) (canon r) ≡ true) × (starts_with nat_eq (canon n) (canon r) ≡ true → is_within (range_to r (codes "{")) (canon n) ≡ true)
prefix_there r n ok =
    let s = starts_is Decides-eqb (canon n) (canon r) (starts_with nat_eq (canon n) (canon r)) refl in (
      λ h. let (w, e, g) = front (canon r) (canon n) 123 h in s.1 w e,
      λ h. let w : List ℕ = drop (length (canon r)) (canon n) in
          let e : canon n ≡ canon r ++ w = s.0 h in
          let P : List ℕ → Type 0 = λ t. is_within (range_to r (codes "{")) t ≡ true in
          subst P (sym e) (back (canon r) w 123 (before_brace w (inner_rest (canon r) w n ok e))),
    )

-- a name's range has the name's canonical text alone
name_there : (p n : List ℕ) → is_name n ≡ true → (is_within (range_to p (codes "!")) (canon n) ≡ true → bytes_eq (canon n) (canon p) ≡ true) × (bytes_eq (canon n) (canon p) ≡ true → is_within (range_to p (codes "!")) (canon n) ≡ true)
name_there p n ok = (
  λ h. let (w, e, g) = front (canon p) (canon n) 33 h in
      let none : w ≡ [] = past_mark w (inner_rest (canon p) w n ok e) g in
      (bytes_eq-Decides (canon n) (canon p)).1 (e ∙ ap (λ l. canon p ++ l) none ∙ append-nil (canon p)),
  λ h. let P : List ℕ → Type 0 = λ t. is_within (range_to p (codes "!")) t ≡ true in
      subst P (append-nil (canon p) ∙ sym ((bytes_eq-Decides (canon n) (canon p)).0 h)) (back (canon p) [] 33 refl),
)

-- the range is the test of the pattern
within-covers : (p n : List ℕ) → is_name n ≡ true → (is_within (range_of p) (canon n) ≡ true → covers p n ≡ true) × (covers p n ≡ true → is_within (range_of p) (canon n) ≡ true)
within-covers p n ok = by (has_star p)
  where
    by : (b : Bool) → (is_within (cond b (range_to (prefix_of p) (codes "{")) (range_to p (codes "!"))) (canon n) ≡ true → cond b (starts_with nat_eq (canon n) (canon (prefix_of p))) (bytes_eq (canon n) (canon p)) ≡ true)
        × (cond b (starts_with nat_eq (canon n) (canon (prefix_of p))) (bytes_eq (canon n) (canon p)) ≡ true → is_within (cond b (range_to (prefix_of p) (codes "{")) (range_to p (codes "!"))) (canon n) ≡ true)
    by true = prefix_there (prefix_of p) n ok
    by false = name_there p n ok

-- and so its meaning
pub within-Covers : (p n : List ℕ) → is_pattern p ≡ true → is_name n ≡ true → (is_within (range_of p) (canon n) ≡ true → Covers p n) × (Covers p n → is_within (range_of p) (canon n) ≡ true)
within-Covers p n pattern ok =
    let t = within-covers p n ok in
    let d = covers-Decides p n pattern in
    (λ h. d.0 (t.0 h), λ h. t.1 (d.1 h))
