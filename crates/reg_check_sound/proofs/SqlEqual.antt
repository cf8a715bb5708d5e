-- What SQL's = and <> say of values, and a key of a plain order.
use Rattle.reg_check_sound.proofs.Words.{◌≡◌, Bool, true, false, not, ℕ, [], ◌∷◌, Less, Equal, Greater, refl, sym, ap, ap₂, ◌∙◌, ◌||◌, ◌&&◌}
use Rattle.reg_check_sound.proofs.Words.{if◌then◌else◌, is_eq, Value, Null, Row, column, value_cmp, agree, differ, plain, same_value}
use Rattle.std.proofs.Common.{Ordering}
use Rattle.std.specs.Prelude.{Some}
use Rattle.std.specs.Ordering.{is_ne}
use Rattle.sqlite.specs.Collation.TheVariants.{Binary}
use Rattle.sqlite_schema.specs.Rules.{equal}
use Rattle.sqlite_sql.specs.Ops.{binary, from_truth, is_null, is_true}
use Rattle.sqlite_value.specs.Keys.{first_key}

truth_is : (b : Bool) → is_true (from_truth (Some b)) ≡ b
truth_is true = refl
truth_is false = refl

ne_is : (o : Ordering) → is_ne o ≡ not (is_eq o)
ne_is Less = refl
ne_is Equal = refl
ne_is Greater = refl

null_or : (a b : Value) → is_null a ≡ false → is_null b ≡ false → (is_null a || is_null b) ≡ false
null_or a b na nb = ap₂ ◌||◌ na nb

-- of values that are there, they are the order's
pub equal_is : (a b : Value) → is_null a ≡ false → is_null b ≡ false → equal Binary a b ≡ same_value a b
unfolding binary
equal_is a b na nb = ap (λ n. is_true (if n then Null else from_truth (Some (is_eq (value_cmp a b))))) (null_or a b na nb) ∙ truth_is (is_eq (value_cmp a b))

pub differ_is : (a b : Value) → is_null a ≡ false → is_null b ≡ false → differ a b ≡ not (same_value a b)
unfolding binary
differ_is a b na nb = ap (λ n. is_true (if n then Null else from_truth (Some (is_ne (value_cmp a b))))) (null_or a b na nb) ∙ truth_is (is_ne (value_cmp a b)) ∙ ne_is (value_cmp a b)

-- what is equal is the same value
pub equal_same : (a b : Value) → equal Binary a b ≡ true → same_value a b ≡ true
unfolding binary
equal_same a b h = go (is_null a || is_null b) h
  where
    go : (n : Bool) → is_true (if n then Null else from_truth (Some (is_eq (value_cmp a b)))) ≡ true → same_value a b ≡ true
    go true e = absurd cc
    go false e = sym (truth_is (is_eq (value_cmp a b))) ∙ e

-- a key of one place, and of two
pub agree_one : (p q : ℕ) (a b : Row) → agree plain (p ∷ []) a (q ∷ []) b ≡ (equal Binary (column a p) (column b q) && true)
unfolding first_key
agree_one p q a b = refl

pub agree_two : (p q : ℕ) (a b : Row) → agree plain (p ∷ q ∷ []) a (p ∷ q ∷ []) b ≡ (equal Binary (column a p) (column b p) && (equal Binary (column a q) (column b q) && true))
unfolding first_key
agree_two p q a b = refl
