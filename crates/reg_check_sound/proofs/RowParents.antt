-- Rows that have a parent for each foreign key refer to it.
use Rattle.reg_check_sound.proofs.Words.{◌||◌, codes, agree, has_parent, plain, or_split, our_tables, refers, RefersTo, same_value}
use Rattle.reg_check_sound.proofs.Common.{◌≡◌, [], ◌∷◌, ◌∙◌, and_parts, any_in, ap, Bool, column, false, in_any, is_null, List, refl, Row, rowid, Some, sym, Trees, true, ℕ}
use Rattle.sqlite_schema.specs.Names.{same_name}
use Rattle.sqlite_schema.specs.Rules.{ParentKey, is_held, parent_key}
use Rattle.sqlite_value.specs.Keys.{joined}
use Rattle.reg_check_sound.proofs.SqlEqual.{agree_one, equal_same}

-- what the foreign keys point to
pub accounts_key : (place : ℕ) → parent_key our_tables (refers place (codes "accounts")) ≡ Some (1, 0 ∷ [], plain)
unfolding same_name joined
accounts_key place = refl

pub crates_key : (place : ℕ) → parent_key our_tables (refers place (codes "crates")) ≡ Some (7, 0 ∷ [], plain)
unfolding same_name joined
crates_key place = refl

pub versions_key : (place : ℕ) → parent_key our_tables (refers place (codes "versions")) ≡ Some (11, 0 ∷ [], plain)
unfolding same_name joined
versions_key place = refl

module _ (db : Trees) (place tree : ℕ) (parent : List ℕ) (key : parent_key our_tables (refers place parent) ≡ Some (tree, 0 ∷ [], plain)) (row : Row) where
  pub refers_to : has_parent our_tables db row (refers place parent) ≡ true → is_null (column row place) ≡ false → RefersTo (db tree) place row
  refers_to h there = or_split (is_null (column row place) || false) (is_held db (place ∷ []) row (parent_key our_tables (refers place parent))) h
      (λ null. absurd_null (is_null (column row place)) there null)
      (λ held.
      let k : ParentKey = (tree, 0 ∷ [], plain) in
      let test = λ (p : Row). agree plain (0 ∷ []) p (place ∷ []) row in
      let p = any_in test (db tree) (ap (is_held db (place ∷ []) row) (sym key) ∙ held) in
      let same = equal_same (column p.0 0) (column row place) (and_parts _ true (sym (agree_one 0 place p.0 row) ∙ p.2)).0 in
      in_any (λ p. same_value (rowid p) (column row place)) (db tree) p.0 p.1 same)
    where
      absurd_null : (b : Bool) → b ≡ false → (b || false) ≡ true → RefersTo (db tree) place row
      absurd_null true e f = absurd cc
      absurd_null false e f = absurd cc
