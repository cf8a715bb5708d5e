-- Accounts that are found by their logins, since no two have one.
use Rattle.std.proofs.Common.{◌≡◌, ℕ, ◌+◌, List, [], ◌∷◌, Bool, true, false, cond, Option, Some, None, refl, sym, ap, ◌∙◌}
use Rattle.std.proofs.lemmas.Bool.{and_parts}
use Rattle.std.proofs.lemmas.Slice.Eq.{bytes_eq-Decides}
use Rattle.std.specs.Prelude.{◌||◌, ◌&&◌, is_some}
use Rattle.std.specs.List.{AllByRecursion, IsDistinct, cons_option, enumerate_from, filter, filter_map, list_all, list_any, position_from}
use Rattle.std.specs.Ordering.{on}
use Rattle.std.specs.Str.{bytes_eq}
use Rattle.reg_model.specs.Facts.{has_login}
use Rattle.reg_model.specs.Registry.{Account, Registry, Text, holds, id_of_login}
use Rattle.reg_model.specs.Sound.{Sound}
use Rattle.reg_model.proofs.Lists.{any_filter, true_not_false}

off : (b : Bool) → (b && false) ≡ false
off true = refl
off false = refl

alone : (b : Bool) → ((b && true) || false) ≡ b
alone true = refl
alone false = refl

module _ (q : ℕ → Bool) (l : Text) where
  abbrev any_of : ℕ → List Account → Bool
  any_of k xs = list_any (λ o. q o.0 && bytes_eq o.1.login l) (enumerate_from k xs)

  nobody : (x : Account) (xs : List Account) (k : ℕ) → AllByRecursion (λ y. bytes_eq x.login y.login ≡ false) xs → bytes_eq x.login l ≡ true → any_of k xs ≡ false
  nobody x [] k h e = refl
  nobody x (y ∷ ys) k (h, rest) e =
      ap (λ c. (q k && c) || any_of (k + 1) ys) (other (bytes_eq y.login l) refl) ∙ ap (λ b. b || any_of (k + 1) ys) (off (q k)) ∙ nobody x ys (k + 1) rest e
    where
      other : (b : Bool) → bytes_eq y.login l ≡ b → b ≡ false
      other true f = let same : x.login ≡ y.login = (bytes_eq-Decides x.login l).0 e ∙ sym ((bytes_eq-Decides y.login l).0 f) in true_not_false _ ((bytes_eq-Decides x.login y.login).1 same) h
      other false f = refl

  placed : (xs : List Account) (k : ℕ) → IsDistinct (on (λ a. a.login) bytes_eq) xs → any_of k xs ≡ holds q (position_from (λ a. bytes_eq a.login l) k xs)
  unfolding IsDistinct
  placed [] k h = refl
  placed (x ∷ xs) k (h, rest) = by (bytes_eq x.login l) refl (placed xs (k + 1) rest)
    where
      by : (c : Bool) → bytes_eq x.login l ≡ c → any_of (k + 1) xs ≡ holds q (position_from (λ a. bytes_eq a.login l) (k + 1) xs) → ((q k && bytes_eq x.login l) || any_of (k + 1) xs) ≡ holds q (cond c (Some k) (position_from (λ a. bytes_eq a.login l) (k + 1) xs))
      by true is later = ap (λ c. (q k && c) || any_of (k + 1) xs) is ∙ ap (λ b. (q k && true) || b) (nobody x xs (k + 1) h is) ∙ alone (q k)
      by false is later = ap (λ c. (q k && c) || any_of (k + 1) xs) is ∙ ap (λ b. b || any_of (k + 1) xs) (off (q k)) ∙ later

-- whether one of those who pass has the login: whether its account is there and passes
pub login_passes : (s : Registry) → Sound s → (q : ℕ → Bool) (l : Text) → has_login (filter (λ o. q o.0) (enumerate_from 1 s.accounts)) l ≡ holds q (id_of_login s l)
login_passes s sound q l = any_filter (λ o. q o.0) (λ o. bytes_eq o.1.login l) (enumerate_from 1 s.accounts) ∙ placed q l s.accounts 1 sound.logins

module _ (q : ℕ → Bool) (search : Text → Option ℕ) where
  pub all_placed : (logins : List Text) → list_all (λ l. is_some (search l)) logins ≡ true → list_all q (filter_map search logins) ≡ list_all (λ l. holds q (search l)) logins
  all_placed [] e = refl
  all_placed (l ∷ ls) e = let both = and_parts _ _ e in by (search l) both.0 (all_placed ls both.1)
    where
      by : (o : Option ℕ) → is_some o ≡ true → list_all q (filter_map search ls) ≡ list_all (λ l. holds q (search l)) ls → list_all q (cons_option o (filter_map search ls)) ≡ (holds q o && list_all (λ l. holds q (search l)) ls)
      by None k rest = absurd cc
      by (Some id) k rest = ap (λ b. q id && b) rest

  pub any_placed : (logins : List Text) → list_any q (filter_map search logins) ≡ list_any (λ l. holds q (search l)) logins
  any_placed [] = refl
  any_placed (l ∷ ls) = by (search l) (any_placed ls)
    where
      by : (o : Option ℕ) → list_any q (filter_map search ls) ≡ list_any (λ l. holds q (search l)) ls → list_any q (cons_option o (filter_map search ls)) ≡ (holds q o || list_any (λ l. holds q (search l)) ls)
      by None rest = rest
      by (Some id) rest = ap (λ b. q id || b) rest
