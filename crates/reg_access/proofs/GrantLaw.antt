-- What was asked of a name and of the tokens makes up the grants.
use Rattle.reg_access.proofs.Words.{◌≡◌, ◌==◌, ℕ, Bool, true, false, ◌&&◌, ◌||◌, not, cond, List, [], ◌∷◌, map, Option, Some, None, is_some}
use Rattle.reg_access.proofs.Words.{refl, sym, ap, ◌∙◌, string_bytes, enumerate_from, filter, find, flat_map, list_any, option_map, Trees}
use Rattle.reg_access.proofs.Words.{canon, is_name, Endpoint, collides, exists, first, is_among, is_reserved_always, Registry, any_filter}
use Rattle.reg_access.proofs.Words.{any_same, is_some_find, list_any_map, not_true, true_not_false, maps_twice, Crate, TokenRow, same_bytes}
use Rattle.reg_access.proofs.Words.{FindsCrate, entry_of_account, StandsSoundBy, IdAssignment, AreCandidates, Told, granted, is_free, told_by, told_of}
use Rattle.std.specs.FinSet as finset
use Rattle.reg_model.specs.Crates.{owners as owners_in}
use Rattle.reg_model.specs.Grants.{grants}
use Rattle.reg_model.specs.Registry.{Account as Of, Publication, Text as Words}
use Rattle.reg_tables_sql.specs.declared.accounts.Account.{Account}
use Rattle.reg_tables_represent.specs.Changes.{told_of as told_where}
use Rattle.reg_access.specs.declared.granting.Standing.{Standing}
use Rattle.reg_access.specs.declared.grants.Grant.{Grant}
use Rattle.reg_access.specs.Grants.{AreOwnersOf, IsStanding}
use Rattle.reg_access.proofs.GrantLists.{all_told, pairs_told}

found_has : {X : Type 0} (p : X → Bool) (xs : List X) (x : X) → find p xs ≡ Some x → p x ≡ true
found_has p [] x e = cc e
found_has p (y ∷ ys) x e = by (p y) refl e (found_has p ys x)
  where
    by : (b : Bool) → p y ≡ b → cond b (Some y) (find p ys) ≡ Some x → (find p ys ≡ Some x → p x ≡ true) → p x ≡ true
    by true t f rest = let same : y ≡ x = cc f in ap p (sym same) ∙ t
    by false t f rest = rest f

none_any : {X : Type 0} (xs : List X) → list_any (λ x. false) xs ≡ false
none_any [] = refl
none_any (x ∷ xs) = none_any xs

-- the spelling of a crate has the canonical text of the name
pub first_canon : (s : Registry) (n m : Words) → first s n ≡ Some m → canon m ≡ canon n
first_canon s n m e = by (find (λ p. collides p.name n) s.publications) refl e
  where
    by : (o : Option Publication) → find (λ p. collides p.name n) s.publications ≡ o → option_map (λ p. p.name) o ≡ Some m → canon m ≡ canon n
    by None f none = cc none
    by (Some p) f some = let same : p.name ≡ m = cc some in ap canon (sym same) ∙ same_bytes (canon p.name) (canon n) (found_has (λ p. collides p.name n) s.publications p f)

neither : (a b c : Bool) → not (a || (b || c)) ≡ (not a && not (b || c))
neither true b c = refl
neither false b c = refl

module _ (ids : IdAssignment) (s : Registry) (db : Trees) (h : StandsSoundBy ids s db) (n : Words) where
  pub there_is : (found : Option Crate) → option_map (λ c. string_bytes c.name) found ≡ first s n → exists s n ≡ is_some found
  there_is found e = sym (is_some_find (λ p. p.name) (λ p. collides p.name n) s.publications) ∙ ap is_some (sym e) ∙ mapped found
    where
      mapped : (o : Option Crate) → is_some (option_map (λ c. string_bytes c.name) o) ≡ is_some o
      mapped None = refl
      mapped (Some c) = refl

  owners_are : (found : Option Crate) → FindsCrate (canon n) db found → (list : List Account) → AreOwnersOf found db list → (id : ℕ) → list_any (λ o. o.id == id) list ≡ is_among (owners_in s n) id
  owners_are None finds list none id = ap (list_any (λ o. o.id == id)) none ∙ sym (any_filter (λ o. finset.contains s.owners (canon n, o.0)) (λ o. o.0 == id) (enumerate_from 1 s.accounts) ∙ any_same _ (λ (e : ℕ × Of). false) (λ e. unowned e.0 (e.0 == id)) (enumerate_from 1 s.accounts) ∙ none_any (enumerate_from 1 s.accounts))
    where
      unowned : (k : ℕ) (b : Bool) → (finset.contains s.owners (canon n, k) && b) ≡ false
      unowned k b = ap (λ o. o && b) (not_true (finset.contains s.owners (canon n, k)) (λ e. true_not_false (exists s n) (h.sound.owners (canon n) k e).0 (there_is None ((finds ids s h).0 n refl))))
  owners_are (Some c) finds list are id =
      let told = finds ids s h in
      let same = first_canon s n (string_bytes c.name) (sym (told.0 n refl)) in
      let listed : map entry_of_account list ≡ owners_in s (string_bytes c.name) = are ids s h ∙ ap (λ o. told_where o [] (owners_in s)) told.1 in
      sym (list_any_map (λ e. e.0 == id) entry_of_account list) ∙ ap (list_any (λ (e : ℕ × Of). e.0 == id)) listed
      ∙ ap (λ x. list_any (λ (e : ℕ × Of). e.0 == id) (filter (λ o. finset.contains s.owners (x, o.0)) (enumerate_from 1 s.accounts))) same

  pub granted_by : is_name n ≡ true → (it : Standing) (rows : List TokenRow) (list : List Grant) → IsStanding (canon n) db it → AreCandidates (canon n) db rows → map told_of list ≡ flat_map (told_by it.owners.items (not it.taken)) rows
      → (map told_of list ≡ granted s n) × (map {B = ℕ × Endpoint} (λ g. (g.token, g.endpoint)) list ≡ grants s n)
  granted_by name it rows list (found, finds, owners, taken) candidates told =
      let there = there_is found ((finds ids s h).0 n refl) in
      let free : not it.taken ≡ is_free s n = ap not (taken ids s h) ∙ neither (is_some found) (is_reserved_always (canon n)) (finset.contains s.reserved (canon n)) ∙ ap (λ b. not b && not (is_reserved_always (canon n) || finset.contains s.reserved (canon n))) (sym there) in
      let all = told ∙ all_told s n it.owners.items (not it.taken) (owners_are found finds it.owners.items owners) free rows (candidates ids s h n name refl) in
      (all, sym (maps_twice told_of (λ (t : Told). (t.0, t.1)) list) ∙ ap (map {B = ℕ × Endpoint} (λ (t : Told). (t.0, t.1))) all ∙ pairs_told s n)
