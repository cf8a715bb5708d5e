-- The ids that are found for logins.
use Rattle.reg_service_requests.proofs.Words.{◌≡◌, ℕ, ◌+◌, ◌<◌, List, [], ◌∷◌, ◌++◌, Bool, true, false, cond, Option, Some, None, Ok, Err}
use Rattle.reg_service_requests.proofs.Words.{length, drop, get_or, refl, sym, ap, subst, ◌∙◌, and_parts, bytes_eq-Decides, ◌||◌, ◌&&◌}
use Rattle.reg_service_requests.proofs.Words.{is_some, Vec, string_bytes, Global, enumerate_from, filter, find, list_all, list_any}
use Rattle.reg_service_requests.proofs.Words.{option_map, bytes_eq, Trees, Rule, owners, owns, has_login, Registry, Text, holds}
use Rattle.reg_service_requests.proofs.Words.{id_of_login, is_enabled, is_known, is_some_find, list_any_map, true_not_false, Account}
use Rattle.reg_service_requests.proofs.Words.{ListsOwners, told_of, entry_of_account, StandsSoundBy, IdAssignment, IsSpelled, AreLeaving, FindsAllKnown}
use Rattle.reg_service_requests.proofs.Words.{FindsKnown, FindsOwners, entries_of, id_among, leaving_rule}
use Rattle.std.proofs.lemmas.List.{append-nil, append_assoc, drop_more}
use Rattle.std.proofs.lemmas.List.Folds.{list_all-map}
use Rattle.std.specs.Prelude.{not, map, String}
use Rattle.std.specs.FinSet as finset
use Rattle.std.specs.List.{AllByRecursion, IsDistinct, cons_option, filter_map, position_from}
use Rattle.std.specs.Ordering.{on}
use Rattle.reg_model.specs.declared.rule.Rule.TheVariants as rule
use Rattle.reg_model.specs.Facts.{is_named}
use Rattle.reg_model.specs.Registry as model
use Rattle.reg_tables_represent.specs.Calls.{FindsAccount}
use Rattle.reg_service_requests.specs.Owning.{IsIdOf, enabled_id}

-- an enabled account is known, and its id is that of its login
pub known_one : (login : Text) (db : Trees) (found : Option Account) → FindsAccount login db found → FindsKnown login db (enabled_id found)
known_one login db None finds ids s h = ap (holds (is_enabled s)) (sym (finds ids s h).0)
known_one login db (Some a) finds ids s h = by a.enabled refl
  where
    known : is_known s login ≡ a.enabled
    known = ap (holds (is_enabled s)) (sym (finds ids s h).0) ∙ ap (holds (λ x. x.enabled)) (finds ids s h).1

    by : (b : Bool) → a.enabled ≡ b → IsIdOf (is_known s) (id_of_login s) login (cond b (Some a.id) None)
    by true is = (known ∙ is, sym (finds ids s h).0)
    by false is = known ∙ is

-- what is found for the logins so far, where the rest is to come
pub record IsSoFar (test : Text → Bool) (search : Text → Option ℕ) (all rest : List Text) (ids : List ℕ) : Type 0 where
  pub tests : list_all test all ≡ list_all test rest
  pub found : filter_map search all ≡ ids ++ filter_map search rest

module _ (test : Text → Bool) (search : Text → Option ℕ) (all : List Text) where
  pub so_far_none : IsSoFar test search all all []
  so_far_none = record { tests = refl; found = refl }

  one_more : (l : Text) (rest : List Text) (ids : List ℕ) (id : ℕ) → IsIdOf test search l (Some id) → IsSoFar test search all (l ∷ rest) ids → IsSoFar test search all rest (ids ++ id ∷ [])
  one_more l rest ids id is so = record {
    tests = so.tests ∙ ap (λ b. b && list_all test rest) is.0;
    found = so.found ∙ ap (λ o. ids ++ cons_option o (filter_map search rest)) is.1 ∙ sym (append_assoc ids (id ∷ []) (filter_map search rest));
  }

  pub so_far_all : (ids : List ℕ) → IsSoFar test search all [] ids → (list_all test all ≡ true) × (ids ≡ filter_map search all)
  so_far_all ids so = (so.tests, sym (so.found ∙ append-nil ids))

-- of texts as a call is given them
abbrev pub texts_of : List (String Global) → List Text
texts_of texts = map string_bytes texts

module _ (test : Text → Bool) (search : Text → Option ℕ) (texts : List (String Global)) (i : ℕ) (d : String Global) (below : i < length texts) (ids : List ℕ) (so : IsSoFar test search (texts_of texts) (texts_of (drop i texts)) ids) where
  here : IsSoFar test search (texts_of texts) ((string_bytes (get_or texts i d)) ∷ texts_of (drop (i + 1) texts)) ids
  here = subst (λ rest. IsSoFar test search (texts_of texts) (texts_of rest) ids) (drop_more texts i d below) so

  pub so_far_more : (id : ℕ) → IsIdOf test search (string_bytes (get_or texts i d)) (Some id) → IsSoFar test search (texts_of texts) (texts_of (drop (i + 1) texts)) (ids ++ id ∷ [])
  so_far_more id is = one_more test search (texts_of texts) (string_bytes (get_or texts i d)) (texts_of (drop (i + 1) texts)) ids id is here

  pub so_far_ends : IsIdOf test search (string_bytes (get_or texts i d)) None → list_all test (texts_of texts) ≡ false
  so_far_ends is = here.tests ∙ ap (λ b. b && list_all test (texts_of (drop (i + 1) texts))) is

-- an owner that is found in memory is so among its entry
same_found : (list : List Account) (l : Text) → id_among (entries_of list) l ≡ option_map (λ a. a.id) (find (λ a. bytes_eq (string_bytes a.login) l) list)
same_found [] l = refl
same_found (a ∷ list) l = by (bytes_eq (string_bytes a.login) l) (same_found list l)
  where
    by : (b : Bool) → id_among (entries_of list) l ≡ option_map (λ x. x.id) (find (λ x. bytes_eq (string_bytes x.login) l) list) → option_map (λ (o : ℕ × model.Account). o.0) (cond b (Some (entry_of_account a)) (find (λ o. bytes_eq o.1.login l) (entries_of list))) ≡ option_map (λ (x : Account). x.id) (cond b (Some a) (find (λ x. bytes_eq (string_bytes x.login) l) list))
    by true rest = refl
    by false rest = rest

pub owner_found : (list : List Account) (l : Text) (found : Option ℕ) → found ≡ option_map (λ a. a.id) (find (λ a. bytes_eq (string_bytes a.login) l) list) → IsIdOf (has_login (entries_of list)) (id_among (entries_of list)) l found
owner_found list l found e = by found (same_found list l ∙ sym e)
  where
    tested : is_some (id_among (entries_of list) l) ≡ has_login (entries_of list) l
    tested = is_some_find (λ o. o.0) (λ o. bytes_eq o.1.login l) (entries_of list)

    by : (o : Option ℕ) → id_among (entries_of list) l ≡ o → IsIdOf (has_login (entries_of list)) (id_among (entries_of list)) l o
    by None is = sym tested ∙ ap is_some is
    by (Some id) is = (sym tested ∙ ap is_some is, is)

-- why owners may not leave, and that they may
module _ (list : List Account) (texts : List (String Global)) where
  all_named : list_all (λ o. is_named (texts_of texts) o.1.login) (entries_of list) ≡ list_all (λ a. list_any (λ l. bytes_eq (string_bytes a.login) (string_bytes l)) texts) list
  all_named = list_all-map (λ (o : ℕ × model.Account). is_named (texts_of texts) o.1.login) entry_of_account list ∙ (λ i. list_all (λ a. list_any_map (bytes_eq (string_bytes a.login)) string_bytes texts i) list)

  rule_known : (b : Bool) → list_all (has_login (entries_of list)) (texts_of texts) ≡ true → list_all (λ a. list_any (λ l. bytes_eq (string_bytes a.login) (string_bytes l)) texts) list ≡ b → leaving_rule (entries_of list) (texts_of texts) ≡ cond b (Some rule.O4) None
  rule_known b e f = ap (λ b. cond (not b) (Some rule.O3) (cond (list_all (λ o. is_named (texts_of texts) o.1.login) (entries_of list)) (Some rule.O4) None)) e ∙ ap (λ b. cond b (Some rule.O4) None) (all_named ∙ f)

  pub all_leave : list_all (has_login (entries_of list)) (texts_of texts) ≡ true → list_all (λ a. list_any (λ l. bytes_eq (string_bytes a.login) (string_bytes l)) texts) list ≡ true → AreLeaving list (texts_of texts) (Err rule.O4)
  all_leave e f = rule_known true e f

  pub some_leave : (ids : Vec ℕ Global) → (list_all (has_login (entries_of list)) (texts_of texts) ≡ true) × (ids.items ≡ filter_map (id_among (entries_of list)) (texts_of texts)) → list_all (λ a. list_any (λ l. bytes_eq (string_bytes a.login) (string_bytes l)) texts) list ≡ false → AreLeaving list (texts_of texts) (Ok ids)
  some_leave ids e f = (rule_known false e.0 f, e.1)

-- an owner's id is that of its login, since no two accounts have one
module _ (l : Text) (q : ℕ × model.Account → Bool) where
  nobody : (x : model.Account) (xs : List model.Account) (k : ℕ) → AllByRecursion (λ y. bytes_eq x.login y.login ≡ false) xs → bytes_eq x.login l ≡ true → list_any (λ o. bytes_eq o.1.login l) (filter q (enumerate_from k xs)) ≡ false
  nobody x [] k h e = refl
  nobody x (y ∷ ys) k (h, rest) e = by (q (k, y)) (nobody x ys (k + 1) rest e)
    where
      other : (b : Bool) → bytes_eq y.login l ≡ b → b ≡ false
      other true f = let same : x.login ≡ y.login = (bytes_eq-Decides x.login l).0 e ∙ sym ((bytes_eq-Decides y.login l).0 f) in true_not_false _ ((bytes_eq-Decides x.login y.login).1 same) h
      other false f = refl

      by : (b : Bool) → list_any (λ o. bytes_eq o.1.login l) (filter q (enumerate_from (k + 1) ys)) ≡ false → list_any (λ o. bytes_eq o.1.login l) (cond b ((k, y) ∷ filter q (enumerate_from (k + 1) ys)) (filter q (enumerate_from (k + 1) ys))) ≡ false
      by true none = ap (λ b. b || list_any (λ o. bytes_eq o.1.login l) (filter q (enumerate_from (k + 1) ys))) (other (bytes_eq y.login l) refl) ∙ none
      by false none = none

  at_place : (xs : List model.Account) (k : ℕ) → IsDistinct (on (λ a. a.login) bytes_eq) xs → list_any (λ o. bytes_eq o.1.login l) (filter q (enumerate_from k xs)) ≡ true → id_among (filter q (enumerate_from k xs)) l ≡ position_from (λ a. bytes_eq a.login l) k xs
  unfolding IsDistinct
  at_place [] k h e = cc
  at_place (x ∷ xs) k (h, rest) e = by (q (k, x)) (bytes_eq x.login l) refl (at_place xs (k + 1) rest) e
    where
      later : List (ℕ × model.Account)
      later = filter q (enumerate_from (k + 1) xs)

      by : (b c : Bool) → bytes_eq x.login l ≡ c → (list_any (λ o. bytes_eq o.1.login l) later ≡ true → id_among later l ≡ position_from (λ a. bytes_eq a.login l) (k + 1) xs) → list_any (λ o. bytes_eq o.1.login l) (cond b ((k, x) ∷ later) later) ≡ true → id_among (cond b ((k, x) ∷ later) later) l ≡ cond c (Some k) (position_from (λ a. bytes_eq a.login l) (k + 1) xs)
      by true true is go some = ap (λ c. option_map (λ (o : ℕ × model.Account). o.0) (cond c (Some (k, x)) (find (λ o. bytes_eq o.1.login l) later))) is
      by true false is go some = ap (λ c. option_map (λ (o : ℕ × model.Account). o.0) (cond c (Some (k, x)) (find (λ o. bytes_eq o.1.login l) later))) is
          ∙ go (sym (ap (λ c. c || list_any (λ o. bytes_eq o.1.login l) later) is) ∙ some)
      by false true is go some = true_not_false _ some (nobody x xs (k + 1) h is)
      by false false is go some = go some

same_ids : (f g : Text → Option ℕ) (p : Text → Bool) → ((l : Text) → p l ≡ true → f l ≡ g l) → (logins : List Text) → list_all p logins ≡ true → filter_map f logins ≡ filter_map g logins
same_ids f g p same [] e = refl
same_ids f g p same (l ∷ logins) e = let both = and_parts _ _ e in λ i. cons_option (same l both.0 i) (same_ids f g p same logins both.1 i)

-- who joins a crate's owners, or that someone may not
module _ (logins : List Text) (db : Trees) (id : ℕ) where
  pub may_not_join : FindsAllKnown logins db None → FindsOwners true id logins db (Err rule.O2)
  may_not_join all ids s h name is = ap (λ b. cond (not b) (Some rule.O2) None) (all ids s h)

  pub joins : (accounts : Vec ℕ Global) → FindsAllKnown logins db (Some accounts) → FindsOwners true id logins db (Ok accounts)
  joins accounts all ids s h name is = (ap (λ b. cond (not b) (Some rule.O2) None) (all ids s h).0, (all ids s h).1)

  -- who leaves them, or that someone may not
  module _ (list : List Account) (lists : ListsOwners id db list) where
    are_owners : (ids : IdAssignment) (s : Registry) → StandsSoundBy ids s db → (name : Text) → IsSpelled ids name id → entries_of list ≡ owners s name
    are_owners ids s h name (n, at, same) =
        lists ids s h ∙ ap (λ o. told_of o [] (owners s)) at ∙ ap (λ c. filter (λ o. finset.contains s.owners (c, o.0)) (enumerate_from 1 s.accounts)) same

    pub may_not_leave : (r : Rule) → AreLeaving list logins (Err r) → FindsOwners false id logins db (Err r)
    may_not_leave r why ids s h name is = ap (λ os. leaving_rule os logins) (sym (are_owners ids s h name is)) ∙ why

    pub leaves : (accounts : Vec ℕ Global) → AreLeaving list logins (Ok accounts) → FindsOwners false id logins db (Ok accounts)
    leaves accounts may ids s h name is =
        let are = are_owners ids s h name is in
        let none = ap (λ os. leaving_rule os logins) (sym are) ∙ may.0 in
        (none, may.1 ∙ ap (λ os. filter_map (id_among os) logins) are ∙ same_ids (id_among (owners s name)) (id_of_login s) (has_login (owners s name)) (λ l e. at_place l (λ o. owns s name o.0) s.accounts 1 h.sound.logins e) logins (all_there _ _ none))
      where
        all_there : (b : Bool) (rest : Option Rule) → cond (not b) (Some rule.O3) rest ≡ None → b ≡ true
        all_there true rest e = refl
        all_there false rest e = cc
