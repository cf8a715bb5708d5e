-- Owners of a crate who are added or removed.
use Rattle.reg_service_requests.proofs.Words.{◌≡◌, ℕ, List, [], ◌∷◌, Bool, true, false, not, Option, Some, None, refl, sym, ap, ◌∙◌, ◌&&◌}
use Rattle.reg_service_requests.proofs.Words.{◌||◌, is_some, string_bytes, unwrap_or, list_all, list_any, bytes_eq, Trees, Limits}
use Rattle.reg_service_requests.proofs.Words.{crate_of, owns, action_of, AddOwners, Registry, Text, holds, id_of_login, is_enabled}
use Rattle.reg_service_requests.proofs.Words.{is_known, with_commas, Sound, not_denied, not_false, list_any_map, only_if, request_words}
use Rattle.reg_service_requests.proofs.Words.{spelled, unless, Account, Principal, FoundCrate, ListsOwners, first_canon, owning, changes}
use Rattle.reg_service_requests.proofs.Words.{owners_word, crate_found, first_as}
use Rattle.std.specs.Global.{Global}
use Rattle.std.specs.Prelude.{map, String}
use Rattle.std.specs.FinSet as finset
use Rattle.reg_model.specs.Facts.{access_facts, counts}
use Rattle.reg_model.specs.Refusals.{denied}
use Rattle.reg_model.specs.Registry as model
use Rattle.reg_model.proofs.Lists.{all_so}
use Rattle.reg_service_steps.specs.Telling.{differs}
use Rattle.reg_service_requests.proofs.Asking.{HasWords}
use Rattle.reg_service_requests.proofs.OwningDone.{named_in}
use Rattle.reg_service_steps.proofs.Owners.{one_owns}
use Rattle.reg_service_steps.proofs.Placed.{all_placed, any_placed}

unless_all : {X : Type 0} (p : X → Bool) (xs : List X) (words : List Text) → unless (list_all p xs) words ≡ only_if (changes true p xs) words
unless_all p [] words = refl
unless_all p (x ∷ xs) words = by (p x) (unless_all p xs words)
  where
    by : (b : Bool) → unless (list_all p xs) words ≡ only_if (changes true p xs) words → unless (b && list_all p xs) words ≡ only_if (not b || changes true p xs) words
    by true rest = rest
    by false rest = refl

module _ (limits : Limits) (s : Registry) (sound : Sound s) (d n : Text) (logins : List Text) where
  known_there : (l : Text) → is_known s l ≡ true → is_some (id_of_login s l) ≡ true
  known_there l h = by (id_of_login s l) h
    where
      by : (o : Option ℕ) → holds (is_enabled s) o ≡ true → is_some o ≡ true
      by None k = absurd cc
      by (Some id) k = refl

  owning_words : (are : Bool) → denied limits s (Some d) (owning are n logins) ≡ None → request_words s (owning are n logins)
      ≡ only_if (changes are (λ l. holds (owns s n) (id_of_login s l)) logins) (owners_word are ∷ spelled s n ∷ with_commas logins ∷ [])
  unfolding access_facts counts
  owning_words true ok =
      let c = not_denied limits s d (AddOwners n logins) ok in
      let all = all_so (is_known s) (λ l. is_some (id_of_login s l)) known_there logins (not_false _ c.1.1.1.1.1.1.1.0) in
      ap (λ b. unless b (owners_word true ∷ spelled s n ∷ with_commas logins ∷ [])) (all_placed (owns s n) (id_of_login s) logins all) ∙ unless_all (λ l. holds (owns s n) (id_of_login s l)) logins _
  owning_words false ok = ap (λ b. only_if b (owners_word false ∷ spelled s n ∷ with_commas logins ∷ [])) (any_placed (owns s n) (id_of_login s) logins)

-- the same test of texts as a call is given them
changes_map : (are : Bool) (p : Text → Bool) (texts : List (String Global)) → changes are p (map string_bytes texts) ≡ changes are (λ t. p (string_bytes t)) texts
changes_map are p texts = list_any_map (λ t. differs (p t) are) string_bytes texts

pub owning_has : (limits : Limits) (c : Principal) (are b : Bool) (n : Text) (texts : List (String Global)) (db : Trees) (it : FoundCrate) (list : List Account) → c.found ≡ Some it → ListsOwners it.id db list
    → b ≡ changes are (λ t. list_any (λ a. bytes_eq (string_bytes a.login) (string_bytes t)) list) texts
    → HasWords limits c (owning are n (map string_bytes texts)) db (only_if b (owners_word are ∷ it.name ∷ with_commas (map string_bytes texts) ∷ []))
owning_has limits c are b n texts db it list found lists e = λ d who ids s h ok.
    let logins : List Text = map string_bytes texts in
    let crate = crate_found ids s (crate_of (action_of (owning are n logins))) n c.found it (named_in are n logins) found (who ids s h).found in
    let first = first_as ids s it n crate in
    let same = first_canon s n it.name first in
    let owned = λ (l : Text). one_owns s h.sound n it.name l _ list crate.placed same (lists ids s h) in
    let changed : changes are (λ l. holds (owns s n) (id_of_login s l)) logins ≡ b = changes_map are (λ l. holds (owns s n) (id_of_login s l)) texts ∙ (λ i. changes are (λ t. sym (owned (string_bytes t)) i) texts) ∙ sym e in
    owning_words limits s h.sound d n logins are ok
    ∙ ap (λ c. only_if c (owners_word are ∷ spelled s n ∷ with_commas logins ∷ [])) changed
    ∙ ap (λ o. only_if b (owners_word are ∷ unwrap_or o n ∷ with_commas logins ∷ [])) first
