-- Versions that are yanked, or no longer.
use Rattle.reg_service_requests.proofs.Words.{◌≡◌, [], ◌∷◌, Bool, true, false, cond, not, Some, sym, ap, ◌∙◌, unwrap_or, Trees, Limits}
use Rattle.reg_service_requests.proofs.Words.{crate_of, action_of, Registry, Text, has_version, only_if, request_words, spelled, unless}
use Rattle.reg_service_requests.proofs.Words.{Principal, FoundCrate, first_canon, marking, mark_word, crate_found, first_as}
use Rattle.std.specs.FinSet as finset
use Rattle.reg_model.specs.Crates.{is_yanked}
use Rattle.reg_tables_represent.specs.Calls.{TellsOtherMark}
use Rattle.reg_service_requests.proofs.Asking.{HasWords}
use Rattle.reg_service_requests.proofs.Marked.{is_published, named_in}

mark_words : (b other : Bool) (s : Registry) (n v : Text) → is_yanked s n v ≡ cond other (not b) b → request_words s (marking b n v) ≡ only_if other (mark_word b ∷ spelled s n ∷ v ∷ [])
mark_words true true s n v e = ap (λ y. unless y (mark_word true ∷ spelled s n ∷ v ∷ [])) e
mark_words true false s n v e = ap (λ y. unless y (mark_word true ∷ spelled s n ∷ v ∷ [])) e
mark_words false true s n v e = ap (λ y. only_if y (mark_word false ∷ spelled s n ∷ v ∷ [])) e
mark_words false false s n v e = ap (λ y. only_if y (mark_word false ∷ spelled s n ∷ v ∷ [])) e

pub mark_has : (limits : Limits) (c : Principal) (b other : Bool) (n v : Text) (db : Trees) (it : FoundCrate) → c.found ≡ Some it → TellsOtherMark it.id v b db other → HasWords limits c (marking b n v) db (only_if other (mark_word b ∷ it.name ∷ v ∷ []))
mark_has limits c b other n v db it found tells = λ d who ids s h ok.
    let crate = crate_found ids s (crate_of (action_of (marking b n v))) n c.found it (named_in b n v) found (who ids s h).found in
    let first = first_as ids s it n crate in
    let same = first_canon s n it.name first in
    let there = ap (λ c. has_version s c v) same ∙ is_published limits s d n v b ok in
    let yanked : is_yanked s n v ≡ cond other (not b) b = ap (λ c. finset.contains s.yanked (c, v)) (sym same) ∙ tells ids s h it.name crate.placed there in
    mark_words b other s n v yanked ∙ ap (λ o. only_if other (mark_word b ∷ unwrap_or o n ∷ v ∷ [])) first
