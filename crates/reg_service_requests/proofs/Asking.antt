-- From the words for what a request changes to what is told of it.
use Rattle.reg_service_requests.proofs.Words.{◌≡◌, List, [], ◌∷◌, ◌++◌, Bool, true, false, Option, Some, None, refl, ap, ◌∙◌, ◌&&◌, String}
use Rattle.reg_service_requests.proofs.Words.{codes, string_bytes, Global, decimal, option_map, Trees, Limits, Asked, action_of, Malformed}
use Rattle.reg_service_requests.proofs.Words.{Read, Index, Download, ListOwners, Publish, Yank, Unyank, AddOwners, RemoveOwners, Ask}
use Rattle.reg_service_requests.proofs.Words.{Publication, Registry, Text, line_of, only_if, request_words, unless_some, Principal, Tells}
use Rattle.reg_service_requests.proofs.Words.{IsPrincipal, TellsIf, line_if}
use Rattle.reg_model.specs.Refusals.{denied}
use Rattle.reg_model.specs.Trail.{asker, line}
use Rattle.reg_service_steps.proofs.Afterwards.{none_told, told_if}

-- these are the words for what a request of this caller changes that nothing denies
abbrev pub HasWords : Limits → Principal → Asked → Trees → Option (List Text) → Type 0
HasWords limits c asked db words = (digest : Text) → IsPrincipal digest (action_of asked) c db
    → Tells (λ ids s. denied limits s (Some digest) asked ≡ None → request_words s asked ≡ words) db

abbrev in_line : Principal → List Text → Text
in_line c words = line_of (decimal c.token ∷ string_bytes c.login ∷ words)

asked_line : (limits : Limits) (s : Registry) (d : Text) (asked : Asked) → denied limits s (Some d) asked ≡ None → line limits s (Ask (Some d) asked) ≡ option_map (λ words. line_of (asker s d ++ words)) (request_words s asked)
unfolding line
asked_line limits s d asked ok = ap (λ o. option_map (λ words. line_of (asker s d ++ words)) (unless_some o (request_words s asked))) ok

in_line_if : (c : Principal) (b : Bool) (words : List Text) → option_map (in_line c) (only_if b words) ≡ line_if b (decimal c.token ∷ string_bytes c.login ∷ words)
in_line_if c true words = refl
in_line_if c false words = refl

-- what a change of this caller tells, if it is wanted
pub change_told : (traced changed wanted : Bool) (limits : Limits) (c : Principal) (asked : Asked) (db : Trees) (words : List Text) (found : Option (String Global)) → wanted ≡ (traced && changed)
    → option_map string_bytes found ≡ line_if wanted (decimal c.token ∷ string_bytes c.login ∷ words) → HasWords limits c asked db (only_if changed words) → (digest : Text) → IsPrincipal digest (action_of asked) c db
    → TellsIf traced limits (Ask (Some digest) asked) db found
change_told traced changed wanted limits c asked db words found is told has digest who =
    told_if traced changed wanted limits (Ask (Some digest) asked) db (decimal c.token ∷ string_bytes c.login ∷ words) found is told
    (λ ids s h ok. asked_line limits s digest asked ok ∙ ap (λ names. option_map (λ ws. line_of (names ++ ws)) (request_words s asked)) (who ids s h).who ∙ ap (option_map (in_line c)) (has digest who ids s h ok) ∙ in_line_if c changed words)

-- whether a request may change something
abbrev pub is_change : Asked → Bool
is_change (Publish p) = true
is_change (Yank n v) = true
is_change (Unyank n v) = true
is_change (AddOwners n logins) = true
is_change (RemoveOwners n logins) = true
is_change _ = false

untold : (s : Registry) (asked : Asked) → is_change asked ≡ false → request_words s asked ≡ None
untold s (Malformed r) e = refl
untold s (Read what) e = refl
untold s (Index p) e = refl
untold s (Download n v) e = refl
untold s (ListOwners n) e = refl
untold s (Publish p) e = absurd cc
untold s (Yank n v) e = absurd cc
untold s (Unyank n v) e = absurd cc
untold s (AddOwners n logins) e = absurd cc
untold s (RemoveOwners n logins) e = absurd cc

-- one that may not has no line
pub nothing_told : (traced : Bool) (limits : Limits) (digest : Text) (asked : Asked) (db : Trees) (found : Option (String Global)) → found ≡ None → is_change asked ≡ false → TellsIf traced limits (Ask (Some digest) asked) db found
nothing_told traced limits digest asked db found none e = none_told traced limits (Ask (Some digest) asked) db found none
    (λ ids s h ok. asked_line limits s digest asked ok ∙ ap (option_map (λ words. line_of (asker s digest ++ words))) (untold s asked e))

pub publish_has : (limits : Limits) (c : Principal) (p : Publication) (db : Trees) → HasWords limits c (Publish p) db (Some (codes "publish" ∷ p.name ∷ p.version ∷ []))
publish_has limits c p db = λ d who ids s h ok. refl
