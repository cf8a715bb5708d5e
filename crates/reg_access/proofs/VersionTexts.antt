-- What the texts on the versions of a crate mean.
use Rattle.reg_access.proofs.Words.{◌≡◌, ℕ, List, [], ◌∷◌, codes, map, Bool, true, false, ◌&&◌, refl, ap, ◌∙◌, IsPermutation, Binary, Row}
use Rattle.reg_access.proofs.Words.{column, overlay, Query, IsSureAnswer, inner, end, Term, col, op2, Trees, Value, Text, equal, Compare}
use Rattle.reg_access.proofs.Words.{Eq, release_key_of, ours, plain, and_true, same_filter, IsSelection, matched, of_table, is_release}
use Rattle.reg_access.proofs.Words.{is_version, versions_of_release, versions_with_text}
use Rattle.sqlite.specs.Listing.{understood}
use Rattle.sqlite_tied.specs.Compute.{everything}
use Rattle.reg_access.specs.declared.texts.TheConstants.{FIND_VERSION_TEXT, HAS_RELEASE_TEXT}

abbrev release_filter : List Term
release_filter = op2 (Compare Eq Binary) (col 1 2) (col 0 0) ∷ op2 (Compare Eq Binary) (col 1 4) (col 0 1) ∷ []

abbrev pub release_query : Query
release_query = plain (inner 11 end) release_filter (col 1 0 ∷ [])

pub release_is : IsSelection ours HAS_RELEASE_TEXT.now release_query (codes "id" ∷ [])
unfolding understood everything
release_is = record { command = refl; unlisted = refl; plain = (refl, refl) }

abbrev pub release_params : Value → List ℕ → Row
release_params of_crate text = of_crate ∷ Text (release_key_of text) ∷ []

pub release_gives : (of_crate : Value) (text : List ℕ) (db : Trees) (rows : List Row) → IsSureAnswer release_query (overlay db []) (release_params of_crate text) rows → IsPermutation (versions_of_release of_crate text db) rows
release_gives of_crate text db rows =
    let params = release_params of_crate text in
    let key = release_key_of text in
    let found = λ (r : Row). equal Binary (column r 2) of_crate && (equal Binary (column r 4) (Text key) && true) in
    let beside = λ (r : Row). params ∷ r ∷ [] in
    of_table (overlay db []) params 11 release_filter (col 1 0 ∷ []) rows (is_release of_crate key)
    (matched found beside (db 11) ∙ ap (map beside) (same_filter found (is_release of_crate key) (λ r. ap (λ b. equal Binary (column r 2) of_crate && b) (and_true (equal Binary (column r 4) (Text key)))) (db 11)))

abbrev version_filter : List Term
version_filter = op2 (Compare Eq Binary) (col 1 2) (col 0 0) ∷ op2 (Compare Eq Binary) (col 1 4) (col 0 1) ∷ op2 (Compare Eq Binary) (col 1 3) (col 0 2) ∷ []

abbrev pub version_query : Query
version_query = plain (inner 11 end) version_filter (col 1 0 ∷ [])

pub version_is : IsSelection ours FIND_VERSION_TEXT.now version_query (codes "id" ∷ [])
unfolding understood everything
version_is = record { command = refl; unlisted = refl; plain = (refl, refl) }

abbrev pub version_params : Value → List ℕ → Row
version_params of_crate text = of_crate ∷ Text (release_key_of text) ∷ Text text ∷ []

three : (a b c : Bool) → (a && (b && (c && true))) ≡ ((a && b) && c)
three true true c = and_true c
three true false c = refl
three false b c = refl

pub version_gives : (of_crate : Value) (text : List ℕ) (db : Trees) (rows : List Row) → IsSureAnswer version_query (overlay db []) (version_params of_crate text) rows → IsPermutation (versions_with_text of_crate text db) rows
version_gives of_crate text db rows =
    let params = version_params of_crate text in
    let key = release_key_of text in
    let found = λ (r : Row). equal Binary (column r 2) of_crate && (equal Binary (column r 4) (Text key) && (equal Binary (column r 3) (Text text) && true)) in
    let beside = λ (r : Row). params ∷ r ∷ [] in
    of_table (overlay db []) params 11 version_filter (col 1 0 ∷ []) rows (is_version of_crate text)
    (matched found beside (db 11) ∙ ap (map beside) (same_filter found (is_version of_crate text) (λ r. three (equal Binary (column r 2) of_crate) (equal Binary (column r 4) (Text key)) (equal Binary (column r 3) (Text text))) (db 11)))
