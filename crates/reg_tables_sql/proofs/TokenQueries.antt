-- What the queries on tokens answer.
use Rattle.reg_tables_sql.proofs.Words.{◌≡◌, ℕ, pos, List, [], ◌∷◌, codes, map, Option, refl, ap, subst, ◌∙◌, filter, Binary, ascending}
use Rattle.reg_tables_sql.proofs.Words.{Row, Term, col, IsSureAnswer, Query, inner, end, overlay, State, ours, IsInside, IsSelection}
use Rattle.reg_tables_sql.proofs.Words.{selected, flat_map, IsPermutation, Blob, Int, binary, is_true, column, matches, eval_all, op2}
use Rattle.reg_tables_sql.proofs.Words.{Trees, Compare, Eq, number_columns, shown_of, is_number, greatest, greatest_of, plain, answers}
use Rattle.reg_tables_sql.proofs.Words.{joined, same_filter, in_order, shown_exactly, of_table, equals_first, matches_number, all_in_order}
use Rattle.reg_tables_sql.proofs.Words.{IsLastId}
use Rattle.sqlite.specs.Listing.{understood}
use Rattle.sqlite.specs.State.{Shown}
use Rattle.sqlite_tied.specs.Compute.{everything}
use Rattle.reg_tables_schema.specs.Tests.{is_blob}
use Rattle.reg_tables_schema.proofs.Queries.{equals_blob}
use Rattle.reg_tables_sql.specs.declared.tokens.TheConstants.{ALL_TEXT, BY_DIGEST_TEXT, BY_ID_TEXT, LAST_ID_TEXT}
use Rattle.reg_tables_sql.specs.declared.tokens.Token.{Token}
use Rattle.reg_tables_sql.specs.declared.tokens.TokenRow.{TokenRow}
use Rattle.reg_tables_sql.specs.Tokens.{AreTokens, IsTokenOfDigest, IsTokenWithId, columns_of_token, columns_with_account, is_of_token, token_and_account, tokens_with_accounts}

abbrev by_digest_filter : List Term
by_digest_filter = op2 (Compare Eq Binary) (col 2 0) (col 1 3) ∷ op2 (Compare Eq Binary) (col 1 2) (col 0 0) ∷ []

abbrev by_digest_project : List Term
by_digest_project = col 1 0 ∷ col 1 3 ∷ col 1 4 ∷ col 1 5 ∷ col 1 6 ∷ col 1 7 ∷ col 1 8 ∷ col 2 2 ∷ col 2 4 ∷ []

abbrev by_digest_names : List (List ℕ)
by_digest_names = codes "id" ∷ codes "account" ∷ codes "live" ∷ codes "publish_new" ∷ codes "publish_update" ∷ codes "yank" ∷ codes "change_owners" ∷ codes "login" ∷ codes "enabled" ∷ []

abbrev pub by_digest_query : Query
by_digest_query = plain (inner 3 (inner 1 end)) by_digest_filter by_digest_project

pub by_digest_is : IsSelection ours BY_DIGEST_TEXT.now by_digest_query by_digest_names
unfolding understood everything
by_digest_is = record { command = refl; unlisted = refl; plain = (refl, refl) }

by_digest_rows : (db : Trees) (digest : List ℕ) → map (eval_all by_digest_project) (matches db by_digest_filter (inner 3 (inner 1 end)) ((Blob digest ∷ []) ∷ [])) ≡ tokens_with_accounts digest db
by_digest_rows db digest =
    let params : Row = Blob digest ∷ [] in
    let of_it = λ (t : Row). is_true (binary (Compare Eq Binary) (column t 2) (Blob digest)) in
    let all = joined is_of_token of_it (λ (t a : Row). params ∷ t ∷ a ∷ []) (eval_all by_digest_project) (db 3) (db 1) in
    let test = same_filter of_it (is_blob 2 digest) (λ t. equals_blob (column t 2) digest) (db 3) in
    all ∙ ap (flat_map (λ t. map (token_and_account t) (filter (is_of_token t) (db 1)))) test

pub by_digest_gives : (digest : List ℕ) (db : Trees) (rows : List Row) → IsSureAnswer by_digest_query (overlay db []) (Blob digest ∷ []) rows → IsPermutation (tokens_with_accounts digest db) rows
by_digest_gives digest db rows h =
    subst (λ xs. IsPermutation xs rows) (by_digest_rows db digest) (answers (overlay db []) (Blob digest ∷ []) (inner 3 (inner 1 end)) by_digest_filter by_digest_project rows h)

pub by_digest : (old new : State) (digest : List ℕ) (found : Option TokenRow) → IsInside old → Shown BY_DIGEST_TEXT.now (Blob digest ∷ []) old new (shown_of columns_with_account found)
    → IsTokenOfDigest digest old.now.trees found
by_digest old new digest found at h =
    shown_exactly columns_with_account _ found (by_digest_gives digest old.now.trees _ (selected by_digest_is (Blob digest ∷ []) old new _ at h))

abbrev project : List Term
project = col 1 0 ∷ col 1 2 ∷ col 1 3 ∷ col 1 4 ∷ col 1 5 ∷ col 1 6 ∷ col 1 7 ∷ col 1 8 ∷ []

abbrev names : List (List ℕ)
names = codes "id" ∷ codes "digest" ∷ codes "account" ∷ codes "live" ∷ codes "publish_new" ∷ codes "publish_update" ∷ codes "yank" ∷ codes "change_owners" ∷ []

pub listed_is : IsSelection ours ALL_TEXT.now (in_order (inner 3 end) [] project ((col 1 0, ascending Binary) ∷ [])) (names)
unfolding understood everything
listed_is = record { command = refl; unlisted = refl; plain = (refl, refl) }

pub listed : (old new : State) (list : List Token) → IsInside old → Shown ALL_TEXT.now [] old new (map columns_of_token list) → AreTokens old.now.trees list
listed old new list at h = all_in_order (overlay old.now.trees []) [] 3 project _ 0 (selected listed_is [] old new _ at h)

pub by_id_is : IsSelection ours BY_ID_TEXT.now (plain (inner 3 end) (equals_first 0) project) names
unfolding understood everything
by_id_is = record { command = refl; unlisted = refl; plain = (refl, refl) }

pub by_id : (old new : State) (id : ℕ) (found : Option Token) → IsInside old → Shown BY_ID_TEXT.now (Int (pos id) ∷ []) old new (shown_of columns_of_token found) → IsTokenWithId id old.now.trees found
by_id old new id found at h =
    let params : Row = Int (pos id) ∷ [] in
    let db = overlay old.now.trees [] in
    shown_exactly columns_of_token _ found (of_table db params 3 (equals_first 0) project _ (is_number 0 id) (matches_number db 3 0 id) (selected by_id_is params old new _ at h))

pub last_is : IsSelection ours LAST_ID_TEXT.now (greatest 3) (codes "id" ∷ [])
unfolding understood everything
last_is = record { command = refl; unlisted = refl; plain = (refl, refl) }

pub last : (old new : State) (id : Option ℕ) → IsInside old → Shown LAST_ID_TEXT.now [] old new (shown_of number_columns id) → IsLastId 3 old.now.trees id
last old new id at h = greatest_of (overlay old.now.trees []) 3 _ (selected last_is [] old new _ at h)
