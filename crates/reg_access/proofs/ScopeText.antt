-- What the text on the scopes of a token means.
use Rattle.reg_access.proofs.Words.{◌≡◌, ℕ, List, [], ◌∷◌, codes, map, Bool, true, false, ◌&&◌, refl, ap, subst, IsPermutation, Binary, Row}
use Rattle.reg_access.proofs.Words.{column, overlay, Query, IsSureAnswer, inner, end, matches, Term, col, eval_all, op2, Trees, Value, Text}
use Rattle.reg_access.proofs.Words.{equal, Compare, Eq, Le, Lt, ours, plain, answers, and_true, IsSelection, is_at_most, is_below}
use Rattle.reg_access.proofs.Words.{is_scope_over, scopes_over}
use Rattle.sqlite.specs.Listing.{understood}
use Rattle.sqlite_tied.specs.Compute.{everything}
use Rattle.reg_access.specs.declared.texts.TheConstants.{IS_COVERED_TEXT}
use Rattle.reg_access.proofs.Joins.{joined_where}

abbrev scopes_filter : List Term
scopes_filter = op2 (Compare Eq Binary) (col 2 1) (col 1 0) ∷ op2 (Compare Eq Binary) (col 1 0) (col 0 0) ∷ op2 (Compare Le Binary) (col 2 4) (col 0 1) ∷ op2 (Compare Lt Binary) (col 0 1) (col 2 5) ∷ []

abbrev pub scopes_query : Query
scopes_query = plain (inner 3 (inner 5 end)) scopes_filter (col 2 2 ∷ [])

pub scopes_is : IsSelection ours IS_COVERED_TEXT.now scopes_query (codes "place" ∷ [])
unfolding understood everything
scopes_is = record { command = refl; unlisted = refl; plain = (refl, refl) }

-- the terms of ON come first
in_turn : (p b c d : Bool) → (p && (b && (c && (d && true)))) ≡ (b && (p && (c && d)))
in_turn true b c d = ap (λ e. b && (c && e)) (and_true d)
in_turn false true c d = refl
in_turn false false c d = refl

pub scopes_give : (id : Value) (canon : List ℕ) (db : Trees) (rows : List Row) → IsSureAnswer scopes_query (overlay db []) (id ∷ Text canon ∷ []) rows → IsPermutation (scopes_over id canon db) rows
scopes_give id canon db rows h =
    let params : Row = id ∷ Text canon ∷ [] in
    let same : map (eval_all (col 2 2 ∷ [])) (matches db scopes_filter (inner 3 (inner 5 end)) (params ∷ [])) ≡ scopes_over id canon db =
    joined_where (λ (t s : Row). params ∷ t ∷ s ∷ []) (eval_all (col 2 2 ∷ [])) (λ (t : Row). db 5)
    (λ t. equal Binary (column t 0) id) (is_scope_over canon) _
    (λ t s. in_turn (equal Binary (column s 1) (column t 0)) (equal Binary (column t 0) id) (is_at_most (column s 4) (Text canon)) (is_below (Text canon) (column s 5))) (db 3) in
    subst (λ xs. IsPermutation xs rows) same (answers (overlay db []) params (inner 3 (inner 5 end)) scopes_filter (col 2 2 ∷ []) rows h)
