-- What the queries on scopes answer.
use Rattle.reg_tables_sql.proofs.Words.{ℕ, pos, List, [], ◌∷◌, codes, map, refl, ap, Int, Binary, ascending, Row, Term, col, inner, end}
use Rattle.reg_tables_sql.proofs.Words.{overlay, State, ours, IsInside, IsSelection, selected, ordering_then, Key, by_column, by_columns}
use Rattle.reg_tables_sql.proofs.Words.{is_number, all_ordered, in_order, in_order_of, then_equal, equals_first, matches_number}
use Rattle.sqlite.specs.Listing.{understood}
use Rattle.sqlite.specs.State.{Shown}
use Rattle.sqlite_tied.specs.Compute.{everything}
use Rattle.reg_tables_sql.specs.declared.scopes.TheConstants.{ALL_TEXT, OF_TOKEN_TEXT}
use Rattle.reg_tables_sql.specs.declared.scopes.Scope.{Scope}
use Rattle.reg_tables_sql.specs.Scopes.{AreScopes, AreScopesOf, columns_of_scope}

abbrev project : List Term
project = col 1 1 ∷ col 1 2 ∷ col 1 3 ∷ col 1 4 ∷ col 1 5 ∷ []

abbrev names : List (List ℕ)
names = codes "token" ∷ codes "place" ∷ codes "pattern" ∷ codes "low" ∷ codes "high" ∷ []

abbrev by_place : List (Term × Key)
by_place = (col 1 2, ascending Binary) ∷ []

pub of_token_is : IsSelection ours OF_TOKEN_TEXT.now (in_order (inner 5 end) (equals_first 1) project by_place) (names)
unfolding understood everything
of_token_is = record { command = refl; unlisted = refl; plain = (refl, refl) }

pub of_token : (old new : State) (token : ℕ) (list : List Scope) → IsInside old → Shown OF_TOKEN_TEXT.now (Int (pos token) ∷ []) old new (map columns_of_scope list)
    → AreScopesOf token old.now.trees list
of_token old new token list at h =
    let params : Row = Int (pos token) ∷ [] in
    in_order_of (overlay old.now.trees []) params 5 (equals_first 1) project by_place _ (is_number 1 token) (by_column 2) (matches_number old.now.trees 5 1 token)
    (λ a b. then_equal (by_column 2 a b)) (selected of_token_is params old new _ at h)

abbrev by_token_and_place : List (Term × Key)
by_token_and_place = (col 1 1, ascending Binary) ∷ (col 1 2, ascending Binary) ∷ []

pub listed_is : IsSelection ours ALL_TEXT.now (in_order (inner 5 end) [] project by_token_and_place) (names)
unfolding understood everything
listed_is = record { command = refl; unlisted = refl; plain = (refl, refl) }

pub listed : (old new : State) (list : List Scope) → IsInside old → Shown ALL_TEXT.now [] old new (map columns_of_scope list) → AreScopes old.now.trees list
listed old new list at h =
    all_ordered (overlay old.now.trees []) 5 project by_token_and_place _ (by_columns 1 2) (λ a b. ap (ordering_then (by_column 1 a b)) (then_equal (by_column 2 a b)))
    (selected listed_is [] old new _ at h)
