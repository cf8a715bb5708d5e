-- Which rows of one table match: all, or those that have the value of a parameter.
use Rattle.reg_tables_schema.proofs.Words.{◌≡◌, ℕ, pos, List, [], ◌∷◌, map, Bool, true, ◌&&◌, refl, ap, ◌∙◌, filter, Value, Int, Text, Row}
use Rattle.reg_tables_schema.proofs.Words.{column, Term, Env, col, is_true, Trees, inner, end, matches, Compare, Eq, Binary}
use Rattle.sqlite.specs.Term.{op2}
use Rattle.sqlite.specs.Ops.{binary}
use Rattle.reg_tables_schema.proofs.Queries.{same_filter, and_true, equals_int, equals_text}
use Rattle.reg_tables_schema.proofs.Selections.{matched}
use Rattle.reg_tables_schema.proofs.Sorted.{singles}
use Rattle.reg_tables_schema.specs.Tests.{is_number, is_text}

-- WHERE column = ?1, the column at this place
abbrev pub equals_first : ℕ → List Term
equals_first place = op2 (Compare Eq Binary) (col 1 place) (col 0 0) ∷ []

abbrev beside : Row → Row → Env
beside params row = params ∷ row ∷ []

matches_value : (db : Trees) (tree place : ℕ) (v : Value) (test : Row → Bool) → ((r : Row) → is_true (binary (Compare Eq Binary) (column r place) v) ≡ test r)
    → matches db (equals_first place) (inner tree end) ((v ∷ []) ∷ []) ≡ map (beside (v ∷ [])) (filter test (db tree))
matches_value db tree place v test same =
    let found = λ (r : Row). is_true (binary (Compare Eq Binary) (column r place) v) && true in
    matched found (beside (v ∷ [])) (db tree) ∙ ap (map (beside (v ∷ []))) (same_filter found test (λ r. and_true _ ∙ same r) (db tree))

pub matches_number : (db : Trees) (tree place n : ℕ)
    → matches db (equals_first place) (inner tree end) ((Int (pos n) ∷ []) ∷ []) ≡ map (λ r. (Int (pos n) ∷ []) ∷ r ∷ []) (filter (is_number place n) (db tree))
matches_number db tree place n = matches_value db tree place (Int (pos n)) (is_number place n) (λ r. equals_int (column r place) (pos n))

pub matches_text : (db : Trees) (tree place : ℕ) (t : List ℕ)
    → matches db (equals_first place) (inner tree end) ((Text t ∷ []) ∷ []) ≡ map (λ r. (Text t ∷ []) ∷ r ∷ []) (filter (is_text place t) (db tree))
matches_text db tree place t = matches_value db tree place (Text t) (is_text place t) (λ r. equals_text (column r place) t)

pub matches_all : (db : Trees) (params : Row) (tree : ℕ) → matches db [] (inner tree end) (params ∷ []) ≡ map (λ r. params ∷ r ∷ []) (db tree)
matches_all db params tree = singles (beside params) (db tree)

-- a test that each row passes
pub all_pass : {A : Type 0} (xs : List A) → filter (λ (x : A). true) xs ≡ xs
all_pass [] = refl
all_pass (x ∷ xs) = ap (λ ys. x ∷ ys) (all_pass xs)
