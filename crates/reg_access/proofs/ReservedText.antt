-- What the text on reserved names means.
use Rattle.reg_access.proofs.Words.{ℕ, List, [], ◌∷◌, map, true, ◌&&◌, ap, ◌∙◌, IsPermutation, Binary, Row, column, overlay, IsSureAnswer}
use Rattle.reg_access.proofs.Words.{col, Trees, Text, equal, and_true, same_filter, matched, of_table, reserved_as}
use Rattle.reg_tables_schema.proofs.TableMatches.{equals_first}
use Rattle.reg_tables_sql.proofs.ReservedQueries.{by_canon_query}

pub reserved_gives : (canon : List ℕ) (db : Trees) (rows : List Row) → IsSureAnswer by_canon_query (overlay db []) (Text canon ∷ []) rows → IsPermutation (reserved_as canon db) rows
reserved_gives canon db rows =
    let beside = λ (r : Row). (Text canon ∷ []) ∷ r ∷ [] in
    let is_it = λ (r : Row). equal Binary (column r 1) (Text canon) in
    of_table (overlay db []) (Text canon ∷ []) 14 (equals_first 1) (col 1 1 ∷ []) rows is_it
    (matched (λ r. is_it r && true) beside (db 14) ∙ ap (map beside) (same_filter (λ r. is_it r && true) is_it (λ r. and_true (is_it r)) (db 14)))
