-- What SELECT count(*) answers.
use Rattle.reg_tables_schema.proofs.Words.{◌≡◌, pos, negsuc, List, [], ◌∷◌, map, length, true, false, Option, Some, sym, ap, subst, ◌∙◌}
use Rattle.reg_tables_schema.proofs.Words.{filter, IsPermutation, length-map, length_permutation, Null, Int, Row, Trees, Term, Env, lit}
use Rattle.reg_tables_schema.proofs.Words.{col, Query, Join, matches, IsSureAnswer, IsAnswer, output, Output, Binary, one_permutation}
use Rattle.reg_tables_schema.proofs.Words.{capped}
use Rattle.std.specs.List.{AllZip}
use Rattle.sqlite.specs.Term.{eval}
use Rattle.sqlite.specs.Query.{page}
use Rattle.sqlite_sql.specs.Group.{Grouping, IsSummary, value_over}
use Rattle.sqlite_sql.specs.declared.aggregate.AggregateOp.TheVariants.{CountRows}

-- count(*) and no GROUP BY
abbrev pub counting : Grouping
counting = record { keys = []; collations = []; aggregates = record { op = CountRows; distinct = false; collation = Binary; argument = lit Null } ∷ []; having = [] }

same_some : {X : Type 0} {a b : X} → ◌≡◌ {A = Option X} (Some a) (Some b) → a ≡ b
same_some e = cc

one_value : (order : List Env) (values : Row) → AllZip (λ a v. value_over order a ≡ Some v) counting.aggregates values → values ≡ capped (length (map (eval (lit Null)) order)) ∷ []
one_value order [] h = absurd h
one_value order (v ∷ []) h = ap (λ w. w ∷ []) (sym (same_some h.0))
one_value order (v ∷ w ∷ more) h = absurd h.1

one_group : (order : List Env) (rows : List Row) → AllZip (IsSummary counting) (order ∷ []) rows → rows ≡ (capped (length (map (eval (lit Null)) order)) ∷ []) ∷ []
one_group order [] h = absurd h
one_group order (r ∷ []) h = ap (λ s. s ∷ []) (h.0.2 ∙ one_value order h.0.0 h.0.1)
one_group order (r ∷ s ∷ more) h = absurd h.1

abbrev pub counted : Join → List Term → Query
counted from filter =
    record { from = from; filter = filter; group = Some counting; project = col 1 0 ∷ []; distinct = false; collations = []; order = []; limit = lit (Int (negsuc 0)); offset = lit (Int (pos 0)) }

-- one row, of the number of matches
pub counts : (db : Trees) (params : Row) (from : Join) (filters : List Term) (rows : List Row) → IsSureAnswer (counted from filters) db params rows
    → rows ≡ (capped (length (matches db filters from (params ∷ []))) ∷ []) ∷ []
counts db params from filters rows h =
    let q = counted from filters in
    let met = matches db filters from (params ∷ []) in
    let a : IsAnswer q db params rows = h Null in
    let s = a.grouped in
    let order = s.grouping.0 in
    let long : length order ≡ length met = length_permutation met order s.grouping.1 in
    let groups = one_group order s.rows (subst (λ gs. AllZip (IsSummary counting) gs s.rows) s.grouping.2 s.summaries) in
    let number : length (map (eval (lit Null)) order) ≡ length met = length-map order (eval (lit Null)) ∙ long in
    let o : Output = ([], capped (length met) ∷ []) in
    let staged : a.staged ≡ (params ∷ (capped (length met) ∷ []) ∷ []) ∷ [] = s.having ∙ ap (λ (rs : List Row). filter (λ (e : Env). true) (map (λ (r : Row). params ∷ r ∷ []) rs)) (groups ∙ ap (λ n. (capped n ∷ []) ∷ []) number) in
    let kept : a.kept ≡ o ∷ [] = a.distinct ∙ ap (map (output q)) staged in
    let ordered = one_permutation o a.ordered (subst (λ k. IsPermutation k a.ordered) kept a.same) in
    a.shown ∙ ap (λ xs. page q params (map (λ (p : Output). p.1) xs)) ordered
