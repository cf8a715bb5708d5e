-- What SELECT with ORDER BY answers without a WHERE, and of tables that are joined.
use Rattle.reg_tables_schema.proofs.Words.{◌≡◌, ℕ, ◌+◌, List, [], ◌∷◌, map, true, get_or, refl, sym, ap, subst, ◌∙◌, is_lt, Ordering}
use Rattle.reg_tables_schema.proofs.Words.{IsPermutation, IsSorted, IsSorted-from_map, Row, Term, Env, eval_all, Trees, Join, inner, end}
use Rattle.reg_tables_schema.proofs.Words.{IsSureAnswer, matches, output, output_cmp, Output, Key, IsInOrder}
use Rattle.reg_tables_schema.proofs.Queries.{maps_twice}
use Rattle.reg_tables_schema.proofs.Sorted.{in_order, in_order_of, rises, unmapped}
use Rattle.reg_tables_schema.proofs.TableMatches.{matches_all, all_pass}

-- all rows of one table
pub all_ordered : (db : Trees) (tree : ℕ) (project : List Term) (order : List (Term × Key)) (rows : List Row) (cmp : Row → Row → Ordering)
    → ((a b : Row) → output_cmp (in_order (inner tree end) [] project order) (output (in_order (inner tree end) [] project order) ([] ∷ a ∷ [])) (output (in_order (inner tree end) [] project order) ([] ∷ b ∷ [])) ≡ cmp a b)
    → IsSureAnswer (in_order (inner tree end) [] project order) db [] rows → IsInOrder cmp (db tree) (λ r. eval_all project ([] ∷ r ∷ [])) rows
all_ordered db tree project order rows cmp same h =
    let met = matches_all db [] tree ∙ ap (map (λ (r : Row). [] ∷ r ∷ [])) (sym (all_pass (db tree))) in
    subst (λ kept. IsInOrder cmp kept (λ r. eval_all project ([] ∷ r ∷ [])) rows) (all_pass (db tree)) (in_order_of db [] tree [] project order rows (λ _. true) cmp met same h)

abbrev as_output : (Row → Row) → Row → Output
as_output keys r = (keys r, r)

-- each match as its keys and what is shown, where the keys are told by what is shown
outputs : (from : Join) (filters project : List Term) (order : List (Term × Key)) (keys : Row → Row) → ((env : Env) → eval_all (map (λ (k : Term × Key). k.0) order) env ≡ keys (eval_all project env))
    → (envs : List Env) → map (output (in_order from filters project order)) envs ≡ map (as_output keys) (map (eval_all project) envs)
outputs from filters project order keys told [] = refl
outputs from filters project order keys told (env ∷ envs) = rw (told env, outputs from filters project order keys told envs)

-- rows in an order that what is shown of them tells
pub shown_in_order : (db : Trees) (params : Row) (from : Join) (filters project : List Term) (order : List (Term × Key)) (rows : List Row) (keys : Row → Row) (cmp : Row → Row → Ordering)
    → ((env : Env) → eval_all (map (λ (k : Term × Key). k.0) order) env ≡ keys (eval_all project env))
    → ((a b : Row) → output_cmp (in_order from filters project order) (as_output keys a) (as_output keys b) ≡ cmp a b)
    → IsSureAnswer (in_order from filters project order) db params rows → IsInOrder cmp (map (eval_all project) (matches db filters from (params ∷ []))) (λ r. r) rows
shown_in_order db params from filters project order rows keys cmp told same h =
    let q = in_order from filters project order in
    let met = matches db filters from (params ∷ []) in
    let out = as_output keys in
    let up = rises db params from filters project order rows h in
    let images = outputs from filters project order keys told met in
    let back = unmapped out (map (eval_all project) met) up.ordered (subst (λ xs. IsPermutation xs up.ordered) images up.same) in
    let sorted = IsSorted-from_map (output_cmp q) out back.0 (subst (IsSorted (output_cmp q)) back.2 up.sorted) in
    record {
      ordered = back.0;
      same = back.1;
      sorted = λ k d low high. ap is_lt (sym (same (get_or back.0 (k + 1) d) (get_or back.0 k d))) ∙ sorted k d low high;
      shown = up.shown ∙ ap (map (λ (o : Output). o.1)) back.2 ∙ maps_twice out (λ (o : Output). o.1) back.0;
    }
