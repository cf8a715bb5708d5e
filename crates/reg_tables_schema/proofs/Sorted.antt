-- What SELECT with ORDER BY answers.
use Rattle.reg_tables_schema.proofs.Words.{◌≡◌, ℕ, ◌+◌, pos, negsuc, Bool, List, [], ◌∷◌, map, false, None, Less, Equal, Greater, get_or}
use Rattle.reg_tables_schema.proofs.Words.{refl, sym, ap, subst, ◌∙◌, length-map, flat_map, filter, IsPermutation, IsSorted, is_lt}
use Rattle.reg_tables_schema.proofs.Words.{Ordering, IsSorted-from_map, Null, Int, Row, Trees, Term, Env, lit, eval_all, Query, Join, inner}
use Rattle.reg_tables_schema.proofs.Words.{end, IsSureAnswer, IsAnswer, matches, output, output_cmp, Output, Key, IsInOrder}
use Rattle.std.proofs.Math.ListN.{set, get_or-map}
use Rattle.std.proofs.Math.Seq.{map-set}
use Rattle.std.specs.List.{swap}
use Rattle.std.specs.List.Sorted.{SwapsInRange, apply_swaps}
use Rattle.std.specs.Ordering.{ordering_then}
use Rattle.reg_tables_schema.proofs.Queries.{maps_twice}

abbrev pub in_order : Join → List Term → List Term → List (Term × Key) → Query
in_order from filter project order =
    record { from = from; filter = filter; group = None; project = project; distinct = false; collations = []; order = order; limit = lit (Int (negsuc 0)); offset = lit (Int (pos 0)) }

-- the matches in an order in which their keys rise, each as it is shown
pub record Rises (q : Query) (matched : List Env) (rows : List Row) : Type 0 where
  pub ordered : List Output
  pub same : IsPermutation (map (output q) matched) ordered
  pub sorted : IsSorted (output_cmp q) ordered
  pub shown : rows ≡ map (λ (o : Output). o.1) ordered

pub rises : (db : Trees) (params : Row) (from : Join) (filter project : List Term) (order : List (Term × Key)) (rows : List Row) → IsSureAnswer (in_order from filter project order) db params rows
    → Rises (in_order from filter project order) (matches db filter from (params ∷ [])) rows
rises db params from filter project order rows h =
    let q = in_order from filter project order in
    let a : IsAnswer q db params rows = h Null in
    let kept : a.kept ≡ map (output q) (matches db filter from (params ∷ [])) = a.distinct ∙ ap (map (output q)) a.grouped in
    record { ordered = a.ordered; same = subst (λ xs. IsPermutation xs a.ordered) kept a.same; sorted = a.sorted; shown = a.shown }

swap_map : {X Y : Type 0} (f : X → Y) (xs : List X) (i j : ℕ) → swap (map f xs) i j ≡ map f (swap xs i j)
swap_map f [] i j = refl
swap_map f (d ∷ ys) i j =
    let l = d ∷ ys in
    let x = get_or l j d in
    let y = get_or l i d in
    let out = map-set f (set l i x) j y ∙ ap (λ m. set m j (f y)) (map-set f l i x) in
    rw (get_or-map f l j d, get_or-map f l i d) (sym out)

swaps_map : {X Y : Type 0} (f : X → Y) (xs : List X) (moves : List (ℕ × ℕ)) → apply_swaps (map f xs) moves ≡ map f (apply_swaps xs moves)
swaps_map f xs [] = refl
swaps_map f xs (p ∷ ps) = ap (λ l. swap l p.0 p.1) (swaps_map f xs ps) ∙ swap_map f (apply_swaps xs ps) p.0 p.1

-- what has the images in another order, is the images of the elements in another order
pub unmapped : {X Y : Type 0} (f : X → Y) (xs : List X) (zs : List Y) → IsPermutation (map f xs) zs → (ys : List X) × IsPermutation xs ys × (zs ≡ map f ys)
unmapped f xs zs h =
    (apply_swaps xs h.moves, record { moves = h.moves; below = subst (λ n. SwapsInRange n h.moves) (length-map xs f) h.below; is = refl }, h.is ∙ swaps_map f xs h.moves)

pub then_equal : (o : Ordering) → ordering_then o Equal ≡ o
then_equal Less = refl
then_equal Equal = refl
then_equal Greater = refl

pub singles : {A B : Type 0} (f : A → B) (xs : List A) → flat_map (λ x. f x ∷ []) xs ≡ map f xs
singles f [] = refl
singles f (x ∷ xs) = ap (λ ys. f x ∷ ys) (singles f xs)

-- a query on one table, whose test and whose order are told in plain words
pub in_order_of : (db : Trees) (params : Row) (tree : ℕ) (filters project : List Term) (order : List (Term × Key)) (rows : List Row) (test : Row → Bool) (cmp : Row → Row → Ordering)
    → matches db filters (inner tree end) (params ∷ []) ≡ map (λ r. params ∷ r ∷ []) (filter test (db tree))
    → ((a b : Row) → output_cmp (in_order (inner tree end) filters project order) (output (in_order (inner tree end) filters project order) (params ∷ a ∷ [])) (output (in_order (inner tree end) filters project order) (params ∷ b ∷ [])) ≡ cmp a b)
    → IsSureAnswer (in_order (inner tree end) filters project order) db params rows → IsInOrder cmp (filter test (db tree)) (λ r. eval_all project (params ∷ r ∷ [])) rows
in_order_of db params tree filters project order rows test cmp met same h =
    let q = in_order (inner tree end) filters project order in
    let kept = filter test (db tree) in
    let env = λ (r : Row). params ∷ r ∷ [] in
    let out = λ (r : Row). output q (env r) in
    let up = rises db params (inner tree end) filters project order rows h in
    let images = ap (map (output q)) met ∙ maps_twice env (output q) kept in
    let back = unmapped out kept up.ordered (subst (λ xs. IsPermutation xs up.ordered) images up.same) in
    let sorted = IsSorted-from_map (output_cmp q) out back.0 (subst (IsSorted (output_cmp q)) back.2 up.sorted) in
    record {
      ordered = back.0;
      same = back.1;
      sorted = λ k d low high. ap is_lt (sym (same (get_or back.0 (k + 1) d) (get_or back.0 k d))) ∙ sorted k d low high;
      shown = up.shown ∙ ap (map (λ (o : Output). o.1)) back.2 ∙ maps_twice out (λ (o : Output). o.1) back.0;
    }
