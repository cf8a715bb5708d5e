-- The scopes of tokens, by token and place.
use Rattle.reg_tables_represent.proofs.Words.{◌≡◌, ◌==◌, ℕ, ◌+◌, ◌<◌, pos, Bool, true, false, cond, Some, List, [], ◌∷◌, ◌++◌, map, Less}
use Rattle.reg_tables_represent.proofs.Words.{refl, sym, subst, ap, ap₂, ◌∙◌, arith, filter-append, is_eq, ordering_then, IsTotalOrder}
use Rattle.reg_tables_represent.proofs.Words.{tied_itself, value_cmp_total, Text, Token, with_id, IsInOrder, by_column, by_columns, scope_of}
use Rattle.reg_tables_represent.proofs.Words.{scopes_of, StandTokens}
use Rattle.reg_tables_represent.proofs.Common.{AllByRecursion, append-nil, drop, enumerate_from, filter, filter_map, flat_map, Int, is_number, IsAscending, IsPermutation, IsPermutation-filter, Row, same_filter, shows, Trees, value_cmp}
use Rattle.reg_tables_represent.proofs.Numbered.{one_at}
use Rattle.reg_tables_represent.proofs.Standing.{same_number}
use Rattle.std.proofs.lemmas.Cmp.{then_total}
use Rattle.sqlite_keyed.proofs.ListLemmas.{all-append}
use Rattle.reg_tables_represent.proofs.Dropped.{dropped_in_order, by_first_and_second, by_second}
use Rattle.reg_tables_represent.proofs.Selected.{column_total, number_below}
use Rattle.reg_tables_represent.proofs.Rowids.{first_column}

abbrev Below : Row → Row → Type 0
Below a b = by_columns 0 1 a b ≡ Less

joined : (R : Row → Row → Type 0) (xs ys : List Row) → IsAscending R xs → IsAscending R ys → AllByRecursion (λ x. AllByRecursion (R x) ys) xs → IsAscending R (xs ++ ys)
joined R [] ys up above h = above
joined R (x ∷ xs) ys up above h = (all-append (R x) xs ys up.0 h.0, joined R xs ys up.1 above h.1)

-- of one token, places rise
same_token : (t k j : ℕ) (p q : Text) → k < j → Below (scope_of t (k, p)) (scope_of t (j, q))
same_token t k j p q h = ap (λ o. ordering_then o (value_cmp (Int (pos k)) (Int (pos j)))) (tied_itself value_cmp_total (Int (pos t))) ∙ number_below k j h

places_above : (t k j : ℕ) (p : Text) (ps : List Text) → k < j → AllByRecursion (Below (scope_of t (k, p))) (map (scope_of t) (enumerate_from j ps))
places_above t k j p [] h = tt
places_above t k j p (q ∷ ps) h = (same_token t k j p q h, places_above t k (j + 1) p ps (omega (arith, h)))

of_token : (t k : ℕ) (ps : List Text) → IsAscending Below (map (scope_of t) (enumerate_from k ps))
of_token t k [] = tt
of_token t k (p ∷ ps) = (places_above t k (k + 1) p ps (omega arith), of_token t (k + 1) ps)

-- and later tokens have greater ids
other_token : (t u k j : ℕ) (p q : Text) → t < u → Below (scope_of t (k, p)) (scope_of u (j, q))
other_token t u k j p q h = ap (λ o. ordering_then o (value_cmp (Int (pos k)) (Int (pos j)))) (number_below t u h)

scopes_above : (t u k j : ℕ) (p : Text) (ps : List Text) → t < u → AllByRecursion (Below (scope_of t (k, p))) (map (scope_of u) (enumerate_from j ps))
scopes_above t u k j p [] h = tt
scopes_above t u k j p (q ∷ ps) h = (other_token t u k j p q h, scopes_above t u k (j + 1) p ps h)

tokens_above : (t n k : ℕ) (p : Text) (ts : List Token) → t < n → AllByRecursion (Below (scope_of t (k, p))) (flat_map scopes_of (enumerate_from n ts))
tokens_above t n k p [] h = tt
tokens_above t n k p (u ∷ ts) h = all-append (Below (scope_of t (k, p))) (scopes_of (n, u)) (flat_map scopes_of (enumerate_from (n + 1) ts)) (scopes_above t n k 0 p u.patterns h) (tokens_above t (n + 1) k p ts (omega (arith, h)))

each_above : (t n k : ℕ) (ps : List Text) (ts : List Token) → t < n → AllByRecursion (λ x. AllByRecursion (Below x) (flat_map scopes_of (enumerate_from n ts))) (map (scope_of t) (enumerate_from k ps))
each_above t n k [] ts h = tt
each_above t n k (p ∷ ps) ts h = (tokens_above t n k p ts h, each_above t n (k + 1) ps ts h)

scopes_rise : (n : ℕ) (ts : List Token) → IsAscending Below (flat_map scopes_of (enumerate_from n ts))
scopes_rise n [] = tt
scopes_rise n (t ∷ ts) = joined Below (scopes_of (n, t)) (flat_map scopes_of (enumerate_from (n + 1) ts)) (of_token n 0 t.patterns) (scopes_rise (n + 1) ts) (each_above n (n + 1) 0 t.patterns ts (omega arith))

abbrev IsWhole : Row → Type 0
IsWhole r = shows (0 ∷ 1 ∷ 2 ∷ 3 ∷ 4 ∷ []) r ≡ r

pub whole_scopes : (t k : ℕ) (ps : List Text) → AllByRecursion IsWhole (map (scope_of t) (enumerate_from k ps))
whole_scopes t k [] = tt
whole_scopes t k (p ∷ ps) = (refl, whole_scopes t (k + 1) ps)

all_whole : (n : ℕ) (ts : List Token) → AllByRecursion IsWhole (flat_map scopes_of (enumerate_from n ts))
all_whole n [] = tt
all_whole n (t ∷ ts) = all-append IsWhole (scopes_of (n, t)) (flat_map scopes_of (enumerate_from (n + 1) ts)) (whole_scopes n 0 t.patterns) (all_whole (n + 1) ts)

by_both_total : IsTotalOrder (by_columns 0 1)
by_both_total = then_total (column_total 0) (column_total 1)

pub lists_scopes : (tokens : List Token) (db : Trees) → StandTokens tokens db → (out : List Row) → IsInOrder (by_columns 1 2) (db 5) (shows (1 ∷ 2 ∷ 3 ∷ 4 ∷ 5 ∷ [])) out → out ≡ flat_map scopes_of (enumerate_from 1 tokens)
lists_scopes tokens db stands out h =
    dropped_in_order (by_columns 1 2) (by_columns 0 1) by_first_and_second by_both_total (flat_map scopes_of (enumerate_from 1 tokens)) (db 5) out stands.scopes (scopes_rise 1 tokens) (all_whole 1 tokens) h

-- the scopes of one token
module _ (id : ℕ) where
  abbrev is_its : Row → Bool
  is_its r = is_number 0 id r

  its_scopes : (b : Bool) (n k : ℕ) (ps : List Text) → (n == id) ≡ b → filter is_its (map (scope_of n) (enumerate_from k ps)) ≡ cond b (map (scope_of n) (enumerate_from k ps)) []
  its_scopes true n k [] h = refl
  its_scopes false n k [] h = refl
  its_scopes true n k (p ∷ ps) h = rw (same_number n id ∙ h) (ap (λ rs. scope_of n (k, p) ∷ rs) (its_scopes true n (k + 1) ps h))
  its_scopes false n k (p ∷ ps) h = rw (same_number n id ∙ h) (its_scopes false n (k + 1) ps h)

  its_own : (es : List (ℕ × Token)) → filter is_its (flat_map scopes_of es) ≡ flat_map scopes_of (filter (λ e. e.0 == id) es)
  its_own [] = refl
  its_own (e ∷ es) = filter-append is_its (scopes_of e) (flat_map scopes_of es) ∙ ap₂ ◌++◌ (its_scopes (e.0 == id) e.0 0 e.1.patterns refl) (its_own es) ∙ joins (e.0 == id)
    where
      joins : (b : Bool) → cond b (scopes_of e) [] ++ flat_map scopes_of (filter (λ e. e.0 == id) es) ≡ flat_map scopes_of (cond b (e ∷ filter (λ e. e.0 == id) es) (filter (λ e. e.0 == id) es))
      joins true = refl
      joins false = refl

  step_above : (k j : ℕ) (p : Text) (ps : List Text) → k < j → AllByRecursion (λ b. by_column 1 (scope_of id (k, p)) b ≡ Less) (map (scope_of id) (enumerate_from j ps))
  step_above k j p [] h = tt
  step_above k j p (q ∷ ps) h = (number_below k j h, step_above k (j + 1) p ps (omega (arith, h)))

  steps_rise : (k : ℕ) (ps : List Text) → IsAscending (λ a b. by_column 1 a b ≡ Less) (map (scope_of id) (enumerate_from k ps))
  steps_rise k [] = tt
  steps_rise k (p ∷ ps) = (step_above k (k + 1) p ps (omega arith), steps_rise (k + 1) ps)

  pub lists_its_scopes : (tokens : List Token) (db : Trees) → StandTokens tokens db → (t : Token) → with_id tokens id ≡ Some t → (out : List Row)
      → IsInOrder (by_column 2) (filter (is_number 1 id) (db 5)) (shows (1 ∷ 2 ∷ 3 ∷ 4 ∷ 5 ∷ [])) out → out ≡ scopes_of (id, t)
  lists_its_scopes tokens db stands t found out h =
      let all = flat_map scopes_of (enumerate_from 1 tokens) in
      let these : filter is_its all ≡ scopes_of (id, t) = its_own (enumerate_from 1 tokens) ∙ ap (flat_map scopes_of) (one_at id tokens t found) ∙ append-nil (scopes_of (id, t)) in
      let rows : filter is_its (map (λ r. drop 1 r) (db 5)) ≡ map (λ r. drop 1 r) (filter (is_number 1 id) (db 5)) =
      filter_map (λ r. drop 1 r) is_its (db 5) ∙ ap (map (λ r. drop 1 r)) (same_filter (λ r. is_its (drop 1 r)) (is_number 1 id) (λ r. ap (λ v. is_eq (value_cmp v (Int (pos id)))) (sym (first_column r))) (db 5)) in
      let moved = IsPermutation-filter is_its all (map (λ r. drop 1 r) (db 5)) stands.scopes in
      let stand = subst (λ rs. IsPermutation rs (map (λ r. drop 1 r) (filter (is_number 1 id) (db 5)))) these (subst (IsPermutation (filter is_its all)) rows moved) in
      dropped_in_order (by_column 2) (by_column 1) by_second (column_total 1) (scopes_of (id, t)) (filter (is_number 1 id) (db 5)) out stand (steps_rise 0 t.patterns) (whole_scopes id 0 t.patterns) h
