-- The crates that the text answers are those with the needle in their canonical texts that the
-- account does not see.
use Rattle.reg_search.proofs.Words.{◌≡◌, ◌==◌, ℕ, pos, Bool, true, false, ◌&&◌, ◌||◌, not, cond, List, [], ◌∷◌, map, refl, sym, ap, ◌∙◌}
use Rattle.reg_search.proofs.Words.{filter, list_any, IsPermutation, eqb-true, IsPermutation-trans, list_any-IsPermutation, Binary, is_true}
use Rattle.reg_search.proofs.Words.{Row, column, overlay, IsSureAnswer, inner, Env, eval_all, Trees, Blob, Int, Text, equal, Instr}
use Rattle.reg_search.proofs.Words.{map-flat_map, canon, Registry, occurs, any_filter, any_same, list_any_map, IsIn, each_in, in_each}
use Rattle.reg_search.proofs.Words.{and_true, answers, number_columns, StandsSoundBy, IdAssignment, StoredCrate, row_of_crate, Hides, is_unseen, each_gate}
use Rattle.std.specs.FinSet as finset
use Rattle.std.proofs.lemmas.List.Sorted.{IsPermutation-map}
use Rattle.sqlite.specs.Ops.{binary}
use Rattle.sqlite.specs.Query.{matches}
use Rattle.reg_model.specs.Registry.{Text as Words}
use Rattle.reg_tables_schema.specs.Tests.{shows}
use Rattle.reg_search.proofs.Among.{and_false}
use Rattle.reg_search.proofs.CrateFacts.{alone, named, paired_is, same_id, seen_is}
use Rattle.reg_search.proofs.Instr.{canon_begins, instr_is}
use Rattle.reg_search.proofs.Joined.{gated, has_needle, is_pair, slots}
use Rattle.reg_search.proofs.Lists.{any_each, any_gated, any_kept}
use Rattle.reg_search.proofs.Texts.{counts, hidden_query, of_needle}

-- a test that reads one number is asked of that number
at_number : (p : ℕ → Bool) (m : ℕ) (ns : List ℕ) → list_any (λ n. p n && (n == m)) ns ≡ (p m && list_any (λ n. n == m) ns)
at_number p m ns = any_same _ _ (λ n. split n (n == m) refl) ns ∙ any_gated (p m) (λ n. n == m) ns
  where
    split : (n : ℕ) (b : Bool) → (n == m) ≡ b → (p n && b) ≡ (p m && b)
    split n true e = ap (λ k. p k && true) (eqb-true n m e)
    split n false e = and_false (p n) ∙ sym (and_false (p m))

or_false : (b : Bool) → (b || false) ≡ b
or_false true = refl
or_false false = refl

unseen : (there restricted owns reads : Bool) → ((there && (not owns && not reads)) && restricted) ≡ (there && not (not restricted || (owns || reads)))
unseen false restricted owns reads = refl
unseen true true true true = refl
unseen true true true false = refl
unseen true true false true = refl
unseen true true false false = refl
unseen true false true true = refl
unseen true false true false = refl
unseen true false false true = refl
unseen true false false false = refl

module _ (db : Trees) (params : Row) where
  -- the account neither owns nor reads the crate of a row
  abbrev is_strange : Row → Bool
  is_strange r = not (list_any (is_pair db params r) (db 9)) && not (list_any (is_pair db params r) (db 18))

  -- this is the crate of the row, and is hidden
  abbrev is_hidden : Row → Row → Bool
  is_hidden r c = equal Binary (column c 0) (column r 0) && (has_needle params c && is_strange r)

  abbrev projected : List Env → List Row
  projected = map (eval_all hidden_query.project)

  come : (r c : Row) → projected (matches db of_needle counts (params ∷ r ∷ c ∷ [])) ≡ cond (is_hidden r c) ((column r 0 ∷ []) ∷ []) []
  come r c =
      let a = list_any (is_pair db params r) (db 9) in
      let b = list_any (is_pair db params r) (db 18) in
      ap projected (gated db params r c a b refl refl) ∙ split a b (is_hidden r c)
    where
      split : (a b t : Bool) → projected (cond t (slots params r c a b ∷ []) []) ≡ cond t ((column r 0 ∷ []) ∷ []) []
      split a b true = refl
      split a b false = refl

  all_of : (r : Row) → projected (matches db of_needle (inner 7 counts) (params ∷ r ∷ [])) ≡ map (λ c. column r 0 ∷ []) (filter (is_hidden r) (db 7))
  all_of r =
      map-flat_map (eval_all hidden_query.project) (λ c. matches db of_needle counts (params ∷ r ∷ c ∷ [])) (db 7)
      ∙ each_gate (λ c. projected (matches db of_needle counts (params ∷ r ∷ c ∷ []))) (is_hidden r) (λ c. column r 0 ∷ []) (db 7) (λ c i. come r c)

  -- the rows that are answered
  abbrev answered : List Row
  answered = projected (matches db of_needle (inner 17 (inner 7 counts)) (params ∷ []))

  any_answered : (test : Row → Bool) → list_any test answered ≡ list_any (λ r. list_any (λ c. is_hidden r c && test (column r 0 ∷ [])) (db 7)) (db 17)
  any_answered test =
      ap (list_any test) (map-flat_map (eval_all hidden_query.project) (λ r. matches db of_needle (inner 7 counts) (params ∷ r ∷ [])) (db 17))
      ∙ any_each test (λ r. projected (matches db of_needle (inner 7 counts) (params ∷ r ∷ []))) (db 17)
      ∙ any_same _ _ (λ r. ap (list_any test) (all_of r) ∙ list_any_map test (λ c. column r 0 ∷ []) (filter (is_hidden r) (db 7)) ∙ any_filter (is_hidden r) (λ c. test (column r 0 ∷ [])) (db 7)) (db 17)

module _ (ids : IdAssignment) (s : Registry) (db : Trees) (h : StandsSoundBy ids s db) (viewer : ℕ) (needle : Words) (list : List ℕ) where
  abbrev params : Row
  params = Int (pos viewer) ∷ Blob needle ∷ []

  abbrev strange : ℕ → Bool
  strange n = is_strange db params (number_columns n)

  abbrev has : StoredCrate → Bool
  has c = is_true (binary Instr (Text (canon c.1)) (Blob needle))

  -- the crate with this number has the needle in its text, and the account neither owns nor reads it
  abbrev hides_number : ℕ → Bool
  hides_number n = list_any (λ c. (c.0 == n) && (has c && strange n)) ids.crates

  module _ (x : StoredCrate) (i : IsIn x ids.crates) where
    abbrev of_crate : Row → Bool
    of_crate r = equal Binary (column r 0) (Int (pos x.0))

    -- a row of the restricted crates, asked of the crates and not of their rows
    abbrev is_row : Row → Bool
    is_row r = list_any (λ c. is_hidden db params r (row_of_crate c) && of_crate r) ids.crates

    by_crates : (r : Row) → list_any (λ c. is_hidden db params r c && of_crate r) (db 7) ≡ is_row r
    by_crates r =
        let test = λ (c : Row). is_hidden db params r c && of_crate r in
        sym (list_any-IsPermutation test (map row_of_crate ids.crates) (db 7) h.stands.crates.crate_rows) ∙ list_any_map test row_of_crate ids.crates

    numbered : (n : ℕ) → is_row (number_columns n) ≡ (hides_number n && (n == x.0))
    numbered n =
        any_same _ _ (λ c k. (same_id c.0 n k && (has c && strange n)) && same_id n x.0 k) ids.crates
        ∙ any_kept (λ c. (c.0 == n) && (has c && strange n)) (n == x.0) ids.crates

    -- the rows of the table, by the numbers that they stand for
    marked : list_any (λ r. list_any (λ c. is_hidden db params r c && of_crate r) (db 7)) (db 17) ≡ (hides_number x.0 && finset.contains s.restricted (canon x.1))
    marked =
        let stand = h.stands.restricted in
        let key_of = shows (0 ∷ []) in
        any_same _ is_row by_crates (db 17)
        ∙ sym (list_any_map is_row key_of (db 17)) ∙ sym (list_any-IsPermutation is_row (map number_columns stand.marks) (map key_of (db 17)) stand.are)
        ∙ list_any_map is_row number_columns stand.marks ∙ any_same _ _ numbered stand.marks
        ∙ at_number hides_number x.0 stand.marks
        ∙ ap (λ b. hides_number x.0 && b) (sym (each_in (λ c. finset.contains s.restricted (canon c.1) ≡ list_any (λ n. n == c.0) stand.marks) ids.crates x stand.same i))

    own : hides_number x.0 ≡ (has x && strange x.0)
    own =
        let test = λ (c : StoredCrate). has c && strange x.0 in
        sym (any_filter (λ c. c.0 == x.0) test ids.crates) ∙ ap (list_any test) (alone ids s db h x i) ∙ or_false (test x)

    there : has x ≡ occurs needle (canon x.1)
    there = instr_is needle (canon x.1) (canon_begins x.1 (named ids s db h x i))

    owned : list_any (is_pair db params (number_columns x.0)) (db 9) ≡ finset.contains s.owners (canon x.1, viewer)
    owned = any_same _ _ (λ o. ap (λ b. equal Binary (column o 1) (Int (pos x.0)) && b) (and_true _)) (db 9) ∙ paired_is ids s db h x i 9 s.owners h.stands.owners viewer

    read : list_any (is_pair db params (number_columns x.0)) (db 18) ≡ finset.contains s.readers (canon x.1, viewer)
    read = any_same _ _ (λ o. ap (λ b. equal Binary (column o 1) (Int (pos x.0)) && b) (and_true _)) (db 18) ∙ paired_is ids s db h x i 18 s.readers h.stands.readers viewer

    hidden : IsPermutation (answered db params) (map number_columns list) → list_any (λ n. n == x.0) list ≡ is_unseen viewer needle s x
    hidden same =
        sym (list_any_map of_crate number_columns list ∙ any_same _ _ (λ n. same_id n x.0) list)
        ∙ sym (list_any-IsPermutation of_crate (answered db params) (map number_columns list) same)
        ∙ any_answered db params of_crate ∙ marked
        ∙ ap (λ b. b && finset.contains s.restricted (canon x.1)) own
        ∙ (λ k. (there k && (not (owned k) && not (read k))) && finset.contains s.restricted (canon x.1))
        ∙ unseen (occurs needle (canon x.1)) (finset.contains s.restricted (canon x.1)) (finset.contains s.owners (canon x.1, viewer)) (finset.contains s.readers (canon x.1, viewer))
        ∙ ap (λ b. occurs needle (canon x.1) && not b) (sym (seen_is ids s db h x i viewer))

  -- what is read, in another order
  pub hides : (read : List ℕ) → IsPermutation read list → IsSureAnswer hidden_query (overlay db []) params (map number_columns read) → Hides viewer needle ids s list
  hides read turned answer =
      let rows = answers (overlay db []) params (inner 17 (inner 7 counts)) of_needle hidden_query.project (map number_columns read) answer in
      let same = IsPermutation-trans (answered db params) (map number_columns read) (map number_columns list) rows (IsPermutation-map number_columns read list turned) in
      in_each _ ids.crates (λ x i. hidden x i same)
