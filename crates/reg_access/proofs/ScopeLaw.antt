-- Where the rows stand for a registry, a scope of a token comes back where a pattern of it covers the name.
use Rattle.reg_access.proofs.Words.{◌≡◌, ◌==◌, ℕ, zero, suc, ◌+◌, ◌-◌, pos, List, [], ◌∷◌, map, Bool, true, false, ◌&&◌, ◌||◌, Some, refl}
use Rattle.reg_access.proofs.Words.{sym, ap, ap₂, ◌∙◌, drop, enumerate_from, filter, flat_map, list_all, list_any, is_lt, and_parts}
use Rattle.reg_access.proofs.Words.{list_any-IsPermutation, Int, Text, Binary, Row, column, Trees, equal, canon, is_name, covers, with_id}
use Rattle.reg_access.proofs.Words.{Sound, is_token, any_filter, any_same, list_any_map, not_true, true_not_false, equals_int, same_filter}
use Rattle.reg_access.proofs.Words.{IdAssignment, StandsBy, row_of_token, shows, at_place, one_at, one_row, same_number, is_at_most, is_below}
use Rattle.reg_access.proofs.Words.{is_scope_over, is_there, scopes_over}
use Rattle.std.proofs.Common.{slice_get}
use Rattle.std.specs.Prelude.{length, is_some, nat_lt}
use Rattle.std.specs.Ordering.{is_le}
use Rattle.std.proofs.lemmas.List.{append-nil}
use Rattle.std.proofs.lemmas.List.Folds.{list_any-append}
use Rattle.sqlite.specs.Ops.{binary, is_true, from_truth}
use Rattle.sqlite_value.proofs.OrderLemmas.{value_cmp-Text}
use Rattle.reg_names.specs.Patterns.{is_pattern}
use Rattle.reg_names.specs.Ranges.{byte_order, is_within, range_of}
use Rattle.reg_names.proofs.PatternFacts.{covers-Decides}
use Rattle.reg_names.proofs.RangeFacts.{within-Covers}
use Rattle.reg_model.specs.Registry as model
use Rattle.reg_model.specs.Sound.{has_some}
use Rattle.reg_tables_represent.specs.Stands.{scope_of, scopes_of}
use Rattle.reg_access.proofs.Answered.{there_filtered}
use Rattle.reg_access.proofs.Somes.{same_some}

truth_is : (b : Bool) → is_true (from_truth (Some b)) ≡ b
truth_is true = refl
truth_is false = refl

-- SQL's <= and < of two texts
pub text_at_most : (t u : List ℕ) → is_at_most (Text t) (Text u) ≡ is_le (byte_order t u)
unfolding binary
text_at_most t u = truth_is _ ∙ ap is_le (value_cmp-Text t u)

pub text_below : (t u : List ℕ) → is_below (Text t) (Text u) ≡ is_lt (byte_order t u)
unfolding binary
text_below t u = truth_is _ ∙ ap is_lt (value_cmp-Text t u)

same_tests : (a b : Bool) → (a ≡ true → b ≡ true) → (b ≡ true → a ≡ true) → a ≡ b
same_tests true b h k = sym (h refl)
same_tests false b h k = sym (not_true b (λ e. true_not_false false (k e) refl))

-- the range is the pattern
pub within_covers : (p n : List ℕ) → is_pattern p ≡ true → is_name n ≡ true → is_within (range_of p) (canon n) ≡ covers p n
within_covers p n pattern name =
    let range = within-Covers p n pattern name in
    let meaning = covers-Decides p n pattern in
    same_tests _ _ (λ h. meaning.1 (range.0 h)) (λ h. range.1 (meaning.0 h))

module _ (id : ℕ) (c : List ℕ) where
  abbrev is_over : Row → Bool
  is_over r = equal Binary (column r 0) (Int (pos id)) && (is_at_most (column r 3) (Text c) && is_below (Text c) (column r 4))

  abbrev holds_it : List ℕ → Bool
  holds_it p = is_within (range_of p) c

  of_dropped : (t : model.Token) (r : Row) → is_scope_over c (row_of_token (id, t)) r ≡ is_over (drop 1 r)
  of_dropped t [] = refl
  of_dropped t (v ∷ r) = refl

  at_scope : (n k : ℕ) (p : List ℕ) → is_over (scope_of n (k, p)) ≡ ((n == id) && holds_it p)
  at_scope n k p = ap₂ ◌&&◌ (equals_int (Int (pos n)) (pos id) ∙ same_number n id) (ap₂ ◌&&◌ (text_at_most (range_of p).low c) (text_below c (range_of p).high))

  none_at : (b : Bool) → (b && false) ≡ false
  none_at true = refl
  none_at false = refl

  either_at : (b x y : Bool) → ((b && x) || (b && y)) ≡ (b && (x || y))
  either_at true x y = refl
  either_at false x y = refl

  at_token : (n k : ℕ) (ps : List (List ℕ)) → list_any is_over (map (scope_of n) (enumerate_from k ps)) ≡ ((n == id) && list_any holds_it ps)
  at_token n k [] = sym (none_at (n == id))
  at_token n k (p ∷ ps) = ap₂ ◌||◌ (at_scope n k p) (at_token n (k + 1) ps) ∙ either_at (n == id) (holds_it p) (list_any holds_it ps)

  at_tokens : (es : List (ℕ × model.Token)) → list_any is_over (flat_map scopes_of es) ≡ list_any (λ e. (e.0 == id) && list_any holds_it e.1.patterns) es
  at_tokens [] = refl
  at_tokens (e ∷ es) = list_any-append is_over (scopes_of e) (flat_map scopes_of es) ∙ ap₂ ◌||◌ (at_token e.0 0 e.1.patterns) (at_tokens es)

pub all_at : {X : Type 0} (p : X → Bool) (xs : List X) (i : ℕ) (x : X) → list_all p xs ≡ true → slice_get xs i ≡ Some x → p x ≡ true
all_at p [] i x h at = absurd cc
all_at p (y ∷ ys) zero x h at = ap p (sym (same_some at)) ∙ (and_parts (p y) (list_all p ys) h).0
all_at p (y ∷ ys) (suc i) x h at = all_at p ys i x (and_parts (p y) (list_all p ys) h).1 at

or_none : (b : Bool) → (b || false) ≡ b
or_none true = refl
or_none false = refl

covered_alike : (n : List ℕ) → is_name n ≡ true → (ps : List (List ℕ)) → list_all is_pattern ps ≡ true → list_any (λ p. is_within (range_of p) (canon n)) ps ≡ list_any (λ p. covers p n) ps
covered_alike n name [] h = refl
covered_alike n name (p ∷ ps) h = let both = and_parts (is_pattern p) (list_all is_pattern ps) h in ap₂ ◌||◌ (within_covers p n both.0 name) (covered_alike n name ps both.1)

module _ (ids : IdAssignment) (s : model.Registry) (db : Trees) (stands : StandsBy ids s db) (id : ℕ) (t : model.Token) (found : with_id s.tokens id ≡ Some t) where
  pub the_token : filter (λ r. equal Binary (column r 0) (Int (pos id))) (db 3) ≡ row_of_token (id, t) ∷ []
  the_token =
      one_row row_of_token (λ r. equal Binary (column r 0) (Int (pos id))) (id, t) (enumerate_from 1 s.tokens) (db 3) stands.tokens.rows
      (same_filter _ _ (λ e. equals_int (Int (pos e.0)) (pos id) ∙ same_number e.0 id) (enumerate_from 1 s.tokens) ∙ one_at id s.tokens t found)

  pub over_alike : (c : List ℕ) → is_there (scopes_over (Int (pos id)) c db) ≡ list_any (λ p. is_within (range_of p) c) t.patterns
  over_alike c =
      let all = flat_map scopes_of (enumerate_from 1 s.tokens) in
      let q = is_scope_over c (row_of_token (id, t)) in
      let joined : scopes_over (Int (pos id)) c db ≡ map (shows (2 ∷ [])) (filter q (db 5)) =
      ap (flat_map (λ k. map (shows (2 ∷ [])) (filter (is_scope_over c k) (db 5)))) the_token ∙ append-nil (map (shows (2 ∷ [])) (filter q (db 5))) in
      let moved = any_same q (λ r. is_over id c (drop 1 r)) (of_dropped id c t) (db 5) ∙ sym (list_any_map (is_over id c) (λ r. drop 1 r) (db 5)) ∙ sym (list_any-IsPermutation (is_over id c) all (map (λ r. drop 1 r) (db 5)) stands.tokens.scopes) in
      let its = at_tokens id c (enumerate_from 1 s.tokens) ∙ sym (any_filter (λ e. e.0 == id) (λ e. list_any (holds_it id c) e.1.patterns) (enumerate_from 1 s.tokens)) in
      ap is_there joined ∙ there_filtered (shows (2 ∷ [])) q (db 5) ∙ moved ∙ its ∙ ap (list_any (λ e. list_any (holds_it id c) e.1.patterns)) (one_at id s.tokens t found) ∙ or_none _

  patterns_are : is_token s.accounts t ≡ true → list_all is_pattern t.patterns ≡ true
  patterns_are h =
      let rest = and_parts (length t.digest == 32 && is_some (with_id s.accounts t.account)) (has_some t.endpoints && (nat_lt 0 (length t.patterns) && list_all is_pattern t.patterns)) h in
      (and_parts (nat_lt 0 (length t.patterns)) _ (and_parts (has_some t.endpoints) _ rest.1).1).1

  pub covers_alike : Sound s → (n : List ℕ) → is_name n ≡ true → is_there (scopes_over (Int (pos id)) (canon n) db) ≡ list_any (λ p. covers p n) t.patterns
  covers_alike sound n name = over_alike (canon n) ∙ covered_alike n name t.patterns (patterns_are (all_at (is_token s.accounts) s.tokens (id - 1) t sound.tokens (at_place id s.tokens t found).1))
