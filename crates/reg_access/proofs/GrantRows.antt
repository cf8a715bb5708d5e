-- The text on the tokens that may act answers, where the rows stand for a registry, just these tokens.
use Rattle.reg_access.proofs.Words.{◌≡◌, ◌==◌, ℕ, ◌+◌, ◌-◌, pos, Bool, true, false, ◌&&◌, cond, List, [], ◌∷◌, map, length, Option, Some}
use Rattle.reg_access.proofs.Words.{None, get_or, inl, inr, refl, sym, ap, subst, ◌∙◌, append-nil, unwrap_or, enumerate_from, filter}
use Rattle.reg_access.proofs.Words.{flat_map, list_all, list_any, option_map, is_lt, on, and_parts, eq-eqb}
use Rattle.reg_access.proofs.Words.{Binary, Row, column, overlay, IsSureAnswer, end, matches, or_nulls, Trees, Int, Null, Text, equal}
use Rattle.reg_access.proofs.Words.{canon, is_name, covers, Account, Registry, Token, is_enabled, with_id, is_token}
use Rattle.reg_access.proofs.Words.{any_same, IsIn, one_row, and_true, equals_int, maps_twice, same_filter, sql_bool, shows, at_place, one_at}
use Rattle.reg_access.proofs.Words.{same_number, StandsSoundBy, IdAssignment, row_of_account, row_of_token, is_candidate, row_of_candidate, is_at_most}
use Rattle.reg_access.proofs.Words.{is_below, is_scope_over, is_there, scopes_over}
use Rattle.std.proofs.Common.{Ordering, Less, Equal, Greater}
use Rattle.std.specs.Prelude.{is_some}
use Rattle.std.specs.List.Sorted.{IsSorted}
use Rattle.std.specs.Ordering.{ordering_then}
use Rattle.std.proofs.lemmas.Bool.{and_from}
use Rattle.std.proofs.lemmas.Cmp.{on_total}
use Rattle.std.proofs.lemmas.List.Sorted.{IsPermutation-sym}
use Rattle.sqlite.specs.Ops.{binary}
use Rattle.sqlite.specs.Order.{value_cmp}
use Rattle.sqlite.specs.Query.{IsAnswer, Output, output}
use Rattle.sqlite.specs.Term.{Env, holds}
use Rattle.sqlite_keyed.proofs.ListLemmas.{ascending-map, ascending-filter, ascending_from_map}
use Rattle.sqlite_sql.specs.Group.{IsDistinctOf}
use Rattle.sqlite_trees.specs.Tree.{IsAscending}
use Rattle.sqlite_value.specs.Keys.{collated_cmp}
use Rattle.sqlite_value.proofs.KeyLemmas.{collated_cmp_total}
use Rattle.reg_names.specs.declared.endpoint.Endpoints.{Endpoints}
use Rattle.reg_model.specs.Registry.{holds as any_such, Text as Words}
use Rattle.reg_model.proofs.Members.{any_in, in_any, in_filter, in_map, in_permuted, filtered_passes, map_in}
use Rattle.reg_tables_schema.proofs.Sorted.{then_equal}
use Rattle.reg_tables_schema.specs.Rows.{by_column}
use Rattle.reg_tables_sql.specs.Accounts.{account_row}
use Rattle.reg_tables_sql.specs.Tokens.{token_row}
use Rattle.reg_tables_represent.proofs.CrateNames.{kept}
use Rattle.reg_tables_represent.proofs.Numbered.{none_at}
use Rattle.reg_tables_represent.proofs.Selected.{column_total, places_rise}
use Rattle.reg_access.proofs.Answered.{there_filtered}
use Rattle.reg_access.proofs.Distinct.{flat_in, in_flat, in_turn_once}
use Rattle.reg_access.proofs.GrantText.{after_token, from, query, where_terms}
use Rattle.reg_access.proofs.ScopeLaw.{all_at, covers_alike, the_token}

-- what stands behind an id is what has it
member_at : {X : Type 0} (id : ℕ) (x : X) (xs : List X) → IsIn {X = ℕ × X} (id, x) (enumerate_from 1 xs) → with_id xs id ≡ Some x
member_at {X} id x xs i = by (with_id xs id) refl (kept (λ (e : ℕ × X). e.0 == id) (enumerate_from 1 xs) (id, x) i (eq-eqb id id refl))
  where
    by : (o : Option X) → with_id xs id ≡ o → IsIn {X = ℕ × X} (id, x) (filter (λ (e : ℕ × X). e.0 == id) (enumerate_from 1 xs)) → o ≡ Some x
    by None none j = absurd (subst (IsIn {X = ℕ × X} (id, x)) (none_at id xs none) j)
    by (Some y) some j = the_one (subst (IsIn {X = ℕ × X} (id, x)) (one_at id xs y some) j)
      where
        the_one : IsIn {X = ℕ × X} (id, x) ((id, y) ∷ []) → Some y ≡ Some x
        the_one (inl e) = ap (λ (k : ℕ × X). Some k.1) e
        the_one (inr none) = absurd none

none_and : (b : Bool) → (b && false) ≡ false
none_and true = refl
none_and false = refl

first_equal : (o p : Ordering) → ordering_then o p ≡ Equal → o ≡ Equal
first_equal Less p e = e
first_equal Equal p e = refl
first_equal Greater p e = e

in_gate : {X : Type 0} (b : Bool) (y x : X) → IsIn x (cond b (y ∷ []) []) → (b ≡ true) × (y ≡ x)
in_gate true y x (inl e) = (refl, e)
in_gate true y x (inr none) = absurd none
in_gate false y x none = absurd none

-- the scope is of the token with this id, and its range holds the canonical text
abbrev is_over : List ℕ → ℕ → Row → Bool
is_over text id r = equal Binary (column r 1) (Int (pos id)) && (is_at_most (column r 4) (Text text) && (is_below (Text text) (column r 5) && true))

passes : (text digest login : List ℕ) (name : Option (List ℕ)) (id account : ℕ) (eps : Endpoints) (live enabled : Bool) (r : Row)
    → list_all (holds ((Text text ∷ []) ∷ r ∷ token_row id digest account live eps ∷ account_row account login name enabled ∷ [])) where_terms ≡ ((live && enabled) && is_over text id r)
unfolding binary value_cmp lib.Ieee.is_nan lib.Ieee.lt
passes text digest login name id account eps true true r = refl
passes text digest login name id account eps true false r = none_and (equal Binary (column r 1) (Int (pos id)))
passes text digest login name id account eps false enabled r = none_and (equal Binary (column r 1) (Int (pos id)))

module _ (ids : IdAssignment) (s : Registry) (db : Trees) (h : StandsSoundBy ids s db) (n : Words) (name : is_name n ≡ true) where
  abbrev params : Row
  params = Text (canon n) ∷ []

  abbrev entries : List (ℕ × Token)
  entries = enumerate_from 1 s.tokens

  abbrev shown : ℕ × Token → Row × Row
  shown e = (Int (pos e.0) ∷ [], row_of_candidate s e)

  abbrev may : ℕ × Token → Bool
  may e = is_candidate s n e.1

  abbrev passing : ℕ × Token → Row → Bool
  passing e r = (e.1.live && is_enabled s e.1.account) && is_over (canon n) e.0 r

  module _ (id : ℕ) (t : Token) (found : with_id s.tokens id ≡ Some t) where
    abbrev tok : Row
    tok = row_of_token (id, t)

    covered : list_any (is_over (canon n) id) (db 5) ≡ list_any (λ p. covers p n) t.patterns
    covered =
        let q = is_scope_over (canon n) tok in
        let joined : scopes_over (Int (pos id)) (canon n) db ≡ map (shows (2 ∷ [])) (filter q (db 5)) =
        ap (flat_map (λ k. map (shows (2 ∷ [])) (filter (is_scope_over (canon n) k) (db 5)))) (the_token ids s db h.stands id t found) ∙ append-nil (map (shows (2 ∷ [])) (filter q (db 5))) in
        any_same _ q (λ r. ap (λ b. equal Binary (column r 1) (Int (pos id)) && (is_at_most (column r 4) (Text (canon n)) && b)) (and_true _)) (db 5)
        ∙ sym (there_filtered (shows (2 ∷ [])) q (db 5)) ∙ ap is_there (sym joined) ∙ covers_alike ids s db h.stands id t found h.sound n name

    account : (a : Account) × (with_id s.accounts t.account ≡ Some a)
    account =
        let fit = all_at (is_token s.accounts) s.tokens (id - 1) t h.sound.tokens (at_place id s.tokens t found).1 in
        the_some (with_id s.accounts t.account) (and_parts (length t.digest == 32) _ (and_parts (length t.digest == 32 && is_some (with_id s.accounts t.account)) _ fit).0).1
      where
        the_some : {X : Type 0} (o : Option X) → is_some o ≡ true → (x : X) × (o ≡ Some x)
        the_some None e = absurd cc
        the_some (Some x) e = (x, refl)

    comes_of : (r : Row) (a : Account) → with_id s.accounts t.account ≡ Some a → map (output query) (matches db where_terms after_token (params ∷ r ∷ tok ∷ [])) ≡ cond (passing (id, t) r) (shown (id, t) ∷ []) []
    comes_of r a at =
        let ar = row_of_account (t.account, a) in
        let one : filter (λ r. equal Binary (column r 0) (Int (pos t.account)) && true) (db 1) ≡ ar ∷ [] =
        one_row row_of_account (λ r. equal Binary (column r 0) (Int (pos t.account)) && true) (t.account, a) (enumerate_from 1 s.accounts) (db 1) h.stands.accounts.rows
        (same_filter _ _ (λ e. and_true _ ∙ equals_int (Int (pos e.0)) (pos t.account) ∙ same_number e.0 t.account) (enumerate_from 1 s.accounts) ∙ one_at t.account s.accounts a at) in
        ap (map (output query))
        ((λ i. flat_map (λ o. matches db where_terms end (params ∷ r ∷ tok ∷ o ∷ [])) (or_nulls (one i))) ∙ append-nil _
        ∙ (λ i. cond (passes (canon n) t.digest a.login a.name id t.account t.endpoints t.live a.enabled r i) ((params ∷ r ∷ tok ∷ ar ∷ []) ∷ []) []))
        ∙ split ((t.live && a.enabled) && is_over (canon n) id r)
        ∙ (λ i. cond ((t.live && any_such (λ x. x.enabled) (sym at i)) && is_over (canon n) id r) (shown (id, t) ∷ []) [])
      where
        split : (g : Bool) → map (output query) (cond g ((params ∷ r ∷ tok ∷ row_of_account (t.account, a) ∷ []) ∷ []) []) ≡ cond g (shown (id, t) ∷ []) []
        split false = refl
        split true =
            λ i. (
              Int (pos id) ∷ [],
              Int (pos id) ∷ Int (pos t.account) ∷ sql_bool t.live ∷ sql_bool t.endpoints.publish_new ∷ sql_bool t.endpoints.publish_update ∷ sql_bool t.endpoints.yank ∷ sql_bool t.endpoints.change_owners
                  ∷ Text (unwrap_or (option_map (λ (x : Account). x.login) (sym at i)) []) ∷ sql_bool (any_such (λ (x : Account). x.enabled) (sym at i)) ∷ [],
            ) ∷ []

  -- what a scope and a token give, where both are of the tables
  comes : (r : Row) (e : ℕ × Token) → IsIn e entries → map (output query) (matches db where_terms after_token (params ∷ r ∷ row_of_token e ∷ [])) ≡ cond (passing e r) (shown e ∷ []) []
  comes r (id, t) i = let found = member_at id t s.tokens i in let a = account id t found in comes_of id t found r a.0 a.1

  may_be : (e : ℕ × Token) → IsIn e entries → may e ≡ ((e.1.live && is_enabled s e.1.account) && list_any (is_over (canon n) e.0) (db 5))
  may_be (id, t) i = ap (λ b. (t.live && is_enabled s t.account) && b) (sym (covered id t (member_at id t s.tokens i)))

  abbrev all : List Output
  all = map (output query) (matches db where_terms from (params ∷ []))

  abbrev want : List Output
  want = map shown (filter may entries)

  abbrev at_both : Row → Row → List Env
  at_both r k = matches db where_terms after_token (params ∷ r ∷ k ∷ [])

  abbrev at_scope : Row → List Env
  at_scope r = flat_map (at_both r) (db 3)

  -- what a scope and a token give is wanted
  gave : (r k : Row) (e : ℕ × Token) (env : Env) → IsIn r (db 5) → IsIn e entries → row_of_token e ≡ k → IsIn env (at_both r k) → IsIn (output query env) want
  gave r k e env i j row at =
      let here = in_map (output query) (at_both r (row_of_token e)) env (subst (λ k. IsIn env (at_both r k)) (sym row) at) in
      let both = in_gate (passing e r) (shown e) (output query env) (subst (IsIn (output query env)) (comes r e j) here) in
      let parts = and_parts (e.1.live && is_enabled s e.1.account) (is_over (canon n) e.0 r) both.0 in
      let allowed = may_be e j ∙ and_from (e.1.live && is_enabled s e.1.account) _ parts.0 (in_any (is_over (canon n) e.0) (db 5) r i parts.1) in
      subst (λ o. IsIn o want) both.1 (in_map shown (filter may entries) e (kept may entries e j allowed))

  wanted : (x : Output) → IsIn x all → IsIn x want
  wanted x i =
      let env = map_in (output query) (matches db where_terms from (params ∷ [])) x i in
      let scope = in_flat at_scope (db 5) env.0 env.1 in
      let row = in_flat (at_both scope.0) (db 3) env.0 scope.2 in
      let entry = map_in row_of_token entries row.0 (in_permuted (db 3) (map row_of_token entries) row.0 (IsPermutation-sym _ _ h.stands.tokens.rows) row.1) in
      subst (λ o. IsIn o want) env.2 (gave scope.0 row.0 entry.0 env.0 scope.1 entry.1 entry.2 row.2)

  -- and what passes, they give
  gives : (r : Row) (e : ℕ × Token) → IsIn r (db 5) → IsIn e entries → passing e r ≡ true → IsIn (shown e) all
  gives r e i j passed =
      let found : shown e ∷ [] ≡ map (output query) (at_both r (row_of_token e)) = ap (λ b. cond b (shown e ∷ []) []) (sym passed) ∙ sym (comes r e j) in
      let env = map_in (output query) (at_both r (row_of_token e)) (shown e) (subst (IsIn (shown e)) found (inl refl)) in
      let row = in_permuted (map row_of_token entries) (db 3) (row_of_token e) h.stands.tokens.rows (in_map row_of_token entries e j) in
      let among = flat_in at_scope (db 5) r env.0 i (flat_in (at_both r) (db 3) (row_of_token e) env.0 row env.1) in
      subst (λ o. IsIn o all) env.2 (in_map (output query) (matches db where_terms from (params ∷ [])) env.0 among)

  given : (e : ℕ × Token) → IsIn e (filter may entries) → IsIn (shown e) all
  given e i =
      let j = in_filter may entries e i in
      let parts = and_parts (e.1.live && is_enabled s e.1.account) _ (sym (may_be e j) ∙ filtered_passes may entries e i) in
      let scope = any_in (is_over (canon n) e.0) (db 5) parts.1 in
      gives scope.0 e scope.1 j (and_from (e.1.live && is_enabled s e.1.account) _ parts.0 scope.2)

  there : (x : Output) → IsIn x want → IsIn x all
  there x i = let entry = map_in shown (filter may entries) x i in subst (λ o. IsIn o all) entry.2 (given entry.0 entry.1)

  abbrev by_id : Output → Output → Ordering
  by_id = on (λ (o : Output). o.0) (by_column 0)

  abbrev by_row : Output → Output → Ordering
  by_row = on (λ (o : Output). o.1) (collated_cmp query.collations)

  rising : IsAscending (λ a b. by_id a b ≡ Less) want
  rising =
      let id_of = λ (e : ℕ × Token). Int (pos e.0) ∷ [] in
      let up = ascending_from_map (λ (a b : Row). by_column 0 a b ≡ Less) id_of entries (places_rise id_of (λ e. refl) 1 s.tokens) in
      ascending-map (λ a b. by_id a b ≡ Less) shown (filter may entries) (ascending-filter (λ a b. by_id (shown a) (shown b) ≡ Less) may entries up)

  abbrev IsTied : Output → Output → Type 0
  IsTied x y = by_row x y ≡ Equal → by_id x y ≡ Equal

  tied_at : (e k : ℕ × Token) → IsTied (shown e) (shown k)
  tied_at e k = first_equal (by_id (shown e) (shown k)) _

  tied : (x y : Output) → IsIn x want → IsIn y want → IsTied x y
  tied x y i j =
      let a = map_in shown (filter may entries) x i in
      let b = map_in shown (filter may entries) y j in
      subst (λ o. IsTied o y) a.2 (subst (IsTied (shown a.0)) b.2 (tied_at a.0 b.0))

  pub candidates_are : (rows : List Row) → IsSureAnswer query (overlay db []) params rows → rows ≡ map (row_of_candidate s) (filter may entries)
  candidates_are rows answer =
      let a : IsAnswer query (overlay db []) params rows = answer Null in
      let distinct = subst (λ envs. IsDistinctOf by_row (map (output query) envs) a.kept) a.grouped a.distinct in
      let sorted : IsSorted by_id a.ordered = λ k d low high. ap is_lt (sym (then_equal (by_id (get_or a.ordered (k + 1) d) (get_or a.ordered k d)))) ∙ a.sorted k d low high in
      let same = in_turn_once by_id (on_total (λ (o : Output). o.0) (column_total 0)) by_row (on_total (λ (o : Output). o.1) (collated_cmp_total query.collations)) all a.kept a.ordered want distinct a.same sorted rising wanted there tied in
      a.shown ∙ ap (map (λ (o : Output). o.1)) same ∙ maps_twice shown (λ (o : Output). o.1) (filter may entries)
