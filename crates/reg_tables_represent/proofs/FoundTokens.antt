-- A token that is found by its digest.
use Rattle.reg_tables_represent.proofs.Words.{◌≡◌, ℕ, suc, ◌+◌, ◌≤◌, pos, List, [], ◌∷◌, ◌++◌, map, length, Bool, true, false, cond, is_some}
use Rattle.reg_tables_represent.proofs.Words.{Option, Some, None, arith, refl, sym, ap, subst, ◌∙◌, AllByRecursion, enumerate_from, filter}
use Rattle.reg_tables_represent.proofs.Words.{flat_map, list_all, bytes_eq-Decides, length-append, All-permutation, All-from_recursion}
use Rattle.reg_tables_represent.proofs.Words.{recursion_from_All, Int, Blob, Sound, equals_int, same_filter, IsRow, row_of_account}
use Rattle.reg_tables_represent.proofs.Words.{row_of_token, IdAssignment, StandsBy}
use Rattle.reg_tables_represent.proofs.Common.{and_parts, bytes_eq, filter_map, is_eq, is_eq-slice_cmp, IsPermutation, IsPermutation-filter, one_row, option_map, Row, shown_of, Trees, value_cmp}
use Rattle.sqlite_value.proofs.OrderLemmas.{value_cmp-Blob}
use Rattle.reg_model.specs.Registry as model
use Rattle.reg_model.specs.Sound.{is_token}
use Rattle.reg_tables_sql.specs.declared.tokens.TokenRow.{TokenRow}
use Rattle.reg_tables_represent.specs.FoundTokens.{IsAccountOf, login_and_mark, with_digest}
use Rattle.reg_tables_schema.specs.Tests.{is_blob}
use Rattle.reg_tables_sql.specs.Tokens.{columns_with_account}
use Rattle.reg_tables_sql.specs.Tokens.{is_of_token, token_and_account, tokens_with_accounts}
use Rattle.reg_tables_represent.proofs.AccountEntries.{mark_is, heads, tails, number_is, words_are}
use Rattle.reg_tables_represent.proofs.Numbered.{one_at, found_at, none_numbered, one_found}
use Rattle.reg_tables_represent.proofs.Selected.{short_same, shown_short, same_one}
use Rattle.reg_tables_represent.proofs.Standing.{same_number}

pub same_bytes : (t u : List ℕ) → is_eq (value_cmp (Blob t) (Blob u)) ≡ bytes_eq t u
same_bytes t u = ap is_eq (value_cmp-Blob t u) ∙ is_eq-slice_cmp t u

bytes_are : (t u : List ℕ) → bytes_eq t u ≡ true → t ≡ u
bytes_are t u h = (bytes_eq-Decides t u).0 h

pub the_some : {X : Type 0} (o : Option X) → is_some o ≡ true → (x : X) × (o ≡ Some x)
the_some None h = absurd cc
the_some (Some x) h = (x, refl)

-- rows of which each is matched by one are as many as their matches
as_many : (f : Row → List Row) (rows : List Row) → AllByRecursion (λ r. length (f r) ≡ 1) rows → length (flat_map f rows) ≡ length rows
as_many f [] h = refl
as_many f (r ∷ rows) h = length-append (f r) (flat_map f rows) ∙ omega (arith, h.0, as_many f rows h.1)

some_both : {t u : List ℕ} {b c : Bool} → t ≡ u → b ≡ c → ◌≡◌ {A = Option (List ℕ × Bool)} (Some (t, b)) (Some (u, c))
some_both e f i = Some (e i, f i)

module _ (ids : IdAssignment) (s : model.Registry) (db : Trees) (stands : StandsBy ids s db) (digest : List ℕ) where
  abbrev Entry : Type 0
  Entry = ℕ × model.Token

  abbrev passes : Entry → Bool
  passes e = bytes_eq e.1.digest digest

  abbrev IsKnown : Entry → Type 0
  IsKnown e = (passes e ≡ true) × (is_some (model.with_id s.accounts e.1.account) ≡ true)

  abbrev accounts_of : Row → List Row
  accounts_of token = map (token_and_account token) (filter (is_of_token token) (db 1))

  has_account : (t : model.Token) → is_token s.accounts t ≡ true → is_some (model.with_id s.accounts t.account) ≡ true
  has_account t h = (and_parts _ _ (and_parts _ _ h).0).1

  known : (n : ℕ) (ts : List model.Token) → list_all (is_token s.accounts) ts ≡ true → AllByRecursion IsKnown (filter passes (enumerate_from n ts))
  known n [] h = tt
  known n (t ∷ ts) h =
      let both = and_parts (is_token s.accounts t) (list_all (is_token s.accounts) ts) h in
      split (passes (n, t)) refl (has_account t both.0) (known (n + 1) ts both.1)
    where
      split : (b : Bool) → passes (n, t) ≡ b → is_some (model.with_id s.accounts t.account) ≡ true → AllByRecursion IsKnown (filter passes (enumerate_from (n + 1) ts)) → AllByRecursion IsKnown (cond b ((n, t) ∷ filter passes (enumerate_from (n + 1) ts)) (filter passes (enumerate_from (n + 1) ts)))
      split true is has later = ((is, has), later)
      split false is has later = later

  -- the one row of a token with its account
  with_account : (e : Entry) (a : model.Account) → model.with_id s.accounts e.1.account ≡ Some a → accounts_of (row_of_token e) ≡ token_and_account (row_of_token e) (row_of_account (e.1.account, a)) ∷ []
  with_account e a found =
      ap (map (token_and_account (row_of_token e)))
      (one_row row_of_account (is_of_token (row_of_token e)) (e.1.account, a) (enumerate_from 1 s.accounts) (db 1) stands.accounts.rows
      (same_filter _ _ (λ x. equals_int (Int (pos x.0)) (pos e.1.account) ∙ same_number x.0 e.1.account) (enumerate_from 1 s.accounts) ∙ one_at e.1.account s.accounts a found))

  one_each : (es : List Entry) → AllByRecursion IsKnown es → AllByRecursion (λ r. length (accounts_of r) ≡ 1) (map row_of_token es)
  one_each [] h = tt
  one_each (e ∷ es) h =
      let a = the_some _ h.0.1 in
      (ap length (with_account e a.0 a.1), one_each es h.1)

  same_row : (e : Entry) (a : model.Account) (r : TokenRow) → passes e ≡ true → model.with_id s.accounts e.1.account ≡ Some a → token_and_account (row_of_token e) (row_of_account (e.1.account, a)) ≡ columns_with_account r → with_digest s digest ≡ e ∷ [] → IsRow s digest (Some r)
  same_row e a r passed found h one =
      let digest_is = bytes_are e.1.digest digest passed in
      let id = number_is (heads h) in
      let account = number_is (heads (tails h)) in
      let marks = tails (tails h) in
      let live = mark_is _ _ (heads marks) in
      let publish_new = mark_is _ _ (heads (tails marks)) in
      let publish_update = mark_is _ _ (heads (tails (tails marks))) in
      let yank = mark_is _ _ (heads (tails (tails (tails marks)))) in
      let change_owners = mark_is _ _ (heads (tails (tails (tails (tails marks))))) in
      let rest = tails (tails (tails (tails (tails marks)))) in
      let login = words_are (heads rest) in
      let enabled = mark_is _ _ (heads (tails rest)) in
      let is : ◌≡◌ {A = List Entry} (e ∷ []) ((r.id, record { digest = digest; account = r.account; live = r.live; endpoints = r.endpoints; patterns = e.1.patterns }) ∷ []) = λ i.
      (id i, record { digest = digest_is i; account = account i; live = live i; endpoints = record { publish_new = publish_new i; publish_update = publish_update i; yank = yank i; change_owners = change_owners i }; patterns = e.1.patterns }) ∷ [] in
      let of_it : IsAccountOf s r = ap (λ k. option_map login_and_mark (model.with_id s.accounts k)) (sym account) ∙ ap (option_map login_and_mark) found ∙ some_both login enabled in
      let alone = one ∙ is in
      (e.1.patterns, one_found (λ t. bytes_eq t.digest digest) 1 s.tokens _ alone, found_at passes r.id _ s.tokens alone, of_it)

  read : (es : List Entry) → with_digest s digest ≡ es → AllByRecursion IsKnown es → (o : Option TokenRow) → flat_map accounts_of (map row_of_token es) ≡ shown_of columns_with_account o → IsRow s digest o
  read [] is h None shown = none_numbered (λ t. bytes_eq t.digest digest) 1 s.tokens is
  read [] is h (Some r) shown = absurd cc
  read (e ∷ es) is h None shown =
      let many = as_many accounts_of (map row_of_token (e ∷ es)) (one_each (e ∷ es) h) in
      absurd (none_left (length (map row_of_token es)) (sym many ∙ ap length shown))
    where
      none_left : (n : ℕ) → suc n ≡ 0 → ⊥
      none_left n h = absurd (omega (arith, h))
  read (e ∷ []) is h (Some r) shown =
      let a = the_some _ h.0.1 in
      same_row e a.0 r h.0.0 a.1 (same_one (sym (ap (λ rs. rs ++ []) (with_account e a.0 a.1)) ∙ shown)) is
  read (e ∷ d ∷ es) is h (Some r) shown =
      let many = as_many accounts_of (map row_of_token (e ∷ d ∷ es)) (one_each (e ∷ d ∷ es) h) in
      absurd (too_many (length (map row_of_token es)) (sym many ∙ ap length shown))
    where
      too_many : (n : ℕ) → suc (suc n) ≡ 1 → ⊥
      too_many n h = absurd (omega (arith, h))

  pub finds_row : Sound s → (o : Option TokenRow) → tokens_with_accounts digest db ≡ shown_of columns_with_account o → IsRow s digest o
  finds_row sound o shown =
      let es = with_digest s digest in
      let rows = filter (is_blob 2 digest) (db 3) in
      let sure = known 1 s.tokens sound.tokens in
      let named = filter_map row_of_token (is_blob 2 digest) (enumerate_from 1 s.tokens) ∙ ap (map row_of_token) (same_filter (λ e. is_blob 2 digest (row_of_token e)) passes (λ e. same_bytes e.1.digest digest) (enumerate_from 1 s.tokens)) in
      let moved = subst (λ ys. IsPermutation ys rows) named (IsPermutation-filter (is_blob 2 digest) (map row_of_token (enumerate_from 1 s.tokens)) (db 3) stands.tokens.rows) in
      let ones = recursion_from_All (λ r. length (accounts_of r) ≡ 1) rows (All-permutation (λ r. length (accounts_of r) ≡ 1) (map row_of_token es) rows moved (All-from_recursion (λ r. length (accounts_of r) ≡ 1) (map row_of_token es) (one_each es sure))) in
      let short : length rows ≤ 1 = subst (λ n. n ≤ 1) (ap length (sym shown) ∙ as_many accounts_of rows ones) (shown_short columns_with_account o) in
      read es refl sure o (ap (flat_map accounts_of) (short_same (map row_of_token es) rows moved short) ∙ shown)
