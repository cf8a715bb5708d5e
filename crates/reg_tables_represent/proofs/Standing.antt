-- What a change of the rows is on the registry that they stand for: accounts and tokens.
use Rattle.reg_tables_represent.proofs.Words.{KeepsWhereNone, ◌≡◌, ◌==◌, ℕ, ◌+◌, pos, List, [], ◌∷◌, ◌++◌, map, length, Bool, true, false}
use Rattle.reg_tables_represent.proofs.Words.{not, Some, Ordering, Less, Equal, Greater, refl, sym, ap, subst, ◌∙◌, None, Option, suc, arith}
use Rattle.reg_tables_represent.proofs.Words.{is_eq, tied_itself, eqb-true, eqb-false, IsPermutation-cons, IsPermutation-trans}
use Rattle.reg_tables_represent.proofs.Words.{IsPermutation-map, IsPermutation-sym, length_permutation, value_cmp-Int, Adds, Replaces}
use Rattle.reg_tables_represent.proofs.Words.{Account, with_id, change_at, row_of_account, StandAccounts, put_permutes, put_replaces, one_row}
use Rattle.reg_tables_represent.proofs.Words.{filter_map}
use Rattle.reg_tables_sql.specs.Accounts.{account_row}
use Rattle.reg_tables_represent.proofs.Common.{append-nil, enumerate_from, filter, has_rowid, Int, IsPermutation, IsPermutation-filter, Row, same_filter, State, value_cmp}
use Rattle.std.specs.Ordering.{int_cmp}
use Rattle.std.specs.FinMap.{int_cmp-IsAntisymmetric}
use Rattle.std.proofs.lemmas.Cmp.{int_cmp_total}
use Rattle.std.proofs.lemmas.List.Sorted.{IsPermutation-middle}
use Rattle.reg_tables_represent.proofs.Numbered.{enumerate_snoc, one_at, changed_at, change_none, none_at}

not_tied : (o : Ordering) → (o ≡ Equal → ⊥) → is_eq o ≡ false
not_tied Less h = refl
not_tied Equal h = absurd (h refl)
not_tied Greater h = refl

same_pos : {n m : ℕ} → pos n ≡ pos m → n ≡ m
same_pos e = cc

-- SQL's order of numbers tells which are equal
pub same_number : (n m : ℕ) → is_eq (value_cmp (Int (pos n)) (Int (pos m))) ≡ (n == m)
same_number n m = ap is_eq (value_cmp-Int (pos n) (pos m)) ∙ split (n == m) refl
  where
    split : (b : Bool) → (n == m) ≡ b → is_eq (int_cmp (pos n) (pos m)) ≡ b
    split true e = subst (λ k. is_eq (int_cmp (pos n) (pos k)) ≡ true) (eqb-true n m e) (ap is_eq (tied_itself int_cmp_total (pos n)))
    split false e = not_tied _ (λ tie. eqb-false n m e (same_pos (int_cmp-IsAntisymmetric (pos n) (pos m) tie)))

pub snoc_permutes : {X : Type 0} (xs : List X) (x : X) → IsPermutation (x ∷ xs) (xs ++ x ∷ [])
snoc_permutes xs x = IsPermutation-sym _ _ (subst (λ ys. IsPermutation (xs ++ x ∷ []) (x ∷ ys)) (append-nil xs) (IsPermutation-middle xs x []))

-- no entry passes, so no row does
pub none_row : {X : Type 0} (row : X → Row) (test : Row → Bool) (xs : List X) (rows : List Row) → IsPermutation (map row xs) rows → filter (λ x. test (row x)) xs ≡ [] → filter test rows ≡ []
none_row row test xs rows h none =
    let kept = subst (λ ys. IsPermutation ys (filter test rows)) (filter_map row test xs ∙ ap (map row) none) (IsPermutation-filter test (map row xs) rows h) in
    nothing (filter test rows) kept
  where
    nothing : (ys : List Row) → IsPermutation [] ys → ys ≡ []
    nothing [] h = refl
    nothing (y ∷ ys) h = absurd (too_few (length ys) (length_permutation [] (y ∷ ys) h))
      where
        too_few : (n : ℕ) → suc n ≡ 0 → ⊥
        too_few n e = absurd (omega (arith, e))

module _ (accounts : List Account) (a : Account) (old new : State) (stands : StandAccounts accounts old.now.trees) where
  pub adds_account : (id : ℕ) → id ≡ 1 + length accounts → Adds 1 (row_of_account (id, a)) old new → StandAccounts (accounts ++ a ∷ []) new.now.trees
  adds_account id is adds =
      let e : ℕ × Account = (id, a) in
      let entries = enumerate_from 1 accounts in
      let listed : enumerate_from 1 (accounts ++ a ∷ []) ≡ entries ++ e ∷ [] = enumerate_snoc 1 accounts a ∙ ap (λ k. entries ++ (k, a) ∷ []) (sym is) in
      let more = IsPermutation-cons (row_of_account e) (map row_of_account entries) (old.now.trees 1) stands.rows in
      let put = put_permutes (row_of_account e) (old.now.trees 1) adds.fresh in
      let last = IsPermutation-map row_of_account (entries ++ e ∷ []) (e ∷ entries) (IsPermutation-sym _ _ (snoc_permutes entries e)) in
      record {
        rows = subst (λ xs. IsPermutation (map row_of_account xs) (new.now.trees 1)) (sym listed)
            (IsPermutation-trans _ (map row_of_account (e ∷ entries)) _ last (IsPermutation-trans _ (row_of_account e ∷ old.now.trees 1) _ more (subst (IsPermutation (row_of_account e ∷ old.now.trees 1)) (sym adds.becomes.rows_are) put)));
      }

  -- the row of an account that is there, and what it makes of the accounts to put another in its place
  pub account_row_at : (id : ℕ) → with_id accounts id ≡ Some a → filter (has_rowid (pos id)) (old.now.trees 1) ≡ row_of_account (id, a) ∷ []
  account_row_at id found =
      one_row row_of_account (has_rowid (pos id)) (id, a) (enumerate_from 1 accounts) (old.now.trees 1) stands.rows (same_filter _ _ (λ e. same_number e.0 id) (enumerate_from 1 accounts) ∙ one_at id accounts a found)

  pub replaces_account : (id : ℕ) (f : Account → Account) → with_id accounts id ≡ Some a → Replaces 1 id (row_of_account (id, f a)) old new → StandAccounts (change_at f id accounts) new.now.trees
  replaces_account id f found replaced =
      let entries = enumerate_from 1 accounts in
      let put = put_replaces row_of_account (pos id) _ (id, f a) refl entries (old.now.trees 1) stands.rows in
      let others = same_filter (λ e. not (has_rowid (pos id) (row_of_account e))) (λ e. not (e.0 == id)) (λ e. ap not (same_number e.0 id)) entries in
      let moved = IsPermutation-map row_of_account _ _ (IsPermutation-sym _ _ (changed_at f id accounts a found)) in
      record {
        rows = IsPermutation-trans _ (map row_of_account ((id, f a) ∷ filter (λ e. not (e.0 == id)) entries)) _ moved
            (subst (λ xs. IsPermutation (map row_of_account ((id, f a) ∷ xs)) (new.now.trees 1)) others (subst (IsPermutation (map row_of_account ((id, f a) ∷ filter (λ e. not (has_rowid (pos id) (row_of_account e))) entries))) (sym replaced.rows_are) put));
      }

-- an account that is enabled or not, where it is there
pub enables_account : (accounts : List Account) (old new : State) → StandAccounts accounts old.now.trees → (id : ℕ) (b : Bool) → ((login : List ℕ) (name : Option (List ℕ)) (was : Bool) → filter (has_rowid (pos id)) (old.now.trees 1) ≡ account_row id login name was ∷ [] → Replaces 1 id (account_row id login name b) old new)
    → KeepsWhereNone 1 (has_rowid (pos id)) old new → StandAccounts (change_at (λ a. record a { enabled = b }) id accounts) new.now.trees
enables_account accounts old new stands id b replaced unmatched = split (with_id accounts id) refl
  where
    split : (o : Option Account) → with_id accounts id ≡ o → StandAccounts (change_at (λ a. record a { enabled = b }) id accounts) new.now.trees
    split None none =
        let rows = none_row row_of_account (has_rowid (pos id)) (enumerate_from 1 accounts) (old.now.trees 1) stands.rows (same_filter _ _ (λ e. same_number e.0 id) (enumerate_from 1 accounts) ∙ none_at id accounts none) in
        subst (λ xs. StandAccounts xs new.now.trees) (sym (change_none (λ a. record a { enabled = b }) id accounts none)) (record { rows = subst (IsPermutation (map row_of_account (enumerate_from 1 accounts))) (sym (unmatched rows)) stands.rows })
    split (Some a) found = replaces_account accounts a old new stands id (λ a. record a { enabled = b }) found (replaced a.login a.name a.enabled (account_row_at accounts a old new stands id found))
