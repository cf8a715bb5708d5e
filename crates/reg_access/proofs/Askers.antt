-- Who asks with a token that was found.
use Rattle.reg_access.proofs.Words.{◌≡◌, ℕ, zero, suc, ◌+◌, ◌-◌, ◌==◌, List, [], ◌∷◌, Bool, true, false, cond, Option, Some, None, arith}
use Rattle.reg_access.proofs.Words.{refl, sym, ap, subst, ◌∙◌, string_bytes, unwrap_or, decimal, AllByRecursion, option_map, on, bytes_eq}
use Rattle.reg_access.proofs.Words.{Trees, Account, Registry, Token, with_id, TokenRow, columns_with_account, tokens_with_accounts, StandsSoundBy}
use Rattle.reg_access.proofs.Words.{IdAssignment}
use Rattle.std.specs.Prelude.{slice_get}
use Rattle.std.specs.List.{IsDistinct, position_from}
use Rattle.std.proofs.lemmas.Slice.Eq.{bytes_eq-Decides}
use Rattle.reg_model.specs.Registry.{Text}
use Rattle.reg_model.specs.Crates.{viewer}
use Rattle.reg_model.specs.Effects.{account_of}
use Rattle.reg_model.specs.Reports.{login_of}
use Rattle.reg_model.specs.Trail.{asker, id_of_token}
use Rattle.reg_tables_represent.specs.FoundTokens.{IsRow, login_and_mark}
use Rattle.reg_tables_represent.proofs.FoundTokens.{finds_row}

each_at : {X : Type 0} (P : X → Type 0) (xs : List X) (i : ℕ) (x : X) → AllByRecursion P xs → slice_get xs i ≡ Some x → P x
each_at P [] i x h e = absurd cc
each_at P (y ∷ ys) zero x h e = let same : y ≡ x = cc e in subst P same h.0
each_at P (y ∷ ys) (suc i) x h e = each_at P ys i x h.1 e

module _ (d : Text) where
  first_at : (ts : List Token) (k i : ℕ) (t : Token) → IsDistinct (on (λ t. t.digest) bytes_eq) ts → slice_get ts i ≡ Some t → t.digest ≡ d → position_from (λ t. bytes_eq t.digest d) k ts ≡ Some (k + i)
  unfolding IsDistinct
  first_at [] k i t h e is = absurd cc
  first_at (x ∷ ts) k zero t h e is =
      let same : x ≡ t = cc e in
      let passes : bytes_eq x.digest d ≡ true = (bytes_eq-Decides x.digest d).1 (ap (λ y. y.digest) same ∙ is) in
      ap (λ b. cond b (Some k) (position_from (λ t. bytes_eq t.digest d) (k + 1) ts)) passes ∙ ap (λ n. Some n) (omega arith)
  first_at (x ∷ ts) k (suc i) t (h, rest) e is =
      let other : bytes_eq x.digest d ≡ false = ap (bytes_eq x.digest) (sym is) ∙ each_at (λ y. bytes_eq x.digest y.digest ≡ false) ts i t h e in
      ap (λ b. cond b (Some k) (position_from (λ t. bytes_eq t.digest d) (k + 1) ts)) other ∙ first_at ts (k + 1) i t rest e is ∙ ap (λ n. Some n) (omega arith)

  token_at : (ts : List Token) (id : ℕ) (t : Token) → IsDistinct (on (λ t. t.digest) bytes_eq) ts → with_id ts id ≡ Some t → t.digest ≡ d → position_from (λ t. bytes_eq t.digest d) 1 ts ≡ Some id
  token_at ts zero t h e is = absurd cc
  token_at ts (suc i) t h e is = elim (suc i == 0) as (λ b. cond b None (slice_get ts (suc i - 1)) ≡ Some t → position_from (λ t. bytes_eq t.digest d) 1 ts ≡ Some (suc i)) [ true ↦ λ k. absurd cc | false ↦ λ k. first_at ts 1 (suc i - 1) t h k is ∙ ap (λ n. Some n) (omega arith) ] e

login_is : (o : Option Account) (l : Text) (b : Bool) → option_map login_and_mark o ≡ Some (l, b) → unwrap_or (option_map (λ a. a.login) o) [] ≡ l
login_is None l b e = absurd cc
login_is (Some a) l b e = let same : login_and_mark a ≡ (l, b) = cc e in ap (λ x. x.0) same

-- the one row of a digest, where the rows stand for a registry
module _ (ids : IdAssignment) (s : Registry) (db : Trees) (h : StandsSoundBy ids s db) (digest : Text) (t : TokenRow) (known : tokens_with_accounts digest db ≡ columns_with_account t ∷ []) where
  row : IsRow s digest (Some t)
  row = finds_row ids s db h.stands digest h.sound (Some t) known

  pub viewer_is : viewer s digest ≡ Some t.account
  viewer_is = ap (option_map (λ (k : Token). k.account)) row.1

  pub asker_is : asker s digest ≡ decimal t.id ∷ string_bytes t.login ∷ []
  asker_is =
      let id : id_of_token s digest ≡ t.id = ap (λ o. unwrap_or o 0) (token_at digest s.tokens t.id _ h.sound.digests row.2 refl) in
      let shown : decimal (id_of_token s digest) ≡ decimal t.id = ap decimal id in
      let login : login_of s (account_of s digest) ≡ string_bytes t.login = ap (λ (o : Option Token). login_of s (unwrap_or (option_map (λ k. k.account) o) 0)) row.1 ∙ login_is (with_id s.accounts t.account) (string_bytes t.login) t.enabled row.3 in
      λ i. shown i ∷ login i ∷ []
