-- An account is among those that a set of pairs names.
use Rattle.reg_search.proofs.Words.{◌≡◌, ◌==◌, ℕ, Bool, true, false, ◌&&◌, List, [], ◌∷◌, inl, refl, sym, ap, subst, ◌∙◌, is_some, filter}
use Rattle.reg_search.proofs.Words.{list_any, eq-eqb, eqb-true, owner_cmp, any_filter, any_same, IsIn, in_any, in_filter}
use Rattle.std.specs.FinSet as finset
use Rattle.std.specs.List.{enumerate_from}
use Rattle.reg_model.specs.Registry.{Account, Text, with_id}
use Rattle.reg_model.specs.Crates.{is_among}
use Rattle.reg_tables_represent.proofs.Numbered.{one_at}
use Rattle.reg_tables_represent.proofs.FoundTokens.{the_some}

pub none_any : {X : Type 0} (xs : List X) → list_any (λ x. false) xs ≡ false
none_any [] = refl
none_any (x ∷ xs) = none_any xs

pub and_false : (b : Bool) → (b && false) ≡ false
and_false true = refl
and_false false = refl

module _ (accounts : List Account) (held : finset.FinSet owner_cmp) (c : Text) (there : (id : ℕ) → finset.contains held (c, id) ≡ true → is_some (with_id accounts id) ≡ true) (id : ℕ) where
  abbrev entries : List (ℕ × Account)
  entries = enumerate_from 1 accounts

  abbrev holds_it : ℕ → Bool
  holds_it id = finset.contains held (c, id)

  entered : holds_it id ≡ true → list_any (λ e. e.0 == id) entries ≡ true
  entered e =
      let a = the_some (with_id accounts id) (there id e) in
      let it : ℕ × Account = (id, a.0) in
      in_any (λ e. e.0 == id) entries it (in_filter (λ e. e.0 == id) entries it (subst (IsIn it) (sym (one_at id accounts a.0 a.1)) (inl refl))) (eq-eqb id id refl)

  swapped : (e : ℕ × Account) → (holds_it e.0 && (e.0 == id)) ≡ (holds_it id && (e.0 == id))
  swapped e = split (e.0 == id) refl
    where
      split : (b : Bool) → (e.0 == id) ≡ b → (holds_it e.0 && b) ≡ (holds_it id && b)
      split true t = ap (λ k. holds_it k && true) (eqb-true e.0 id t)
      split false t = and_false (holds_it e.0) ∙ sym (and_false (holds_it id))

  pub among_held : is_among (filter (λ o. holds_it o.0) entries) id ≡ holds_it id
  among_held = any_filter (λ o. holds_it o.0) (λ o. o.0 == id) entries ∙ any_same _ (λ e. holds_it id && (e.0 == id)) swapped entries ∙ split (holds_it id) refl
    where
      split : (b : Bool) → holds_it id ≡ b → list_any (λ e. b && (e.0 == id)) entries ≡ b
      split true e = entered e
      split false e = none_any entries
