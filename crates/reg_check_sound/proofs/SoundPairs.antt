-- What passes makes sound owners, readers and restricted crates.
use Rattle.reg_check_sound.proofs.Words.{◌&&◌, is_some, Publication, owner_cmp, text_cmp, with_id, owner_total, owner_apart, same_key}
use Rattle.reg_check_sound.proofs.Words.{text_apart, ties_itself, Pair, canon_from, pair_from, publication_from, registry_from}
use Rattle.reg_check_sound.proofs.Common.{◌≡◌, ◌==◌, ◌∙◌, all_in, all_weaker, AllByRecursion, AllRows, and_parts, any_in, ap, bytes_eq, bytes_same, canon, Crate, each_in, eq_by_cmp, eqb-true, has_account, has_crate, in_any, in_each, in_map, Int, List, map, map_in, nat_list_cmp_total, pos, same_bytes, subst, sym, Trees, true, ℕ}
use Rattle.std.specs.FinSet as finset
use Rattle.reg_model.specs.Crates as crates_of
use Rattle.reg_model.specs.Registry as model
use Rattle.reg_check_sound.proofs.Pairs.{Refers, owners_of_crates, readers_of_crates, second_refers}
use Rattle.reg_check_sound.proofs.Passing.{Passing, crate_is, readers_there, restricted_there}
use Rattle.reg_check_sound.proofs.SoundTokens.{account_there, refers_to_account}
use Rattle.reg_check_sound.proofs.Versions.{crate_at}

module _ (it : AllRows) (db : Trees) (h : Passing it db) where
  abbrev s : model.Registry
  s = registry_from it db

  -- a crate with an id is there
  crate_there : (id : ℕ) → has_crate it id ≡ true → crates_of.has_crate s (canon_from it id) ≡ true
  crate_there id there =
      let vs = it.versions.items in
      let d = any_in (λ (c : Crate). c.id == id) it.crates.items there in
      let v = any_in (λ v. v.crate_id == d.0.id) vs (crate_is it db h d.0 d.1).published in
      let at : v.0.crate_id ≡ id = eqb-true v.0.crate_id d.0.id v.2 ∙ eqb-true d.0.id id d.2 in
      in_any (λ p. bytes_eq (canon p.name) (canon_from it id)) s.publications (publication_from it db v.0) (in_map (publication_from it db) vs v.0 v.1) (bytes_same _ _ (ap (canon_from it) at))

  pub owned_sound : (c : model.Text) → crates_of.has_crate s c ≡ true → (id : ℕ) × (finset.contains s.owners (c, id) ≡ true)
  owned_sound c there =
      let list = it.owners.items in
      let p = any_in (λ p. bytes_eq (canon p.name) c) s.publications there in
      let v = map_in (publication_from it db) it.versions.items p.0 p.1 in
      let k = crate_at it db h v.0 v.1 in
      let o = any_in (λ o. o.crate_id == k.0.id) list (crate_is it db h k.0 k.1).owned in
      let id : o.0.crate_id ≡ v.0.crate_id = eqb-true o.0.crate_id k.0.id o.2 ∙ k.2 in
      let name : canon_from it o.0.crate_id ≡ c = ap (canon_from it) id ∙ ap (λ (x : Publication). canon x.name) v.2 ∙ same_bytes (canon p.0.name) c p.2 in
      let q : model.Owner = (c, o.0.account) in
      let tied : eq_by_cmp owner_cmp q (pair_from it o.0) ≡ true = subst (λ n. eq_by_cmp owner_cmp q (n, o.0.account) ≡ true) (sym name) (ties_itself owner_total q) in
      (o.0.account, finset.contains-from_list owner_total (map (pair_from it) list) q ∙ in_any (eq_by_cmp owner_cmp q) (map (pair_from it) list) (pair_from it o.0) (in_map (pair_from it) list o.0 o.1) tied)

  -- of pairs whose crates and accounts are there
  module _ (list : List Pair) (crates : AllByRecursion (λ o. has_crate it o.crate_id ≡ true) list) (accounts : AllByRecursion (λ o. is_some (with_id s.accounts o.account) ≡ true) list) where
    pairs_sound : (c : model.Text) (id : ℕ) → finset.contains {R = owner_cmp} (finset.from_list (map (pair_from it) list)) (c, id) ≡ true → (crates_of.has_crate s c ≡ true) × (is_some (with_id s.accounts id) ≡ true)
    pairs_sound c id there =
        let q : model.Owner = (c, id) in
        let k = any_in (eq_by_cmp owner_cmp q) (map (pair_from it) list) (sym (finset.contains-from_list owner_total (map (pair_from it) list) q) ∙ there) in
        let o = map_in (pair_from it) list k.0 k.1 in
        let same : pair_from it o.0 ≡ q = o.2 ∙ sym (same_key owner_apart q k.0 k.2) in (
          subst (λ t. crates_of.has_crate s t ≡ true) (ap (λ (x : model.Owner). x.0) same) (crate_there o.0.crate_id (each_in (λ o. has_crate it o.crate_id ≡ true) list o.0 crates o.1)),
          subst (λ n. is_some (with_id s.accounts n) ≡ true) (ap (λ (x : model.Owner). x.1) same) (each_in (λ o. is_some (with_id s.accounts o.account) ≡ true) list o.0 accounts o.1),
        )

  pub owners_sound : (c : model.Text) (id : ℕ) → finset.contains s.owners (c, id) ≡ true → (crates_of.has_crate s c ≡ true) × (is_some (with_id s.accounts id) ≡ true)
  owners_sound =
      let list = it.owners.items in
      let refer = second_refers list (db 9) h.are.owners h.rules.columns.owners (db 1) h.rules.parents.owner_accounts in
      pairs_sound list (owners_of_crates it db h) (all_weaker (λ o. Refers (db 1) (Int (pos o.account))) (λ o. is_some (with_id s.accounts o.account) ≡ true) (λ o k. refers_to_account it db h o.account k) list refer)

  pub readers_sound : (c : model.Text) (id : ℕ) → finset.contains s.readers (c, id) ≡ true → (crates_of.has_crate s c ≡ true) × (is_some (with_id s.accounts id) ≡ true)
  readers_sound =
      let list = it.readers.items in
      let accounts = in_each (λ o. is_some (with_id s.accounts o.account) ≡ true) list (λ o i.
      account_there it db h o.account (and_parts (has_crate it o.crate_id) (has_account it o.account) (all_in (λ o. has_crate it o.crate_id && has_account it o.account) list o (readers_there it db h) i)).1) in
      pairs_sound list (readers_of_crates it db h) accounts

  pub restricted_sound : (c : model.Text) → finset.contains s.restricted c ≡ true → crates_of.has_crate s c ≡ true
  restricted_sound c there =
      let marks = it.restricted.items in
      let k = any_in (eq_by_cmp text_cmp c) (map (canon_from it) marks) (sym (finset.contains-from_list nat_list_cmp_total (map (canon_from it) marks) c) ∙ there) in
      let id = map_in (canon_from it) marks k.0 k.1 in
      subst (λ t. crates_of.has_crate s t ≡ true) (id.2 ∙ sym (same_key text_apart c k.0 k.2)) (crate_there id.0 (all_in (has_crate it) marks id.0 (restricted_there it db h) id.1))
