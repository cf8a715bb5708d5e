-- The restricted crates and the readers of a sound registry pass.
use Rattle.reg_check_sound.proofs.Words.{IsPermutation-sym, IsPermutation-trans, by_column, number_columns, Pair, is_paired, has_account}
use Rattle.reg_check_sound.proofs.Words.{has_crate}
use Rattle.reg_check_sound.proofs.Common.{◌≡◌, ◌==◌, [], ◌∷◌, ◌∙◌, ◌&&◌, all_in, AllRows, and_from, any_in, ap, canon, each_in, eq-eqb, eqb-true, heads, IdAssignment, in_all, in_any, in_map, in_permuted, IsIn, IsPermutation, list_all, list_any, map, map_in, number_is, refl, Registry, shows, sym, Trees, true, ℕ}
use Rattle.std.specs.FinSet as finset
use Rattle.reg_audit.specs.Checks.{readers_pass}
use Rattle.reg_check_sound.proofs.AccountsPass.{account_has}
use Rattle.reg_check_sound.proofs.ListedCrates.{has_same}
use Rattle.reg_check_sound.proofs.ListedPairs.{pair_in}
use Rattle.reg_check_sound.proofs.Shown.{shown_permutes}
use Rattle.reg_check_sound.proofs.Standing.{Standing}

module _ (it : AllRows) (db : Trees) (ids : IdAssignment) (s : Registry) (h : Standing it db ids s) where
  restricted_listed : IsPermutation (map number_columns h.holds.stands.restricted.marks) (map number_columns it.restricted.items)
  restricted_listed =
      let stands = h.holds.stands.restricted in
      let show = shows (0 ∷ []) in
      let out = map number_columns it.restricted.items in
      IsPermutation-trans (map number_columns stands.marks) (map show (db 17)) out stands.are (shown_permutes (by_column 0) (db 17) show out h.are.restricted)

  restricted_there : (id : ℕ) → IsIn id it.restricted.items → has_crate it id ≡ true
  restricted_there id i =
      let stands = h.holds.stands.restricted in
      let list = it.restricted.items in
      let there = in_permuted (map number_columns list) (map number_columns stands.marks) (number_columns id) (IsPermutation-sym (map number_columns stands.marks) (map number_columns list) restricted_listed) (in_map number_columns list id i) in
      let n = map_in number_columns stands.marks (number_columns id) there in
      let marked = all_in (λ i. list_any (λ c. c.0 == i) ids.crates) stands.marks n.0 stands.of_crates n.1 in
      has_same it db ids s h id ∙ ap (λ k. list_any (λ c. c.0 == k) ids.crates) (sym (number_is (heads n.2))) ∙ marked

  reader_there : (o : Pair) → IsIn o it.readers.items → (has_crate it o.crate_id && has_account it o.account) ≡ true
  reader_there o i =
      let stands = h.holds.stands.readers in
      let p = pair_in ids.crates s.readers (db 18) stands it.readers.items h.are.readers o i in
      let of_crate = all_in (λ o. list_any (λ c. c.0 == o.0) ids.crates) stands.pairs p.0 stands.of_crates p.1 in
      let e = any_in (λ c. c.0 == p.0.0) ids.crates of_crate in
      let paired = in_any (λ x. x.0 == e.0.0 && x.1 == p.0.1) stands.pairs p.0 p.1 (and_from (p.0.0 == e.0.0) _ (eq-eqb p.0.0 e.0.0 (sym (eqb-true e.0.0 p.0.0 e.2))) (eq-eqb p.0.1 p.0.1 refl)) in
      let same = each_in (λ e. (account : ℕ) → finset.contains s.readers (canon e.1, account) ≡ is_paired stands.pairs e.0 account) ids.crates e.0 stands.same e.1 in
      let good = h.holds.sound.readers (canon e.0.1) p.0.1 (same p.0.1 ∙ paired) in
      let crate = has_same it db ids s h o.crate_id ∙ ap (λ k. list_any (λ c. c.0 == k) ids.crates) (sym p.2) ∙ of_crate in
      and_from (has_crate it o.crate_id) _ crate (ap (has_account it) (sym p.3) ∙ account_has it db ids s h p.0.1 good.1)

  pub readers_pass_so : readers_pass it ≡ true
  readers_pass_so =
      and_from (list_all (has_crate it) it.restricted.items) _ (in_all (has_crate it) it.restricted.items restricted_there)
      (in_all (λ o. has_crate it o.crate_id && has_account it o.account) it.readers.items reader_there)
