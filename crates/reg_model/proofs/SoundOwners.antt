-- Adding and removing owners keeps a state sound.
use Rattle.reg_model.proofs.Words.{◌≡◌, ℕ, zero, suc, ◌+◌, ◌-◌, ◌≤◌, List, [], ◌∷◌, Bool, true, false, cond, Option, Some, None, refl, sym}
use Rattle.reg_model.proofs.Words.{◌∙◌, ap, subst, arith, not, ◌&&◌, slice_get, list_any, list_all, filter, cons_option, enumerate_from}
use Rattle.reg_model.proofs.Words.{eq_by_cmp, bytes_eq, and_parts, and_from, bytes_eq-Decides, canon, is_name, name_of, Limits, Text}
use Rattle.reg_model.proofs.Words.{Account, Owner, Registry, holds, owner_cmp, id_of_login, ids_of, exists, has_crate, owners, owns}
use Rattle.reg_model.proofs.Words.{visible, AddOwners, RemoveOwners, is_named, lists, account_of, owners_of, Sound}
use Rattle.std.specs.FinSet as finset
use Rattle.reg_model.specs.Facts.{access_facts, counts}
use Rattle.reg_model.specs.Refusals.{denied}
use Rattle.reg_model.specs.Effects.{done}
use Rattle.reg_model.proofs.Cleared.{not_denied}
use Rattle.reg_model.proofs.Keys.{owner_total, owner_apart, same_key}
use Rattle.reg_model.proofs.Lists.{or_left, or_right, or_split, not_true, true_not_false}
use Rattle.reg_model.proofs.Places.{at_id, found_id, found_there}
use Rattle.reg_model.proofs.SoundParts.{with_owners}

-- what is among the owners that are named: the crate, and a login with this id
record Named (s : Registry) (n c : Text) (logins : List Text) (id : ℕ) : Type 0 where
  of_crate : c ≡ canon n
  login : Text
  among : list_any (λ l. bytes_eq login l) logins ≡ true
  found : id_of_login s login ≡ Some id

named_more : (s : Registry) (n c : Text) (l : Text) (logins : List Text) (id : ℕ) → Named s n c logins id → Named s n c (l ∷ logins) id
named_more s n c l logins id h = record { of_crate = h.of_crate; login = h.login; among = or_right _ _ h.among; found = h.found }

named : (s : Registry) (n c : Text) (logins : List Text) (id : ℕ) → finset.contains (owners_of n (ids_of s logins)) (c, id) ≡ true → Named s n c logins id
named s n c [] id h = true_not_false _ h (finset.contains-empty owner_cmp (c, id))
named s n c (l ∷ logins) id h = by (λ k. named s n c logins id k) (id_of_login s l) refl h
  where
    by : (finset.contains (owners_of n (ids_of s logins)) (c, id) ≡ true → Named s n c logins id) → (o : Option ℕ) → id_of_login s l ≡ o → finset.contains (owners_of n (cons_option o (ids_of s logins))) (c, id) ≡ true → Named s n c (l ∷ logins) id
    by more None e k = named_more s n c l logins id (more k)
    by more (Some i) e k =
        let q : Owner = (c, id) in
        let o : Owner = (canon n, i) in
        or_split (eq_by_cmp owner_cmp q o) _ (sym (finset.contains-insert owner_total (owners_of n (ids_of s logins)) o q) ∙ k)
        (λ tied. let same = same_key owner_apart q o tied in record {
          of_crate = ap (λ x. x.0) same;
          login = l;
          among = or_left _ _ ((bytes_eq-Decides l l).1 refl);
          found = e ∙ ap (λ x. Some x.1) (sym same);
        })
        (λ rest. named_more s n c l logins id (more rest))

-- more owners of a crate that is there
pub more_owners : (s : Registry) (n : Text) (logins : List Text) → Sound s → exists s n ≡ true → Sound (record s { owners = finset.union s.owners (owners_of n (ids_of s logins)) })
more_owners s n logins sound there = with_owners s sound (finset.union s.owners (owners_of n (ids_of s logins)))
    (λ c h. let o = sound.owned c h in (o.0, finset.contains-union owner_total s.owners (owners_of n (ids_of s logins)) (c, o.0) ∙ or_left _ _ o.1))
    (λ c id h. or_split _ _ (sym (finset.contains-union owner_total s.owners (owners_of n (ids_of s logins)) (c, id)) ∙ h) (sound.owners c id) (λ k. let m = named s n c logins id k in (ap (has_crate s) m.of_crate ∙ there, found_there (λ a. bytes_eq a.login m.login) s.accounts id m.found)))

-- an owner whose login is not named
record Left (owning : ℕ → Bool) (named : Account → Bool) (xs : List Account) (k : ℕ) : Type 0 where
  id : ℕ
  from : k ≤ id
  account : Account
  there : slice_get xs (id - k) ≡ Some account
  is_owner : owning id ≡ true
  not_named : named account ≡ false

someone_left : (owning : ℕ → Bool) (named : Account → Bool) (xs : List Account) (k : ℕ) → list_all (λ o. named o.1) (filter (λ o. owning o.0) (enumerate_from k xs)) ≡ false → Left owning named xs k
someone_left owning named [] k e = cc
someone_left owning named (x ∷ xs) k e =
    elim (owning k) as (λ b. owning k ≡ b → list_all (λ o. named o.1) (cond b ((k, x) ∷ filter (λ o. owning o.0) (enumerate_from (k + 1) xs)) (filter (λ o. owning o.0) (enumerate_from (k + 1) xs))) ≡ false → Left owning named (x ∷ xs) k) [
      | true ↦ λ h f. elim (named x) as (λ b. named x ≡ b → (b && list_all (λ o. named o.1) (filter (λ o. owning o.0) (enumerate_from (k + 1) xs))) ≡ false → Left owning named (x ∷ xs) k) [
        | true ↦ λ i g. later (someone_left owning named xs (k + 1) g)
        | false ↦ λ i g. record { id = k; from = omega arith; account = x; there = ap (slice_get (x ∷ xs)) (none k); is_owner = h; not_named = i }
      ] refl f
      | false ↦ λ h f. later (someone_left owning named xs (k + 1) f)
    ] refl e
  where
    none : (k : ℕ) → k - k ≡ zero
    none k = omega arith

    next : (k id : ℕ) → k + 1 ≤ id → id - k ≡ suc (id - (k + 1))
    next k id h = omega arith

    later : Left owning named xs (k + 1) → Left owning named (x ∷ xs) k
    later l = record { id = l.id; from = let m = l.from in omega arith; account = l.account; there = ap (slice_get (x ∷ xs)) (next k l.id l.from) ∙ l.there; is_owner = l.is_owner; not_named = l.not_named }

fewer_owners : (s : Registry) (n : Text) (logins : List Text) → Sound s → list_all (λ o. is_named logins o.1.login) (owners s n) ≡ false → Sound (record s { owners = finset.difference s.owners (owners_of n (ids_of s logins)) })
fewer_owners s n logins sound some = with_owners s sound (finset.difference s.owners (owners_of n (ids_of s logins))) owned (λ c id h. sound.owners c id (and_parts _ _ (sym (finset.contains-difference owner_total s.owners (owners_of n (ids_of s logins)) (c, id)) ∙ h)).0)
  where
    stays : (c : Text) (id : ℕ) → finset.contains s.owners (c, id) ≡ true → (finset.contains (owners_of n (ids_of s logins)) (c, id) ≡ true → ⊥) → finset.contains (finset.difference s.owners (owners_of n (ids_of s logins))) (c, id) ≡ true
    stays c id h never = finset.contains-difference owner_total s.owners (owners_of n (ids_of s logins)) (c, id) ∙ and_from _ _ h (ap not (not_true _ never))

    left : Left (owns s n) (λ a. is_named logins a.login) s.accounts 1
    left = someone_left (owns s n) (λ a. is_named logins a.login) s.accounts 1 some

    -- the one who is left is not among those who go
    not_gone : Named s n (canon n) logins left.id → ⊥
    not_gone h =
        let f = found_id (λ a. bytes_eq a.login h.login) s.accounts left.id h.found in
        let same : Some f.0 ≡ Some left.account = sym f.1 ∙ at_id s.accounts left.id left.account left.from left.there in
        let one : f.0 ≡ left.account = cc same in
        let login : left.account.login ≡ h.login = ap (λ a. a.login) (sym one) ∙ (bytes_eq-Decides f.0.login h.login).0 f.2 in
        true_not_false (is_named logins left.account.login) (ap (is_named logins) login ∙ h.among) left.not_named

    owned : (c : Text) → has_crate s c ≡ true → (id : ℕ) × (finset.contains (finset.difference s.owners (owners_of n (ids_of s logins))) (c, id) ≡ true)
    owned c h = elim (bytes_eq c (canon n)) as (λ b. bytes_eq c (canon n) ≡ b → (id : ℕ) × (finset.contains (finset.difference s.owners (owners_of n (ids_of s logins))) (c, id) ≡ true)) [
      | true ↦ λ e. (left.id, let P : Text → Type 0 = λ t. finset.contains (finset.difference s.owners (owners_of n (ids_of s logins))) (t, left.id) ≡ true in subst P (sym ((bytes_eq-Decides c (canon n)).0 e)) (stays (canon n) left.id left.is_owner (λ k. not_gone (named s n (canon n) logins left.id k))))
      | false ↦ λ e. let o = sound.owned c h in (o.0, stays c o.0 o.1 (λ k. let m = named s n c logins o.0 k in true_not_false (bytes_eq c (canon n)) ((bytes_eq-Decides c (canon n)).1 m.of_crate) e))
    ] refl

-- a crate that is seen is there, and its text a name
pub crate_there : (s : Registry) (d n : Text) → not (holds (visible s d) (name_of n)) ≡ false → (name_of n ≡ Some n) × (exists s n ≡ true)
crate_there s d n e = by (is_name n) e
  where
    some : (b : Bool) → not b ≡ false → b ≡ true
    some true e = refl
    some false e = cc

    by : (b : Bool) → not (holds (visible s d) (cond b (Some n) None)) ≡ false → (cond b (Some n) None ≡ Some n) × (exists s n ≡ true)
    by true f = (refl, (and_parts (exists s n) _ (some _ f)).0)
    by false f = cc

pub add_keeps_sound : (limits : Limits) (s : Registry) (d n : Text) (logins : List Text) → Sound s → denied limits s (Some d) (AddOwners n logins) ≡ None → Sound (done s (account_of s d) (AddOwners n logins))
unfolding done access_facts counts
add_keeps_sound limits s d n logins sound allowed =
    let all = not_denied limits s d (AddOwners n logins) allowed in
    more_owners s n logins sound (crate_there s d n all.1.1.1.1.0).1

pub remove_keeps_sound : (limits : Limits) (s : Registry) (d n : Text) (logins : List Text) → Sound s → denied limits s (Some d) (RemoveOwners n logins) ≡ None → Sound (done s (account_of s d) (RemoveOwners n logins))
unfolding done access_facts counts
remove_keeps_sound limits s d n logins sound allowed =
    let all = not_denied limits s d (RemoveOwners n logins) allowed in
    fewer_owners s n logins sound (ap (λ o. list_all (λ o. is_named logins o.1.login) (lists (owners s) o)) (sym (crate_there s d n all.1.1.1.1.0).0) ∙ all.1.1.1.1.1.1.1.1.0)
