-- What is done to registries that are alike leaves them alike.
use Rattle.reg_model.proofs.Words.{◌≡◌, ℕ, zero, suc, ◌-◌, ◌==◌, List, [], ◌∷◌, ◌++◌, Bool, true, false, cond, refl, sym, ◌∙◌, ap, map}
use Rattle.reg_model.proofs.Words.{subst, codes, unwrap_or, list_any, bytes_eq, canon, Text, mark_cmp, owner_cmp, text_cmp, Account}
use Rattle.reg_model.proofs.Words.{Publication, Registry, Token, change_at, change_place, id_of_login, ids_of, has_crate}
use Rattle.reg_model.proofs.Words.{is_reserved_always, enable, owners_of, Asked, Command, Malformed, Read, Index, Download, ListOwners}
use Rattle.reg_model.proofs.Words.{Publish, Yank, Unyank, AddOwners, RemoveOwners, UserAdd, UserDisable, UserEnable, TokenAdd, TokenRevoke}
use Rattle.reg_model.proofs.Words.{Reserve, Unreserve, OwnerAdd, Access, Users, Tokens, Crates, CrateRestrict, CrateOpen, ReaderAdd}
use Rattle.reg_model.proofs.Words.{ReaderRemove, endpoints_named, patterns_given, AreAlike, asked_in, command_in, replayed}
use Rattle.reg_model.proofs.Words.{told_publication, told_token}
use Rattle.std.specs.FinSet as set
use Rattle.std.proofs.lemmas.List.{map-append}
use Rattle.reg_model.specs.Effects.{commanded, done}
use Rattle.reg_model.proofs.Lists.{list_any_map}

pub alike_self : (s : Registry) → AreAlike s s
alike_self s = record { base = refl; accounts = refl; tokens = refl; publications = refl; owners = refl; yanked = refl; reserved = refl; restricted = refl; readers = refl }

pub alike_back : (s t : Registry) → AreAlike s t → AreAlike t s
alike_back s t h = record {
  base = sym h.base;
  accounts = sym h.accounts;
  tokens = sym h.tokens;
  publications = sym h.publications;
  owners = sym h.owners;
  yanked = sym h.yanked;
  reserved = sym h.reserved;
  restricted = sym h.restricted;
  readers = sym h.readers;
}

pub alike_on : (s t u : Registry) → AreAlike s t → AreAlike t u → AreAlike s u
alike_on s t u h k = record {
  base = h.base ∙ k.base;
  accounts = h.accounts ∙ k.accounts;
  tokens = h.tokens ∙ k.tokens;
  publications = h.publications ∙ k.publications;
  owners = h.owners ∙ k.owners;
  yanked = h.yanked ∙ k.yanked;
  reserved = h.reserved ∙ k.reserved;
  restricted = h.restricted ∙ k.restricted;
  readers = h.readers ∙ k.readers;
}

module _ (s t : Registry) (h : AreAlike s t) where
  with_accounts : (a b : List Account) → a ≡ b → AreAlike (record s { accounts = a }) (record t { accounts = b })
  with_accounts a b e = record { base = h.base; accounts = e; tokens = h.tokens; publications = h.publications; owners = h.owners; yanked = h.yanked; reserved = h.reserved; restricted = h.restricted; readers = h.readers }

  with_tokens : (a b : List Token) → map told_token a ≡ map told_token b → AreAlike (record s { tokens = a }) (record t { tokens = b })
  with_tokens a b e = record { base = h.base; accounts = h.accounts; tokens = e; publications = h.publications; owners = h.owners; yanked = h.yanked; reserved = h.reserved; restricted = h.restricted; readers = h.readers }

  with_owners : (a b : set.FinSet owner_cmp) → a ≡ b → AreAlike (record s { owners = a }) (record t { owners = b })
  with_owners a b e = record { base = h.base; accounts = h.accounts; tokens = h.tokens; publications = h.publications; owners = e; yanked = h.yanked; reserved = h.reserved; restricted = h.restricted; readers = h.readers }

  with_yanked : (a b : set.FinSet mark_cmp) → a ≡ b → AreAlike (record s { yanked = a }) (record t { yanked = b })
  with_yanked a b e = record { base = h.base; accounts = h.accounts; tokens = h.tokens; publications = h.publications; owners = h.owners; yanked = e; reserved = h.reserved; restricted = h.restricted; readers = h.readers }

  with_reserved : (a b : set.FinSet text_cmp) → a ≡ b → AreAlike (record s { reserved = a }) (record t { reserved = b })
  with_reserved a b e = record { base = h.base; accounts = h.accounts; tokens = h.tokens; publications = h.publications; owners = h.owners; yanked = h.yanked; reserved = e; restricted = h.restricted; readers = h.readers }

  with_restricted : (a b : set.FinSet text_cmp) → a ≡ b → AreAlike (record s { restricted = a }) (record t { restricted = b })
  with_restricted a b e = record { base = h.base; accounts = h.accounts; tokens = h.tokens; publications = h.publications; owners = h.owners; yanked = h.yanked; reserved = h.reserved; restricted = e; readers = h.readers }

  with_readers : (a b : set.FinSet owner_cmp) → a ≡ b → AreAlike (record s { readers = a }) (record t { readers = b })
  with_readers a b e = record { base = h.base; accounts = h.accounts; tokens = h.tokens; publications = h.publications; owners = h.owners; yanked = h.yanked; reserved = h.reserved; restricted = h.restricted; readers = e }

  with_published : (a b : List Publication) (x y : set.FinSet owner_cmp) → map told_publication a ≡ map told_publication b → x ≡ y → AreAlike (record s { publications = a; owners = x }) (record t { publications = b; owners = y })
  with_published a b x y e o = record { base = h.base; accounts = h.accounts; tokens = h.tokens; publications = e; owners = o; yanked = h.yanked; reserved = h.reserved; restricted = h.restricted; readers = h.readers }

module _ (s t : Registry) (h : AreAlike s t) where
  pub same_crate : (c : Text) → has_crate s c ≡ has_crate t c
  same_crate c =
      sym (list_any_map (λ p. bytes_eq (canon p.name) c) told_publication s.publications)
      ∙ ap (list_any (λ p. bytes_eq (canon p.name) c)) h.publications
      ∙ list_any_map (λ p. bytes_eq (canon p.name) c) told_publication t.publications

  pub same_login : (login : Text) → id_of_login s login ≡ id_of_login t login
  same_login login = ap (λ a. id_of_login (record s { accounts = a }) login) h.accounts

  pub same_ids : (logins : List Text) → ids_of s logins ≡ ids_of t logins
  same_ids logins = ap (λ a. ids_of (record s { accounts = a }) logins) h.accounts

  published_alike : (p q : Publication) → told_publication p ≡ told_publication q → map told_publication (s.publications ++ p ∷ []) ≡ map told_publication (t.publications ++ q ∷ [])
  published_alike p q e = map-append told_publication s.publications (p ∷ []) ∙ (λ i. h.publications i ++ e i ∷ []) ∙ sym (map-append told_publication t.publications (q ∷ []))

  -- two publications that are told alike
  pub publish_alike : (id : ℕ) (p q : Publication) → told_publication p ≡ told_publication q → AreAlike (done s id (Publish p)) (done t id (Publish q))
  unfolding done
  publish_alike id p q e =
      let name : p.name ≡ q.name = ap (λ x. x.name) e in
      with_published s t h _ _ _ _ (published_alike p q e) (λ i. cond (((ap (has_crate s) (ap canon name)) ∙ same_crate (canon q.name)) i) (h.owners i) (set.insert (h.owners i) (canon (name i), id)))

  pub done_alike : (id : ℕ) (asked : Asked) → AreAlike (done s id asked) (done t id asked)
  unfolding done
  done_alike id (Publish p) = publish_alike id p p refl
  done_alike id (Yank n v) = with_yanked s t h _ _ (ap (λ y. set.insert y (canon n, v)) h.yanked)
  done_alike id (Unyank n v) = with_yanked s t h _ _ (ap (λ y. set.remove y (canon n, v)) h.yanked)
  done_alike id (AddOwners n logins) = with_owners s t h _ _ (λ i. set.union (h.owners i) (owners_of n (same_ids logins i)))
  done_alike id (RemoveOwners n logins) = with_owners s t h _ _ (λ i. set.difference (h.owners i) (owners_of n (same_ids logins i)))
  done_alike id (Malformed r) = h
  done_alike id (Read what) = h
  done_alike id (Index p) = h
  done_alike id (Download n v) = h
  done_alike id (ListOwners n) = h

  -- ---- commands

  added_alike : (x y : Token) → told_token x ≡ told_token y → map told_token (s.tokens ++ x ∷ []) ≡ map told_token (t.tokens ++ y ∷ [])
  added_alike x y e = map-append told_token s.tokens (x ∷ []) ∙ (λ i. h.tokens i ++ e i ∷ []) ∙ sym (map-append told_token t.tokens (y ∷ []))

  revoked_told : (id : ℕ) (xs : List Token) → map told_token (change_at (λ (x : Token). record x { live = false }) id xs) ≡ change_at (λ (x : Token). record x { live = false }) id (map told_token xs)
  revoked_told id xs = by (id == 0)
    where
      place : (k : ℕ) (xs : List Token) → map told_token (change_place (λ (x : Token). record x { live = false }) k xs) ≡ change_place (λ (x : Token). record x { live = false }) k (map told_token xs)
      place k [] = refl
      place zero (x ∷ xs) = refl
      place (suc k) (x ∷ xs) = ap (λ ys. told_token x ∷ ys) (place k xs)

      by : (b : Bool) → map told_token (cond b xs (change_place (λ (x : Token). record x { live = false }) (id - 1) xs)) ≡ cond b (map told_token xs) (change_place (λ (x : Token). record x { live = false }) (id - 1) (map told_token xs))
      by true = refl
      by false = place (id - 1) xs

  reserve_alike : (c : Text) (b : Bool) → AreAlike (cond b s (record s { reserved = set.insert s.reserved c })) (cond b t (record t { reserved = set.insert t.reserved c }))
  reserve_alike c true = h
  reserve_alike c false = with_reserved s t h _ _ (ap (λ r. set.insert r c) h.reserved)

  -- tokens of two digests
  pub token_alike : (login : Text) (words patterns : List Text) (d e : Text) → AreAlike (commanded s (TokenAdd login words patterns d)) (commanded t (TokenAdd login words patterns e))
  unfolding commanded
  token_alike login words patterns d e = with_tokens s t h _ _ (added_alike _ _ (ap (λ o. record { digest = []; account = unwrap_or o 0; live = true; endpoints = endpoints_named words; patterns = patterns_given patterns }) (same_login login)))

  pub commanded_alike : (c : Command) → AreAlike (commanded s c) (commanded t c)
  unfolding commanded
  commanded_alike (UserAdd login name) = with_accounts s t h _ _ (ap (λ a. a ++ record { login = login; name = name; enabled = true } ∷ []) h.accounts)
  commanded_alike (UserDisable login) = with_accounts s t h _ _ (λ i. enable false (same_login login i) (h.accounts i))
  commanded_alike (UserEnable login) = with_accounts s t h _ _ (λ i. enable true (same_login login i) (h.accounts i))
  commanded_alike (TokenAdd login words patterns digest) = token_alike login words patterns digest digest
  commanded_alike (TokenRevoke id) = with_tokens s t h _ _ (revoked_told id s.tokens ∙ ap (change_at (λ (x : Token). record x { live = false }) id) h.tokens ∙ sym (revoked_told id t.tokens))
  commanded_alike (Reserve n) = reserve_alike (canon n) (is_reserved_always (canon n))
  commanded_alike (Unreserve n) = with_reserved s t h _ _ (ap (λ r. set.remove r (canon n)) h.reserved)
  commanded_alike (OwnerAdd n login) = with_owners s t h _ _ (λ i. set.union (h.owners i) (owners_of n (same_ids (login ∷ []) i)))
  commanded_alike (CrateRestrict n) = with_restricted s t h _ _ (ap (λ r. set.insert r (canon n)) h.restricted)
  commanded_alike (CrateOpen n) = with_restricted s t h _ _ (ap (λ r. set.remove r (canon n)) h.restricted)
  commanded_alike (ReaderAdd n login) = with_readers s t h _ _ (λ i. set.insert (h.readers i) (canon n, unwrap_or (same_login login i) 0))
  commanded_alike (ReaderRemove n login) = with_readers s t h _ _ (λ i. set.remove (h.readers i) (canon n, unwrap_or (same_login login i) 0))
  commanded_alike (Access n) = h
  commanded_alike Users = h
  commanded_alike Tokens = h
  commanded_alike Crates = h

-- the same line, done again
pub replayed_alike : (s t : Registry) → AreAlike s t → (words : List Text) → AreAlike (replayed s words) (replayed t words)
replayed_alike s t h [] = h
replayed_alike s t h (who ∷ []) = h
replayed_alike s t h (who ∷ login ∷ words) = by (bytes_eq who (codes "-"))
  where
    by : (b : Bool) → AreAlike (cond b (commanded s (command_in words)) (done s (unwrap_or (id_of_login s login) 0) (asked_in words))) (cond b (commanded t (command_in words)) (done t (unwrap_or (id_of_login t login) 0) (asked_in words)))
    by true = commanded_alike s t h (command_in words)
    by false = subst (λ o. AreAlike (done s (unwrap_or (id_of_login s login) 0) (asked_in words)) (done t (unwrap_or o 0) (asked_in words))) (same_login s t h login) (done_alike s t h (unwrap_or (id_of_login s login) 0) (asked_in words))
