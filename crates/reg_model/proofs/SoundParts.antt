-- A state that differs from a sound one in one part.
use Rattle.reg_model.proofs.Words.{◌≡◌, ℕ, List, true, false, ◌&&◌, is_some, length, list_all, on, bytes_eq, and_parts, and_from, canon}
use Rattle.reg_model.proofs.Words.{is_name, Text, Account, Token, Registry, owner_cmp, mark_cmp, text_cmp, with_id, has_crate}
use Rattle.reg_model.proofs.Words.{is_reserved_always, Sound, is_account, is_token, has_version}
use Rattle.std.specs.Prelude.{◌==◌}
use Rattle.std.specs.List.{IsDistinct}
use Rattle.std.specs.FinSet as finset
use Rattle.reg_model.proofs.Lists.{all_so}

module _ (s : Registry) (sound : Sound s) where
  -- other accounts, where each id that was there still is
  pub with_accounts : (xs : List Account) → list_all is_account xs ≡ true → IsDistinct (on (λ a. a.login) bytes_eq) xs → ((id : ℕ) → is_some (with_id s.accounts id) ≡ true → is_some (with_id xs id) ≡ true) → Sound (record s { accounts = xs })
  with_accounts xs accounts logins stay = record {
    base = sound.base;
    accounts = accounts;
    logins = logins;
    tokens = all_so (is_token s.accounts) (is_token xs) still s.tokens sound.tokens;
    digests = sound.digests;
    publications = sound.publications;
    spelled = sound.spelled;
    releases = sound.releases;
    owned = sound.owned;
    owners = λ c id h. let o = sound.owners c id h in (o.0, stay id o.1);
    yanked = sound.yanked;
    reserved = sound.reserved;
    restricted = sound.restricted;
    readers = λ c id h. let o = sound.readers c id h in (o.0, stay id o.1);
  }
    where
      still : (t : Token) → is_token s.accounts t ≡ true → is_token xs t ≡ true
      still t e =
          let h = and_parts (length t.digest == 32 && is_some (with_id s.accounts t.account)) _ e in
          let k = and_parts (length t.digest == 32) _ h.0 in
          and_from _ _ (and_from _ _ k.0 (stay t.account k.1)) h.1

  pub with_tokens : (ts : List Token) → list_all (is_token s.accounts) ts ≡ true → IsDistinct (on (λ t. t.digest) bytes_eq) ts → Sound (record s { tokens = ts })
  with_tokens ts tokens digests = record {
    base = sound.base;
    accounts = sound.accounts;
    logins = sound.logins;
    tokens = tokens;
    digests = digests;
    publications = sound.publications;
    spelled = sound.spelled;
    releases = sound.releases;
    owned = sound.owned;
    owners = sound.owners;
    yanked = sound.yanked;
    reserved = sound.reserved;
    restricted = sound.restricted;
    readers = sound.readers;
  }

  abbrev ArePairs : finset.FinSet owner_cmp → Type 0
  ArePairs os = (c : Text) (id : ℕ) → finset.contains os (c, id) ≡ true → (has_crate s c ≡ true) × (is_some (with_id s.accounts id) ≡ true)

  -- other sets beside the same accounts, tokens and versions
  with_sets : (os readers : finset.FinSet owner_cmp) (ms : finset.FinSet mark_cmp) (rs cs : finset.FinSet text_cmp)
      → ((c : Text) → has_crate s c ≡ true → (id : ℕ) × (finset.contains os (c, id) ≡ true)) → ArePairs os → ArePairs readers
      → ((c v : Text) → finset.contains ms (c, v) ≡ true → has_version s c v ≡ true)
      → ((c : Text) → finset.contains rs c ≡ true → ((n : Text) × (is_name n ≡ true) × (canon n ≡ c)) × (is_reserved_always c ≡ false))
      → ((c : Text) → finset.contains cs c ≡ true → has_crate s c ≡ true)
      → Sound (record s { owners = os; readers = readers; yanked = ms; reserved = rs; restricted = cs })
  with_sets os readers ms rs cs owned owners read yanked reserved restricted = record {
    base = sound.base;
    accounts = sound.accounts;
    logins = sound.logins;
    tokens = sound.tokens;
    digests = sound.digests;
    publications = sound.publications;
    spelled = sound.spelled;
    releases = sound.releases;
    owned = owned;
    owners = owners;
    yanked = yanked;
    reserved = reserved;
    restricted = restricted;
    readers = read;
  }

  pub with_owners : (os : finset.FinSet owner_cmp) → ((c : Text) → has_crate s c ≡ true → (id : ℕ) × (finset.contains os (c, id) ≡ true))
      → ArePairs os
      → Sound (record s { owners = os })
  with_owners os owned owners =
      with_sets os s.readers s.yanked s.reserved s.restricted owned owners sound.readers sound.yanked sound.reserved sound.restricted

  pub with_yanked : (ms : finset.FinSet mark_cmp) → ((c v : Text) → finset.contains ms (c, v) ≡ true → has_version s c v ≡ true) → Sound (record s { yanked = ms })
  with_yanked ms yanked =
      with_sets s.owners s.readers ms s.reserved s.restricted sound.owned sound.owners sound.readers yanked sound.reserved sound.restricted

  pub with_reserved : (rs : finset.FinSet text_cmp)
      → ((c : Text) → finset.contains rs c ≡ true → ((n : Text) × (is_name n ≡ true) × (canon n ≡ c)) × (is_reserved_always c ≡ false))
      → Sound (record s { reserved = rs })
  with_reserved rs reserved =
      with_sets s.owners s.readers s.yanked rs s.restricted sound.owned sound.owners sound.readers sound.yanked reserved sound.restricted

  -- other crates restricted, each of them there
  pub with_restricted : (cs : finset.FinSet text_cmp) → ((c : Text) → finset.contains cs c ≡ true → has_crate s c ≡ true) → Sound (record s { restricted = cs })
  with_restricted cs restricted =
      with_sets s.owners s.readers s.yanked s.reserved cs sound.owned sound.owners sound.readers sound.yanked sound.reserved restricted

  pub with_readers : (rs : finset.FinSet owner_cmp) → ArePairs rs → Sound (record s { readers = rs })
  with_readers rs read =
      with_sets s.owners rs s.yanked s.reserved s.restricted sound.owned sound.owners read sound.yanked sound.reserved sound.restricted
