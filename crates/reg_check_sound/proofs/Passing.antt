-- Rows that pass all checks: what each check says, in parts.
use Rattle.reg_check_sound.proofs.Words.{is_base, archives_with_id, AreAllRows, accounts_pass, are_counted, are_placed, has_account}
use Rattle.reg_check_sound.proofs.Words.{has_crate, is_account, is_archive, is_scope, is_summary, is_token, tokens_pass, C1, C2, C3, C4, C5}
use Rattle.reg_check_sound.proofs.Words.{C7, C8, PassAll, KeepsRules}
use Rattle.reg_check_sound.proofs.Common.{◌≡◌, ◌&&◌, all_in, AllRows, and_parts, bytes_eq, canon, Crate, each_in, is_name, IsIn, length, list_all, map, same_bytes, string_bytes, Trees, true, Version}
use Rattle.reg_audit.specs.Checks.{IsGenuine, is_named, is_owned, is_published}

pub record Passing (it : AllRows) (db : Trees) : Type 0 where
  pub are : AreAllRows it db
  pub rules : KeepsRules db
  pub all : PassAll it db

pub record AccountsAre (it : AllRows) : Type 0 where
  pub base : is_base (string_bytes it.base) ≡ true
  pub counted : are_counted 1 (map (λ a. a.id) it.accounts.items) ≡ true
  pub whole : list_all is_account it.accounts.items ≡ true

pub record TokensAre (it : AllRows) : Type 0 where
  pub counted : are_counted 1 (map (λ t. t.id) it.tokens.items) ≡ true
  pub whole : list_all is_token it.tokens.items ≡ true
  pub placed : are_placed (length it.tokens.items) it.scopes.items ≡ true
  pub scopes : list_all is_scope it.scopes.items ≡ true

pub record CrateIs (it : AllRows) (c : Crate) : Type 0 where
  pub name : is_name (string_bytes c.name) ≡ true
  pub canon_is : canon (string_bytes c.name) ≡ string_bytes c.canon
  pub owned : is_owned it c.id ≡ true
  pub published : is_published it c.id ≡ true

-- what the first two checks say
pub accounts_of : (it : AllRows) → accounts_pass it ≡ true → AccountsAre it
accounts_of it h =
    let list = it.accounts.items in
    let counted = are_counted 1 (map (λ a. a.id) list) in
    let p = and_parts (is_base (string_bytes it.base)) (counted && list_all is_account list) h in
    let q = and_parts counted (list_all is_account list) p.1 in
    record { base = p.0; counted = q.0; whole = q.1 }

pub tokens_of : (it : AllRows) → tokens_pass it ≡ true → TokensAre it
tokens_of it h =
    let tokens = it.tokens.items in
    let scopes = it.scopes.items in
    let counted = are_counted 1 (map (λ t. t.id) tokens) in
    let placed = are_placed (length tokens) scopes in
    let p = and_parts (counted && list_all is_token tokens) (placed && list_all is_scope scopes) h in
    let q = and_parts counted (list_all is_token tokens) p.0 in
    let r = and_parts placed (list_all is_scope scopes) p.1 in
    record { counted = q.0; whole = q.1; placed = r.0; scopes = r.1 }

module _ (it : AllRows) (db : Trees) (h : Passing it db) where
  pub accounts_are : AccountsAre it
  accounts_are = accounts_of it (h.all C1)

  pub tokens_are : TokensAre it
  tokens_are = tokens_of it (h.all C2)

  pub crate_is : (c : Crate) → IsIn c it.crates.items → CrateIs it c
  crate_is c i =
      let name = string_bytes c.name in
      let p = and_parts (is_named c) (is_owned it c.id && is_published it c.id) (all_in (λ c. is_named c && (is_owned it c.id && is_published it c.id)) it.crates.items c (h.all C3) i) in
      let q = and_parts (is_name name) (bytes_eq (canon name) (string_bytes c.canon)) p.0 in
      let r = and_parts (is_owned it c.id) (is_published it c.id) p.1 in
      record { name = q.0; canon_is = same_bytes (canon name) (string_bytes c.canon) q.1; owned = r.0; published = r.1 }

  pub archive_is : (v : Version) → IsIn v it.versions.items → is_archive v.digest.items (archives_with_id v.id db) ≡ true
  archive_is v i = all_in (λ v. is_archive v.digest.items (archives_with_id v.id db)) it.versions.items v (h.all C4) i

  pub genuine : (v : Version) → IsIn v it.versions.items → IsGenuine it v
  genuine v i = each_in (IsGenuine it) it.versions.items v (h.all C5) i

  pub summary_ids : map (λ s. s.crate_id) it.summaries.items ≡ map (λ c. c.id) it.crates.items
  summary_ids =
      let ids = map (λ s. s.crate_id) it.summaries.items in
      let crates = map (λ c. c.id) it.crates.items in
      same_bytes ids crates (and_parts (bytes_eq ids crates) (list_all (is_summary it) it.summaries.items) (h.all C7)).0

  pub summaries_whole : list_all (is_summary it) it.summaries.items ≡ true
  summaries_whole = (and_parts (bytes_eq (map (λ s. s.crate_id) it.summaries.items) (map (λ c. c.id) it.crates.items)) (list_all (is_summary it) it.summaries.items) (h.all C7)).1

  pub restricted_there : list_all (has_crate it) it.restricted.items ≡ true
  restricted_there = (and_parts (list_all (has_crate it) it.restricted.items) (list_all (λ r. has_crate it r.crate_id && has_account it r.account) it.readers.items) (h.all C8)).0

  pub readers_there : list_all (λ r. has_crate it r.crate_id && has_account it r.account) it.readers.items ≡ true
  readers_there = (and_parts (list_all (has_crate it) it.restricted.items) (list_all (λ r. has_crate it r.crate_id && has_account it r.account) it.readers.items) (h.all C8)).1
