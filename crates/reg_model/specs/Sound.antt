-- A sound state: its texts are well formed, and all that it names is there.
use Rattle.std.specs.Prelude.{◌≡◌, ℕ, ◌&&◌, Bool, true, false, is_some, ◌==◌, ◌||◌, nat_lt, List, length}
use Rattle.std.specs.List.{list_any, list_all, IsDistinct, AllByRecursion}
use Rattle.std.specs.Str.{bytes_eq}
use Rattle.std.specs.Ordering.{on, eq_of_both}
use Rattle.std.specs.FinSet as finset
use Rattle.reg_names.specs.Names.{canon, is_name}
use Rattle.reg_line.specs.Base.{is_base}
use Rattle.reg_model.specs.Registry.{Text, Registry, with_id, holds, Account, Token, Publication}
use Rattle.reg_model.specs.Crates.{has_crate, first, is_reserved_always}
use Rattle.reg_model.specs.Steps.{IsGenuine}
use Rattle.reg_names.specs.Logins.{is_login}
use Rattle.reg_names.specs.Patterns.{is_pattern}
use Rattle.reg_names.specs.declared.endpoint.Endpoints.{Endpoints}
use Rattle.reg_versions.specs.Versions.{release_key_of}
use Rattle.reg_model.specs.Refusals.{may_name}

abbrev pub is_account : Account → Bool
is_account a = is_login a.login && may_name a.name

abbrev pub has_some : Endpoints → Bool
has_some e = (e.publish_new || e.publish_update) || (e.yank || e.change_owners)

-- a token: a digest of 32 bytes, an account that is there, an endpoint, and one or more patterns
abbrev pub is_token : List Account → Token → Bool
is_token accounts t = (length t.digest == 32 && is_some (with_id accounts t.account))
    && (has_some t.endpoints && (nat_lt 0 (length t.patterns) && list_all is_pattern t.patterns))

-- one release: one crate and one key
abbrev pub one_release : Publication → Publication → Bool
one_release = eq_of_both (on (λ p. canon p.name) bytes_eq)
    (on (λ p. release_key_of p.version) bytes_eq)

-- whether the version is there, of the crate with this canonical text
abbrev pub has_version : Registry → Text → Text → Bool
has_version s c v = list_any (λ p. bytes_eq (canon p.name) c && bytes_eq p.version v) s.publications

pub record Sound (s : Registry) : Type 0 where
  pub base : is_base s.base ≡ true
  pub accounts : list_all is_account s.accounts ≡ true
  -- logins are distinct, and so are the digests of tokens
  pub logins : IsDistinct (on (λ a. a.login) bytes_eq) s.accounts
  pub tokens : list_all (is_token s.accounts) s.tokens ≡ true
  pub digests : IsDistinct (on (λ t. t.digest) bytes_eq) s.tokens
  pub publications : AllByRecursion IsGenuine s.publications
  -- the publications of a crate have its spelling
  pub spelled : list_all (λ p. holds (λ n. bytes_eq n p.name) (first s p.name)) s.publications
      ≡ true
  pub releases : IsDistinct one_release s.publications
  -- each crate has an owner, and each owner is an account and owns a crate that is there
  pub owned : (c : Text) → has_crate s c ≡ true → (id : ℕ)
      × (finset.contains s.owners (c, id) ≡ true)
  pub owners : (c : Text) (id : ℕ) → finset.contains s.owners (c, id) ≡ true
      → (has_crate s c ≡ true) × (is_some (with_id s.accounts id) ≡ true)
  pub yanked : (c v : Text) → finset.contains s.yanked (c, v) ≡ true → has_version s c v ≡ true
  -- what the administrator reserved is the canonical text of some crate name, and not one that is
  -- reserved always
  pub reserved : (c : Text) → finset.contains s.reserved c ≡ true
      → ((n : Text) × (is_name n ≡ true) × (canon n ≡ c)) × (is_reserved_always c ≡ false)
  -- what is restricted is a crate, and each reader is an account and reads a crate that is there
  pub restricted : (c : Text) → finset.contains s.restricted c ≡ true → has_crate s c ≡ true
  pub readers : (c : Text) (id : ℕ) → finset.contains s.readers (c, id) ≡ true
      → (has_crate s c ≡ true) × (is_some (with_id s.accounts id) ≡ true)
