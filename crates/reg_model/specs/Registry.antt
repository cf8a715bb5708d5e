-- The state of a registry, with crates that only some may see.
use Rattle.std.specs.Prelude.{ℕ, Bool, List, [], Option, zero, suc, ◌-◌, ◌==◌, if◌then◌else◌, false, ◌∷◌, Some, None, slice_get}
use Rattle.std.specs.List.{find, filter_map, position_from}
use Rattle.std.specs.Str.{bytes_eq}
use Rattle.std.specs.FinSet as finset
use Rattle.std.specs.Ordering.{nat_cmp, on, then_cmp}
use Rattle.std.specs.declared.cmp.Ordering.{Ordering}
use Rattle.std.specs.Cmp.Lexicographic.{slice_cmp}
use Rattle.reg_names.specs.declared.endpoint.Endpoints.{Endpoints}

abbrev pub Text : Type 0
Text = List ℕ

pub record Account : Type 0 where
  pub login : Text
  pub name : Option Text
  pub enabled : Bool

-- the digest is the SHA-256 of the token's text; the account is an id
pub record Token : Type 0 where
  pub digest : Text
  pub account : ℕ
  pub live : Bool
  pub endpoints : Endpoints
  pub patterns : List Text

-- a published version: the digest is that of the archive, the stem is its index line up to the
-- yanked mark
pub record Publication : Type 0 where
  pub name : Text
  pub version : Text
  pub description : Option Text
  pub stem : Text
  pub digest : Text
  pub archive : Text

abbrev pub text_cmp : Text → Text → Ordering
text_cmp = slice_cmp nat_cmp

-- a crate's canonical text, and the id of an account that owns it
abbrev pub Owner : Type 0
Owner = Text × ℕ

abbrev pub owner_cmp : Owner → Owner → Ordering
owner_cmp = then_cmp (on (λ o. o.0) text_cmp) (on (λ o. o.1) nat_cmp)

-- a crate's canonical text, and a version of it that is yanked
abbrev pub Mark : Type 0
Mark = Text × Text

abbrev pub mark_cmp : Mark → Mark → Ordering
mark_cmp = then_cmp (on (λ m. m.0) text_cmp) (on (λ m. m.1) text_cmp)

-- the one with this id
abbrev pub with_id : {X : Type 0} → List X → ℕ → Option X
with_id xs id = if id == 0 then None else slice_get xs (id - 1)

-- whether there is one, and it passes
abbrev pub holds : {X : Type 0} → (X → Bool) → Option X → Bool
holds p None = false
holds p (Some x) = p x

-- the same list, with the element at this place changed
abbrev pub change_place : {X : Type 0} → (X → X) → ℕ → List X → List X
change_place f i [] = []
change_place f zero (x ∷ xs) = f x ∷ xs
change_place f (suc i) (x ∷ xs) = x ∷ change_place f i xs

-- the same list, with the one of this id changed
abbrev pub change_at : {X : Type 0} → (X → X) → ℕ → List X → List X
change_at f id xs = if id == 0 then xs else change_place f (id - 1) xs

-- A registry: its base address; accounts and tokens, whose ids are their places from 1 on; the
-- versions in the order in which they were published; who owns what; what is yanked; the canonical
-- texts that the administrator reserved; and which crates are restricted, to their owners and
-- readers.
pub record Registry : Type 0 where
  pub base : Text
  pub accounts : List Account
  pub tokens : List Token
  pub publications : List Publication
  pub owners : finset.FinSet owner_cmp
  pub yanked : finset.FinSet mark_cmp
  pub reserved : finset.FinSet text_cmp
  pub restricted : finset.FinSet text_cmp
  pub readers : finset.FinSet owner_cmp

-- nothing but a base
abbrev pub empty_at : Text → Registry
empty_at base = record {
  base = base;
  accounts = [];
  tokens = [];
  publications = [];
  owners = finset.empty;
  yanked = finset.empty;
  reserved = finset.empty;
  restricted = finset.empty;
  readers = finset.empty;
}

-- the id of the account with this login
abbrev pub id_of_login : Registry → Text → Option ℕ
id_of_login s login = position_from (λ a. bytes_eq a.login login) 1 s.accounts

-- the ids of the accounts with these logins
abbrev pub ids_of : Registry → List Text → List ℕ
ids_of s logins = filter_map (id_of_login s) logins

abbrev pub is_enabled : Registry → ℕ → Bool
is_enabled s id = holds (λ a. a.enabled) (with_id s.accounts id)

-- whether an enabled account has this login
abbrev pub is_known : Registry → Text → Bool
is_known s login = holds (is_enabled s) (id_of_login s login)

-- the token with this digest
abbrev pub token_of : Registry → Text → Option Token
token_of s digest = find (λ t. bytes_eq t.digest digest) s.tokens
