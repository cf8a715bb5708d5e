-- What the rows of each access text tell of the registry that they stand for.
use Rattle.std.specs.Prelude.{◌≡◌, ℕ, pos, true, is_some, List, Some}
use Rattle.std.specs.List.{list_any}
use Rattle.std.specs.FinSet as finset
use Rattle.std.specs.Str.{bytes_eq}
use Rattle.sqlite.specs.Order.{Row}
use Rattle.sqlite.specs.Tree.{Trees}
use Rattle.sqlite.specs.declared.types.Value.{Value}
use Rattle.sqlite.specs.declared.types.Value.TheVariants.{Int}
use Rattle.reg_names.specs.Names.{canon, is_name}
use Rattle.reg_names.specs.Patterns.{covers}
use Rattle.reg_model.specs.Actions.{Action}
use Rattle.reg_model.specs.Registry.{Text, Token, Registry, holds, is_enabled, token_of, with_id}
use Rattle.reg_model.specs.Crates.{exists, first, is_among, is_restricted, owners, readers, same_release, versions}
use Rattle.reg_model.specs.Facts.{access_facts, endpoints_of}
use Rattle.reg_model.specs.Rules.{access}
use Rattle.reg_tables_sql.specs.Tokens.{tokens_with_accounts}
use Rattle.reg_tables_represent.specs.Stands.{StandsSoundBy, IdAssignment}
use Rattle.reg_access.specs.JoinRows.{crates_seen_by, is_mark_set, is_shown, is_there, reserved_as, scopes_over, text_in, value_at, versions_of_release, versions_with_text}
use Rattle.reg_access.specs.Verdict.{endpoints_in, is_fit, join_rows, verdict_in}

-- whether the token is known and live, and its account enabled; its endpoints; its id and its
-- account
pub record TellsToken (s : Registry) (digest : Text) (rows : List Row) : Type 0 where
  pub known : is_there rows ≡ is_some (token_of s digest)
  pub live : is_mark_set (value_at rows 2) ≡ holds (λ t. t.live) (token_of s digest)
  pub enabled : is_mark_set (value_at rows 8) ≡ holds (λ t. is_enabled s t.account)
      (token_of s digest)
  pub endpoints : endpoints_in rows ≡ endpoints_of (token_of s digest)
  pub ids : (t : Token) → token_of s digest ≡ Some t → (id : ℕ) × (with_id s.tokens id ≡ Some t)
      × (value_at rows 0 ≡ Int (pos id)) × (value_at rows 1 ≡ Int (pos t.account))

-- whether the crate is there, its first spelling, whether it is restricted, and whether the account
-- owns it or reads it
pub record TellsCrate (s : Registry) (n : Text) (account : ℕ) (rows : List Row) : Type 0 where
  pub there : is_there rows ≡ exists s n
  pub spelled : text_in (value_at rows 1) ≡ first s n
  pub owned : is_shown rows 2 ≡ is_among (owners s n) account
  pub restricted : is_shown rows 3 ≡ is_restricted s n
  pub read : is_shown rows 4 ≡ is_among (readers s n) account

-- it is so of each registry and of the rows that stand for it
abbrev pub OfAll : (Registry → Trees → Type 0) → Type 0
OfAll fact = (ids : IdAssignment) (s : Registry) (db : Trees) → StandsSoundBy ids s db → fact s db

-- a scope of a token comes back exactly where a pattern of it covers the name
abbrev pub ScopesCover : Registry → Trees → Type 0
ScopesCover s db = (id : ℕ) (t : Token) → with_id s.tokens id ≡ Some t → (n : Text)
    → is_name n ≡ true
    → is_there (scopes_over (Int (pos id)) (canon n) db) ≡ list_any (λ p. covers p n) t.patterns

abbrev pub TokensTell : Registry → Trees → Type 0
TokensTell s db = (digest : Text) → TellsToken s digest (tokens_with_accounts digest db)

abbrev pub CratesTell : Registry → Trees → Type 0
CratesTell s db = (n : Text) (account : ℕ)
    → TellsCrate s n account (crates_seen_by (canon n) (Int (pos account)) db)

-- the id that the rows of a crate show, whichever account they are asked for
abbrev pub shown_id : Trees → Text → Value → Value
shown_id db n account = value_at (crates_seen_by (canon n) account db) 0

-- a version of the crate comes back exactly where it has one of this text, and of its release
abbrev pub VersionsTell : Registry → Trees → Type 0
VersionsTell s db = (n : Text) (account : Value) (text : Text)
    → is_there (versions_with_text (shown_id db n account) text db)
    ≡ list_any (λ p. bytes_eq p.version text) (versions s n)

abbrev pub ReleasesTell : Registry → Trees → Type 0
ReleasesTell s db = (n : Text) (account : Value) (text : Text)
    → is_there (versions_of_release (shown_id db n account) text db)
    ≡ list_any (λ p. same_release p.version text) (versions s n)

-- a text comes back exactly where the administrator reserved it
abbrev pub ReservedTells : Registry → Trees → Type 0
ReservedTells s db = (c : Text) → is_there (reserved_as c db) ≡ finset.contains s.reserved c

-- what the rows decide is what the rules on access decide
abbrev pub JoinsDecide : Registry → Trees → Type 0
JoinsDecide s db = (digest : Text) (a : Action) → is_fit a ≡ true
    → verdict_in (join_rows db digest a) a ≡ access (access_facts s digest a) a
