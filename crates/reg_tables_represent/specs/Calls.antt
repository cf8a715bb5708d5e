-- What each call is on the registry that the rows stand for. Of an account, a token, a version or a
-- crate that is not there it marks nothing, and of a crate that is not there it tells nothing.
use Rattle.std.proofs.Common.{[], None}
use Rattle.std.specs.Prelude.{◌≡◌, ℕ, ◌+◌, if◌then◌else◌, not, Bool, true, false, List, map, length, nat_le, Option, Some, IfSome, Vec, string_bytes}
use Rattle.std.specs.declared.alloc.Global.{Global}
use Rattle.std.specs.FinSet as finset
use Rattle.std.specs.List.{AllByRecursion, enumerate_from, flat_map, list_any}
use Rattle.std.specs.List.Sorted.{IsStrictlySortedBy}
use Rattle.std.specs.Option.{option_map}
use Rattle.std.specs.Str.{bytes_eq}
use Rattle.sqlite.specs.Tree.{Trees}
use Rattle.reg_names.specs.Names.{canon}
use Rattle.reg_names.specs.declared.endpoint.Endpoints.{Endpoints}
use Rattle.reg_model.specs.Changes.{with_account, with_enabled, with_owner, with_publication, with_revoked, with_token}
use Rattle.reg_model.specs.Crates as model
use Rattle.reg_model.specs.Crates.{exists, first, has_crate, is_restricted, is_yanked, version, versions}
use Rattle.reg_model.specs.Registry.{Publication, Registry, Text, text_cmp, with_id, id_of_login}
use Rattle.reg_model.specs.Sound.{has_version}
use Rattle.reg_tables_sql.specs.declared.accounts.Account.{Account}
use Rattle.reg_tables_sql.specs.declared.crates.Crate.{Crate}
use Rattle.reg_tables_sql.specs.declared.pairs.Relation.{Relation}
use Rattle.reg_tables_sql.specs.declared.pairs.Relation.TheVariants.{Owners, Readers}
use Rattle.reg_tables_sql.specs.declared.scopes.Scope.{Scope}
use Rattle.reg_tables_sql.specs.declared.summaries.Summary.{Summary}
use Rattle.reg_tables_sql.specs.declared.tokens.Token.{Token}
use Rattle.reg_tables_sql.specs.declared.tokens.TokenRow.{TokenRow}
use Rattle.reg_tables_sql.specs.declared.versions.Version.{Version}
use Rattle.reg_tables_sql.specs.Scopes.{columns_of_scope}
use Rattle.reg_tables_represent.specs.declared.crates.NewVersion.{NewVersion}
use Rattle.reg_tables_represent.specs.declared.tokens.TokenRows.{TokenRows}
use Rattle.reg_tables_represent.specs.Entries.{entry_of_account, shown_version, version_shown}
use Rattle.reg_tables_represent.specs.FoundTokens.{IsFound, IsRow}
use Rattle.reg_tables_represent.specs.Relations.{accounts_related, related}
use Rattle.reg_tables_represent.specs.Stands.{StandsSoundBy, IdAssignment, StandsBy, scopes_of, spelling_at}
use Rattle.reg_tables_represent.specs.Summaries.{highest_of}
use Rattle.reg_tables_represent.specs.Changes.{ids_with_crate, ids_with_version, mark_at, next_crate, no_pair_at, pair_at, restricted_at, told_of}
use Rattle.reg_tables_represent.specs.TokenEntries.{entry_of_token, without_patterns}

-- the rows of a registry become those of another, under the same ids
abbrev pub Transforms : (IdAssignment → Registry → Registry) → Trees → Trees → Type 0
Transforms change old new =
    (ids : IdAssignment) (s : Registry) → StandsSoundBy ids s old → StandsBy ids (change ids s) new

-- it is so of the registry
abbrev pub Tells : (IdAssignment → Registry → Type 0) → Trees → Type 0
Tells fact db = (ids : IdAssignment) (s : Registry) → StandsSoundBy ids s db → fact ids s

-- the account is added, and this is its id
abbrev pub AddsAccount : Text → Option Text → Trees → Trees → ℕ → Type 0
AddsAccount login name old new id =
    (ids : IdAssignment) (s : Registry) → StandsSoundBy ids s old
    → (id ≡ 1 + length s.accounts) × StandsBy ids (with_account login name s) new

-- an account is enabled or not
abbrev pub SetsEnabled : Bool → ℕ → Trees → Trees → Type 0
SetsEnabled enabled id = Transforms (λ ids. with_enabled enabled id)

-- the account with this login
abbrev pub FindsAccount : Text → Trees → Option Account → Type 0
FindsAccount login db found = Tells
    (λ ids s. (option_map (λ a. a.id) found ≡ id_of_login s login)
    × IfSome found (λ a. with_id s.accounts a.id ≡ Some (entry_of_account a).1)) db

abbrev pub ListsAccounts : Trees → List Account → Type 0
ListsAccounts db list =
    Tells (λ ids s. map entry_of_account list ≡ enumerate_from 1 s.accounts) db

-- the token is added, and this is its id
abbrev pub AddsToken : Text → ℕ → Endpoints → List Text → Trees → Trees → ℕ → Type 0
AddsToken digest account endpoints patterns old new id =
    (ids : IdAssignment) (s : Registry) → StandsSoundBy ids s old
    → (id ≡ 1 + length s.tokens)
    × StandsBy ids (with_token digest account endpoints patterns s) new

-- a token is no longer live
abbrev pub Ends : ℕ → Trees → Trees → Type 0
Ends id = Transforms (λ ids. with_revoked id)

-- the token with this digest and its account; and with its scopes too
abbrev pub FindsTokenRow : Text → Trees → Option TokenRow → Type 0
FindsTokenRow digest db found = Tells (λ ids s. IsRow s digest found) db

abbrev pub FindsToken : Text → Trees → Option TokenRows → Type 0
FindsToken digest db found = Tells (λ ids s. IsFound s digest found) db

-- whether the token with this id is live, if there is one
abbrev pub TellsLive : ℕ → Trees → Option Bool → Type 0
TellsLive id db found =
    Tells (λ ids s. found ≡ option_map (λ t. t.live) (with_id s.tokens id)) db

abbrev pub ListsTokens : Trees → List Token → Type 0
ListsTokens db list = Tells (λ ids s.
    map entry_of_token list ≡ map without_patterns (enumerate_from 1 s.tokens)) db

abbrev pub ListsScopes : Trees → List Scope → Type 0
ListsScopes db list = Tells (λ ids s.
    map columns_of_scope list ≡ flat_map scopes_of (enumerate_from 1 s.tokens)) db

-- the crate with this canonical text: its spelling, and its id
abbrev pub FindsCrate : Text → Trees → Option Crate → Type 0
FindsCrate text db found = Tells
    (λ ids s. ((n : Text) → canon n ≡ text
    → option_map (λ c. string_bytes c.name) found ≡ first s n)
    × IfSome found (λ c. spelling_at ids c.id ≡ Some (string_bytes c.name))) db

-- each crate once, with its spelling and its id, by canonical text
abbrev pub ListsCrates : Trees → List Crate → Type 0
ListsCrates db list = Tells
    (λ ids s. AllByRecursion (λ c.
    (first s (string_bytes c.name) ≡ Some (string_bytes c.name))
    × (spelling_at ids c.id ≡ Some (string_bytes c.name))) list
    × IsStrictlySortedBy text_cmp (map (λ c. canon (string_bytes c.name)) list)
    × ((t : Text) → list_any (λ c. bytes_eq (canon (string_bytes c.name)) t) list
    ≡ has_crate s t)) db

-- the versions of the crate with this id, oldest first
abbrev pub ListsVersions : ℕ → Trees → List Version → Type 0
ListsVersions id db list = Tells
    (λ ids s. map shown_version list ≡ told_of (spelling_at ids id) []
    (λ name. map (version_shown s.yanked) (versions s name))) db

-- the archive of this very version of the crate with this id
abbrev pub FindsArchive : ℕ → Text → Trees → Option (Vec ℕ Global) → Type 0
FindsArchive id text db found = Tells
    (λ ids s. option_map (λ b. b.items) found ≡ told_of (spelling_at ids id) None
    (λ name. option_map (λ p. p.archive) (version s name text))) db

-- what is published of a crate with this spelling
abbrev pub published : Text → NewVersion → Publication
published name v = record {
  name = name;
  version = v.text.now;
  description = option_map (λ d. d.now) v.description;
  stem = v.stem.now;
  digest = v.digest.now;
  archive = v.archive.now;
}

-- a crate is added with its first version and its owner, and this is its id
abbrev pub AddsFirst : Text → ℕ → NewVersion → Trees → Trees → ℕ → Type 0
AddsFirst name owner v old new id =
    (ids : IdAssignment) (s : Registry) → StandsSoundBy ids s old → exists s name ≡ false
    → (id ≡ next_crate ids) × StandsBy (ids_with_crate (published name v) ids)
    (with_owner (canon name, owner) (with_publication (published name v) s)) new

-- a version is added to a crate that is there
abbrev pub AddsNext : ℕ → NewVersion → Trees → Trees → Type 0
AddsNext id v old new =
    (ids : IdAssignment) (s : Registry) (name : Text) → StandsSoundBy ids s old
    → spelling_at ids id ≡ Some name
    → has_version s (canon name) v.text.now ≡ false
    → StandsBy (ids_with_version id (published name v) ids)
    (with_publication (published name v) s) new

-- whether a version that is there, of the crate with this id, has not this mark
abbrev pub TellsOtherMark : ℕ → Text → Bool → Trees → Bool → Type 0
TellsOtherMark id text yanked db other = Tells (λ ids s. (n : Text) → spelling_at ids id ≡ Some n
    → has_version s (canon n) text ≡ true
    → is_yanked s n text ≡ (if other then not yanked else yanked)) db

-- a version is yanked, or no longer
abbrev pub SetsYanked : ℕ → Text → Bool → Trees → Trees → Type 0
SetsYanked id text yanked = Transforms (λ ids. mark_at ids id text yanked)

-- an account is in a relation with a crate, or no longer
abbrev pub AddsPair : Relation → ℕ → ℕ → Trees → Trees → Type 0
AddsPair relation id account = Transforms (λ ids. pair_at relation ids id account)

abbrev pub RemovesPair : Relation → ℕ → ℕ → Trees → Trees → Type 0
RemovesPair relation id account = Transforms (λ ids. no_pair_at relation ids id account)

-- whether an account is in a relation with the crate of this id
abbrev pub TellsPair : Relation → ℕ → ℕ → Trees → Bool → Type 0
TellsPair relation id account db is = Tells (λ ids s. (n : Text) → spelling_at ids id ≡ Some n
    → finset.contains (related relation s) (canon n, account) ≡ is) db

-- the accounts in a relation with the crate of this id, by their ids
abbrev pub ListsPairs : Relation → ℕ → Trees → List Account → Type 0
ListsPairs relation id db list = Tells (λ ids s. map entry_of_account list
    ≡ told_of (spelling_at ids id) [] (accounts_related relation s)) db

-- the same of owners, and of readers
abbrev pub AddsOwner : ℕ → ℕ → Trees → Trees → Type 0
AddsOwner = AddsPair Owners

abbrev pub RemovesOwner : ℕ → ℕ → Trees → Trees → Type 0
RemovesOwner = RemovesPair Owners

abbrev pub ListsOwners : ℕ → Trees → List Account → Type 0
ListsOwners = ListsPairs Owners

abbrev pub AddsReader : ℕ → ℕ → Trees → Trees → Type 0
AddsReader = AddsPair Readers

abbrev pub RemovesReader : ℕ → ℕ → Trees → Trees → Type 0
RemovesReader = RemovesPair Readers

abbrev pub ListsReaders : ℕ → Trees → List Account → Type 0
ListsReaders = ListsPairs Readers

-- a crate is restricted, or open to all
abbrev pub Restricts : Bool → ℕ → Trees → Trees → Type 0
Restricts restricted id = Transforms (λ ids. restricted_at ids id restricted)

-- whether the crate with this id has yet to become so
abbrev pub TellsOtherSight : ℕ → Bool → Trees → Bool → Type 0
TellsOtherSight id restricted db other = Tells (λ ids s. (n : Text) → spelling_at ids id ≡ Some n
    → is_restricted s n ≡ (if other then not restricted else restricted)) db

abbrev pub TellsRestricted : ℕ → Trees → Bool → Type 0
TellsRestricted id db there = Tells
    (λ ids s. there ≡ told_of (spelling_at ids id) false (is_restricted s)) db

-- whether the administrator reserved the name
abbrev pub TellsReserved : Text → Trees → Bool → Type 0
TellsReserved canon db there = Tells (λ ids s. there ≡ finset.contains s.reserved canon) db

-- the summary of the crate with this id: the id of its highest version, and how long its index file
-- is; none where there is no crate
abbrev pub FindsSummary : ℕ → Trees → Option Summary → Type 0
FindsSummary id db found = Tells
    (λ ids s. (option_map (λ m. m.highest) found ≡ told_of (spelling_at ids id) None
    (λ name. Some (highest_of ids s.yanked id)))
    × (option_map (λ m. m.index_length) found ≡ told_of (spelling_at ids id) None
    (λ name. Some (length (model.file s name))))) db

-- a number of the registry
abbrev pub Counted : (Registry → ℕ) → Trees → ℕ → Type 0
Counted number db n = Tells (λ ids s. n ≡ number s) db

-- whether there are as many crates as this
abbrev pub ReachesCrates : ℕ → Trees → Bool → Type 0
ReachesCrates number db is = Tells (λ ids s. is ≡ nat_le number (model.crates s)) db

-- whether the crate with this id and this spelling has as many versions as this
abbrev pub ReachesVersions : ℕ → Text → ℕ → Trees → Bool → Type 0
ReachesVersions id name number db is = Tells (λ ids s.
    spelling_at ids id ≡ Some name → is ≡ nat_le number (length (versions s name))) db
