-- The rows that the access texts answer, whatever the tables hold: of a token with its account, of
-- its scopes, of a crate with what an account is to it, of a version or of a reserved name. None
-- reads a pattern.
use Rattle.std.specs.Prelude.{ℕ, if◌then◌else◌, not, Bool, true, false, ◌&&◌, List, [], ◌∷◌, ◌++◌, map, filter, Option, Some, None}
use Rattle.std.specs.Ordering.{int_eq}
use Rattle.std.specs.Prelude.{pos}
use Rattle.std.specs.List.{flat_map}
use Rattle.sqlite.specs.Collation.TheVariants.{Binary}
use Rattle.sqlite.specs.Ops.{binary, is_null, is_true}
use Rattle.sqlite.specs.Order.{Row, column}
use Rattle.sqlite.specs.Query.{or_nulls}
use Rattle.sqlite.specs.Tree.{Trees}
use Rattle.sqlite.specs.declared.types.Value.{Value}
use Rattle.sqlite.specs.declared.types.Value.TheVariants.{Null, Int, Text}
use Rattle.sqlite_schema.specs.Rules.{equal}
use Rattle.sqlite_sql.specs.declared.ops.BinaryOp.TheVariants.{Compare}
use Rattle.sqlite_sql.specs.declared.ops.CompareOp.TheVariants.{Le, Lt}
use Rattle.reg_names.specs.Names.{canon}
use Rattle.reg_versions.specs.Versions.{release_key_of}
use Rattle.reg_model.specs.Registry.{Text as Bytes}
use Rattle.reg_model.specs.Actions.{Action}
use Rattle.reg_model.specs.Actions.Action.{Download, Publish, Yank, Unyank}
use Rattle.reg_tables_schema.specs.Places.{crate_canon_place, crates_tree, id_place, owners_tree, readers_tree, release_place, reserved_canon_place, reserved_tree, restricted_crate_place, restricted_tree, scope_place_place, scope_token_place, scopes_tree, tokens_tree, vers_place, version_crate_place, versions_tree}
use Rattle.reg_tables_schema.specs.Tests.{shows}
use Rattle.reg_tables_sql.specs.Pairs.{pair_account_place, pair_crate_place}

-- as SQL's <= and <, which are not true of NULL
abbrev pub is_at_most : Value → Value → Bool
is_at_most a b = is_true (binary (Compare Le Binary) a b)

abbrev pub is_below : Value → Value → Bool
is_below a b = is_true (binary (Compare Lt Binary) a b)

-- of a scope
abbrev pub low_place : ℕ
low_place = 4

abbrev pub high_place : ℕ
high_place = 5

-- of a crate
abbrev pub name_place : ℕ
name_place = 3

-- the scope is of the token, and its range holds the canonical text
abbrev pub is_scope_over : Bytes → Row → Row → Bool
is_scope_over canon token scope =
    equal Binary (column scope scope_token_place) (column token id_place)
    && (is_at_most (column scope low_place) (Text canon)
    && is_below (Text canon) (column scope high_place))

-- the places of the scopes of the token with this id that hold the canonical text
abbrev pub scopes_over : Value → Bytes → Trees → List Row
scopes_over id canon db =
    flat_map (λ token. map (shows (scope_place_place ∷ []))
    (filter (is_scope_over canon token) (db scopes_tree)))
    (filter (λ token. equal Binary (column token id_place) id) (db tokens_tree))

-- an owner or a reader is one of the crate, and is this account
abbrev pub is_pair_of : Value → Row → Row → Bool
is_pair_of account of_crate pair =
    equal Binary (column pair pair_crate_place) (column of_crate id_place)
    && equal Binary (column pair pair_account_place) account

-- the row of a restricted crate is that of the crate
abbrev pub is_mark_of : Row → Row → Bool
is_mark_of of_crate mark =
    equal Binary (column mark restricted_crate_place) (column of_crate id_place)

-- the id and the spelling of a crate, and then its owner, its mark and its reader
abbrev pub crate_columns : Row → Row → Row → Row → Row
crate_columns of_crate owner mark reader =
    shows (id_place ∷ name_place ∷ []) of_crate
    ++ (column owner pair_account_place ∷ column mark restricted_crate_place
    ∷ column reader pair_account_place ∷ [])

-- a row of a crate beside each of some owners, of some marks, of some readers
abbrev pub beside_all : Row → List Row → List Row → List Row → List Row
beside_all of_crate owners marks readers =
    flat_map (λ owner. flat_map (λ mark. map (crate_columns of_crate owner mark) readers) marks)
    owners

-- The crates with this canonical text, each beside its owner that is this account, its mark where
-- it is restricted, and its reader that is this account, or beside NULL where it has none.
abbrev pub crates_seen_by : Bytes → Value → Trees → List Row
crates_seen_by canon account db =
    flat_map (λ of_crate. beside_all of_crate
    (or_nulls (filter (is_pair_of account of_crate) (db owners_tree)))
    (or_nulls (filter (is_mark_of of_crate) (db restricted_tree)))
    (or_nulls (filter (is_pair_of account of_crate) (db readers_tree))))
    (filter (λ of_crate. equal Binary (column of_crate crate_canon_place) (Text canon))
    (db crates_tree))

-- the version is of this crate and of this release
abbrev pub is_release : Value → Bytes → Row → Bool
is_release of_crate release version =
    equal Binary (column version version_crate_place) of_crate
    && equal Binary (column version release_place) (Text release)

-- and has this very text
abbrev pub is_version : Value → Bytes → Row → Bool
is_version of_crate text version =
    is_release of_crate (release_key_of text) version
    && equal Binary (column version vers_place) (Text text)

-- the ids of the versions of this crate with this text, and of the release of this text
abbrev pub versions_with_text : Value → Bytes → Trees → List Row
versions_with_text of_crate text db =
    map (shows (id_place ∷ [])) (filter (is_version of_crate text) (db versions_tree))

abbrev pub versions_of_release : Value → Bytes → Trees → List Row
versions_of_release of_crate text db =
    map (shows (id_place ∷ [])) (filter (is_release of_crate (release_key_of text))
    (db versions_tree))

-- the canonical texts that are reserved and are this one
abbrev pub reserved_as : Bytes → Trees → List Row
reserved_as canon db =
    map (shows (reserved_canon_place ∷ []))
    (filter (λ r. equal Binary (column r reserved_canon_place) (Text canon)) (db reserved_tree))

-- whether an answer has a row
abbrev pub is_there : List Row → Bool
is_there [] = false
is_there (r ∷ rs) = true

-- the value in a column of the first row: NULL where there is no row
abbrev pub value_at : List Row → ℕ → Value
value_at [] place = Null
value_at (r ∷ rs) place = column r place

-- whether it is not NULL
abbrev pub is_shown : List Row → ℕ → Bool
is_shown rows place = not (is_null (value_at rows place))

abbrev pub text_in : Value → Option Bytes
text_in (Text t) = Some t
text_in _ = None

abbrev pub is_mark_set : Value → Bool
is_mark_set (Int n) = int_eq n (pos 1)
is_mark_set _ = false

-- What is asked last, where these are the rows of the crate: a version by its text, or what stands
-- against a publication, a version of its release or, of a crate that is not there, its name.
abbrev pub last_rows : Action → List Row → Trees → List Row
last_rows (Download n v) of_crate db = versions_with_text (value_at of_crate 0) v db
last_rows (Yank n v) of_crate db = versions_with_text (value_at of_crate 0) v db
last_rows (Unyank n v) of_crate db = versions_with_text (value_at of_crate 0) v db
last_rows (Publish n v) of_crate db =
    if is_there of_crate
    then versions_of_release (value_at of_crate 0) v db
    else reserved_as (canon n) db
last_rows _ of_crate db = []

-- whether the action is about a version that is to be there, or publishes one
abbrev pub names_version : Action → Bool
names_version (Download n v) = true
names_version (Yank n v) = true
names_version (Unyank n v) = true
names_version _ = false

abbrev pub publishes : Action → Bool
publishes (Publish n v) = true
publishes _ = false

-- what is asked last of the version that is named, and of what stands against a publication
abbrev pub named_rows : Action → List Row → Trees → List Row
named_rows a of_crate db = if names_version a then last_rows a of_crate db else []

abbrev pub against_rows : Action → List Row → Trees → List Row
against_rows a of_crate db = if publishes a then last_rows a of_crate db else []
