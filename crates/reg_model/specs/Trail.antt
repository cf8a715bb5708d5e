-- The trail of a registry: a line for each change, which tells who made it, and by which token.
use Rattle.std.specs.Prelude.{◌≡◌, ℕ, ◌-◌, ◌==◌, if◌then◌else◌, Bool, true, false, List, [], ◌∷◌, ◌++◌, codes, length, take, Option, Some, None, unwrap_or}
use Rattle.std.specs.Fmt.{decimal}
use Rattle.std.specs.List.{join_with_byte, list_all, list_any, position_from, slice_split}
use Rattle.std.specs.Option.{option_map}
use Rattle.std.specs.FinSet as finset
use Rattle.std.specs.Str.{bytes_eq}
use Rattle.reg_body.specs.declared.limits.Limits.{Limits}
use Rattle.reg_names.specs.Names.{canon}
use Rattle.reg_model.specs.declared.rule.Rule.TheVariants.{S1}
use Rattle.reg_model.specs.declared.rule.AdminRefusal.TheVariants.{G10}
use Rattle.reg_model.specs.Registry.{Text, Registry, holds, ids_of, is_known, with_id}
use Rattle.reg_model.specs.Crates.{first, is_reserved, is_restricted, is_yanked, owns, reads}
use Rattle.reg_model.specs.Effects.{account_of}
use Rattle.reg_model.specs.Events.{Answer, Asked, Command, Event}
use Rattle.reg_model.specs.Events.Answer.{Denied, Refused}
use Rattle.reg_model.specs.Events.Asked.{AddOwners, Publish, RemoveOwners, Unyank, Yank}
use Rattle.reg_model.specs.Events.Command.{CrateOpen, CrateRestrict, OwnerAdd, ReaderAdd, ReaderRemove, Reserve, TokenAdd, TokenRevoke, Unreserve, UserAdd, UserDisable, UserEnable}
use Rattle.reg_model.specs.Events.Event.{Ask, Order}
use Rattle.reg_model.specs.Refusals.{denied, patterns_given, refused}
use Rattle.reg_model.specs.Reports.{login_of, with_commas}
use Rattle.reg_model.specs.Steps.{outcome}

-- the words of a text, cut at each space
abbrev pub words_in : Text → List Text
words_in = slice_split (λ b. b == 32)

-- a line: its words with a space between each two, and a line feed
abbrev pub line_of : List Text → Text
line_of words = join_with_byte 32 words ++ 10 ∷ []

-- the words of a line
abbrev pub words_of : Text → List Text
words_of line = words_in (take (length line - 1) line)

-- the words of the mark of an opening: how many accounts, tokens and publications are there
abbrev pub opened_words : Registry → List Text
opened_words s = codes "-" ∷ codes "opened" ∷ decimal (length s.accounts)
    ∷ decimal (length s.tokens) ∷ decimal (length s.publications) ∷ []

-- the mark: the line with which a trail goes on once a registry was opened
abbrev pub opened : Registry → Text
opened s = line_of (opened_words s)

-- the id of the token with a digest
abbrev pub id_of_token : Registry → Text → ℕ
id_of_token s digest = unwrap_or (position_from (λ t. bytes_eq t.digest digest) 1 s.tokens) 0

-- who asks: a token by its id, and its account by login
abbrev pub asker : Registry → Text → List Text
asker s digest = decimal (id_of_token s digest) ∷ login_of s (account_of s digest) ∷ []

-- a crate by its spelling
abbrev pub spelled : Registry → Text → Text
spelled s n = unwrap_or (first s n) n

abbrev pub only_if : Bool → List Text → Option (List Text)
only_if true words = Some words
only_if false words = None

abbrev pub unless : Bool → List Text → Option (List Text)
unless true words = None
unless false words = Some words

-- the words for what an allowed request changes; none where it changes nothing
abbrev pub request_words : Registry → Asked → Option (List Text)
request_words s (Publish p) = Some (codes "publish" ∷ p.name ∷ p.version ∷ [])
request_words s (Yank n v) = unless (is_yanked s n v) (codes "yank" ∷ spelled s n ∷ v ∷ [])
request_words s (Unyank n v) = only_if (is_yanked s n v) (codes "unyank" ∷ spelled s n ∷ v ∷ [])
request_words s (AddOwners n logins) = unless (list_all (owns s n) (ids_of s logins))
    (codes "add-owners" ∷ spelled s n ∷ with_commas logins ∷ [])
request_words s (RemoveOwners n logins) = only_if (list_any (owns s n) (ids_of s logins))
    (codes "remove-owners" ∷ spelled s n ∷ with_commas logins ∷ [])
request_words s _ = None

-- the words for an account's name, if it has one
abbrev pub name_words : Option Text → List Text
name_words None = []
name_words (Some name) = codes "--name" ∷ words_in name

-- whether the account with this login has what is asked of it
abbrev pub has_account : (Registry → Text → ℕ → Bool) → Registry → Text → Text → Bool
has_account is s n login = list_all (is s n) (ids_of s (login ∷ []))

-- the words for what a command that is not refused changes; none where it changes nothing
abbrev pub command_words : Registry → Command → Option (List Text)
command_words s (UserAdd login name) = Some (codes "user-add" ∷ login ∷ name_words name)
command_words s (UserDisable login) = only_if (is_known s login)
    (codes "user-disable" ∷ login ∷ [])
command_words s (UserEnable login) = unless (is_known s login) (codes "user-enable" ∷ login ∷ [])
command_words s (TokenAdd login words patterns digest) = Some (codes "token-add" ∷ login
    ∷ codes "--endpoints" ∷ with_commas words
    ∷ codes "--patterns" ∷ with_commas (patterns_given patterns) ∷ [])
command_words s (TokenRevoke id) = only_if (holds (λ t. t.live) (with_id s.tokens id))
    (codes "token-revoke" ∷ decimal id ∷ [])
command_words s (Reserve n) = unless (is_reserved s n) (codes "reserve" ∷ n ∷ [])
command_words s (Unreserve n) = only_if (finset.contains s.reserved (canon n))
    (codes "unreserve" ∷ n ∷ [])
command_words s (OwnerAdd n login) = unless (has_account owns s n login)
    (codes "owner-add" ∷ spelled s n ∷ login ∷ [])
command_words s (CrateRestrict n) = unless (is_restricted s n)
    (codes "crate-restrict" ∷ spelled s n ∷ [])
command_words s (CrateOpen n) = only_if (is_restricted s n) (codes "crate-open" ∷ spelled s n ∷ [])
command_words s (ReaderAdd n login) = unless (has_account reads s n login)
    (codes "reader-add" ∷ spelled s n ∷ login ∷ [])
command_words s (ReaderRemove n login) = only_if (has_account reads s n login)
    (codes "reader-remove" ∷ spelled s n ∷ login ∷ [])
command_words s _ = None

-- the same behind who it was: a token, or the administrator
abbrev pub with_asker : Registry → Event → List Text → List Text
with_asker s (Ask None asked) words = words
with_asker s (Ask (Some digest) asked) words = asker s digest ++ words
with_asker s (Order c) words = codes "-" ∷ codes "admin" ∷ words

abbrev pub unless_some : {X : Type 0} → Option X → Option (List Text) → Option (List Text)
unless_some None words = words
unless_some (Some x) words = None

-- the words for what an event changes; none where it is refused, or changes nothing
abbrev pub event_words : Limits → Registry → Event → Option (List Text)
event_words limits s (Ask digest asked) =
    unless_some (denied limits s digest asked) (request_words s asked)
event_words limits s (Order c) = unless_some (refused limits s c) (command_words s c)

-- nothing refuses the event
abbrev pub IsPassed : Limits → Registry → Event → Type 0
IsPassed limits s (Ask digest asked) = denied limits s digest asked ≡ None
IsPassed limits s (Order c) = refused limits s c ≡ None

-- the line of an event
unfoldable pub line : Limits → Registry → Event → Option Text
line limits s e = option_map (λ words. line_of (with_asker s e words)) (event_words limits s e)

abbrev pub or_nothing : Option Text → Text
or_nothing None = []
or_nothing (Some t) = t

-- whether an answer tells that there was no room
abbrev pub has_no_room : Answer → Bool
has_no_room (Denied S1) = true
has_no_room (Refused G10) = true
has_no_room _ = false

-- the line of an event that was answered so; nothing where it has none, or there was no room
abbrev pub told : Limits → Registry → Event → Answer → Text
told limits s e a = if has_no_room a then [] else or_nothing (line limits s e)

-- the trail of a run: the lines of its events, in order
abbrev pub trail : Limits → Registry → List Event → List Answer → Text
trail limits s [] as' = []
trail limits s (e ∷ es) [] = []
trail limits s (e ∷ es) (a ∷ as') =
    if has_no_room a then trail limits s es as'
    else or_nothing (line limits s e) ++ trail limits (outcome limits s e).1 es as'
