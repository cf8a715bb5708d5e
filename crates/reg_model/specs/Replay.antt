-- The lines of a trail, done again.
use Rattle.std.specs.Prelude.{◌≡◌, ℕ, ◌==◌, if◌then◌else◌, List, [], ◌∷◌, codes, map, Option, Some, None, unwrap_or}
use Rattle.std.specs.List.{join_with_byte, slice_split}
use Rattle.std.specs.Str.{bytes_eq}
use Rattle.std.specs.Str.Parse.{digits_value}
use Rattle.reg_model.specs.Registry.{Text, Publication, Registry, Token, id_of_login}
use Rattle.reg_model.specs.Effects.{commanded, done}
use Rattle.reg_model.specs.Events.{Asked, Command}
use Rattle.reg_model.specs.Events.Asked.{AddOwners, Publish, Read, RemoveOwners, Unyank, Yank}
use Rattle.reg_model.specs.Events.Reading.{Config}
use Rattle.reg_model.specs.Events.Command.{CrateOpen, CrateRestrict, OwnerAdd, ReaderAdd, ReaderRemove, Reserve, TokenAdd, TokenRevoke, Unreserve, UserAdd, UserDisable, UserEnable, Users}
use Rattle.reg_model.specs.Trail.{words_in}

-- the texts between commas
abbrev pub at_commas : Text → List Text
at_commas = slice_split (λ b. b == 44)

-- a publication that carries nothing
abbrev pub bare : Text → Text → Publication
bare n v = record {
  name = n;
  version = v;
  description = None;
  stem = [];
  digest = [];
  archive = [];
}

-- what some words ask for; reading where they ask for nothing
abbrev pub asked_in : List Text → Asked
asked_in (verb ∷ n ∷ v ∷ []) =
    if bytes_eq verb (codes "publish") then Publish (bare n v)
    else if bytes_eq verb (codes "yank") then Yank n v
    else if bytes_eq verb (codes "unyank") then Unyank n v
    else if bytes_eq verb (codes "add-owners") then AddOwners n (at_commas v)
    else if bytes_eq verb (codes "remove-owners") then RemoveOwners n (at_commas v)
    else Read Config
asked_in _ = Read Config

abbrev pub name_in : List Text → Option Text
name_in [] = None
name_in (flag ∷ words) = Some (join_with_byte 32 words)

-- what some words order, of a token no digest; a report where they order nothing
abbrev pub command_in : List Text → Command
command_in (verb ∷ x ∷ []) =
    if bytes_eq verb (codes "user-add") then UserAdd x None
    else if bytes_eq verb (codes "user-disable") then UserDisable x
    else if bytes_eq verb (codes "user-enable") then UserEnable x
    else if bytes_eq verb (codes "token-revoke") then TokenRevoke (digits_value 10 x)
    else if bytes_eq verb (codes "reserve") then Reserve x
    else if bytes_eq verb (codes "unreserve") then Unreserve x
    else if bytes_eq verb (codes "crate-restrict") then CrateRestrict x
    else if bytes_eq verb (codes "crate-open") then CrateOpen x
    else Users
command_in (verb ∷ x ∷ y ∷ []) =
    if bytes_eq verb (codes "owner-add") then OwnerAdd x y
    else if bytes_eq verb (codes "reader-add") then ReaderAdd x y
    else if bytes_eq verb (codes "reader-remove") then ReaderRemove x y
    else Users
command_in (verb ∷ x ∷ flag ∷ y ∷ more) =
    if bytes_eq verb (codes "user-add") then UserAdd x (Some (join_with_byte 32 (y ∷ more)))
    else if bytes_eq verb (codes "token-add") then token_in x y more
    else Users
  where
    token_in : Text → Text → List Text → Command
    token_in login words (flag ∷ patterns ∷ []) =
        TokenAdd login (at_commas words) (at_commas patterns) []
    token_in login words _ = Users
command_in _ = Users

-- what a line tells, done again
abbrev pub replayed : Registry → List Text → Registry
replayed s (who ∷ login ∷ words) =
    if bytes_eq who (codes "-") then commanded s (command_in words)
    else done s (unwrap_or (id_of_login s login) 0) (asked_in words)
replayed s _ = s

-- the lines of a trail, each in its words
abbrev pub lines_in : Text → List (List Text)
lines_in trail = map words_in (slice_split (λ b. b == 10) trail)

-- the lines, one after another
abbrev pub replay : Registry → List (List Text) → Registry
replay s [] = s
replay s (words ∷ more) = replay (replayed s words) more

-- what is told of a token and of a publication: all but the digest, and the name and version
abbrev pub told_token : Token → Token
told_token t = record t { digest = [] }

abbrev pub told_publication : Publication → Publication
told_publication p = bare p.name p.version

-- two registries differ in nothing but what publications carry, and in the digests of tokens
pub record AreAlike (s t : Registry) : Type 0 where
  pub base : s.base ≡ t.base
  pub accounts : s.accounts ≡ t.accounts
  pub tokens : map told_token s.tokens ≡ map told_token t.tokens
  pub publications : map told_publication s.publications ≡ map told_publication t.publications
  pub owners : s.owners ≡ t.owners
  pub yanked : s.yanked ≡ t.yanked
  pub reserved : s.reserved ≡ t.reserved
  pub restricted : s.restricted ≡ t.restricted
  pub readers : s.readers ≡ t.readers
