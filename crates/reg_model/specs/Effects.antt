-- What an allowed request or command does, and what it is answered.
use Rattle.std.specs.Prelude.{ℕ, ◌+◌, if◌then◌else◌, true, false, [], ◌∷◌, length, map, Option, Some, None, unwrap_or, Bool, List}
use Rattle.std.specs.Option.{option_map}
use Rattle.std.specs.FinSet as finset
use Rattle.reg_names.specs.Names.{canon, name_at}
use Rattle.reg_line.specs.Config.{config_text}
use Rattle.reg_model.specs.Changes.{with_account, with_publication, with_reader, with_reserved, with_restricted, with_revoked, with_token, with_yanked, without_reader, without_reserved}
use Rattle.reg_model.specs.Registry.{Text, Registry, id_of_login, ids_of, Account, owner_cmp, change_at}
use Rattle.reg_model.specs.Crates.{exists, version, file, owners, is_reserved_always, viewer}
use Rattle.reg_model.specs.Events.{Asked, Command, Answer, OwnerEntry}
use Rattle.reg_model.specs.Events.Asked.{Malformed, Read, Index, Download, ListOwners, Publish, Yank, Unyank, AddOwners, RemoveOwners}
use Rattle.reg_model.specs.Events.Reading.{Config as of_config, Search as of_search}
use Rattle.reg_model.specs.Events.Command.{UserAdd, UserDisable, UserEnable, TokenAdd, TokenRevoke, Reserve, Unreserve, OwnerAdd, Access, Users, Tokens, Crates, CrateRestrict, CrateOpen, ReaderAdd, ReaderRemove}
use Rattle.reg_model.specs.Events.Answer.{Denied, Granted, Config, Found, File, Archive, Owners, Done, Id, Report}
use Rattle.reg_model.specs.Refusals.{endpoints_named, patterns_given}
use Rattle.reg_model.specs.Reports.{access_text, crates_text, tokens_text, users_text}
use Rattle.reg_model.specs.Search.{found}

-- these accounts, as owners of the crate
abbrev pub owners_of : Text → List ℕ → finset.FinSet owner_cmp
owners_of n ids = finset.from_list (map (λ id. (canon n, id)) ids)

abbrev pub owner_entry : ℕ × Account → OwnerEntry
owner_entry o = record { id = o.0; login = o.1.login; name = o.1.name }

-- the accounts, with the one of this login enabled or not
abbrev pub enable : Bool → Option ℕ → List Account → List Account
enable b None accounts = accounts
enable b (Some id) accounts = change_at (λ a. record a { enabled = b }) id accounts

-- The state after what an account asked for, where it is allowed.
unfoldable pub done : Registry → ℕ → Asked → Registry
done s id (Publish p) = record (with_publication p s) {
  owners = if exists s p.name then s.owners else finset.insert s.owners (canon p.name, id);
}
done s id (Yank n v) = with_yanked true (canon n, v) s
done s id (Unyank n v) = with_yanked false (canon n, v) s
done s id (AddOwners n logins) = record s {
  owners = finset.union s.owners
      (owners_of n (ids_of s logins));
}
done s id (RemoveOwners n logins) = record s {
  owners = finset.difference s.owners
      (owners_of n (ids_of s logins));
}
done s id _ = s

-- What an account, or nobody, is answered.
abbrev pub served : Registry → Option ℕ → Asked → Answer
served s who (Malformed r) = Denied r
served s who (Read of_config) = Config (config_text s.base)
served s who (Read (of_search q most)) = Found (found s who q most)
served s who (Index path) = File (file s (unwrap_or (name_at path) []))
served s who (Download n v) = Archive (unwrap_or (option_map (λ p. p.archive) (version s n v)) [])
served s who (ListOwners n) = Owners (map owner_entry (owners s n))
served s who _ = Granted

-- the id of a token's account
abbrev pub account_of : Registry → Text → ℕ
account_of s digest = unwrap_or (viewer s digest) 0

-- the account that asks, if there is one
abbrev pub caller : Registry → Option Text → Option ℕ
caller s None = None
caller s (Some digest) = viewer s digest

-- The state after a command that is not refused.
unfoldable pub commanded : Registry → Command → Registry
commanded s (UserAdd login name) = with_account login name s
commanded s (UserDisable login) = record s {
  accounts = enable false
      (id_of_login s login) s.accounts;
}
commanded s (UserEnable login) = record s {
  accounts = enable true
      (id_of_login s login) s.accounts;
}
commanded s (TokenAdd login words patterns digest) =
    with_token digest (unwrap_or (id_of_login s login) 0) (endpoints_named words)
    (patterns_given patterns) s
commanded s (TokenRevoke id) = with_revoked id s
commanded s (Reserve n) = if is_reserved_always (canon n) then s else with_reserved (canon n) s
commanded s (Unreserve n) = without_reserved (canon n) s
commanded s (OwnerAdd n login) = record s {
  owners = finset.union s.owners
      (owners_of n (ids_of s (login ∷ [])));
}
commanded s (CrateRestrict n) = with_restricted true (canon n) s
commanded s (CrateOpen n) = with_restricted false (canon n) s
commanded s (ReaderAdd n login) =
    with_reader (canon n, unwrap_or (id_of_login s login) 0) s
commanded s (ReaderRemove n login) =
    without_reader (canon n, unwrap_or (id_of_login s login) 0) s
commanded s _ = s

-- What it is answered: whoever adds a token is told its id, and a report is told.
abbrev pub replied : Registry → Command → Answer
replied s (TokenAdd login words patterns digest) = Id (length s.tokens + 1)
replied s (Access n) = Report (access_text s n)
replied s Users = Report (users_text s)
replied s Tokens = Report (tokens_text s)
replied s Crates = Report (crates_text s)
replied s _ = Done
