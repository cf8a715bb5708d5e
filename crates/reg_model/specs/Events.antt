-- What is asked of a registry, and what it answers.
use Rattle.std.specs.Prelude.{ℕ, List, Option, Some, None}
use Rattle.reg_model.specs.declared.rule.Rule.{Rule}
use Rattle.reg_model.specs.declared.rule.AdminRefusal.{AdminRefusal}
use Rattle.reg_model.specs.Registry.{Text, Publication}
use Rattle.reg_model.specs.Actions.{Action}
use Rattle.reg_model.specs.Actions.Action.{Read as to_read, Index as to_index, Download as to_download, ListOwners as to_list, Publish as to_publish, Yank as to_yank, Unyank as to_unyank, AddOwners as to_add, RemoveOwners as to_remove}

-- what is read beside index files, archives and owners
pub data Reading : Type 0 where
  Config : Reading
  -- the text that is sought, and how many crates are asked for at most
  Search : Text → ℕ → Reading

-- what a request asks for
pub data Asked : Type 0 where
  -- its body or its query breaks this rule, and none before it
  Malformed : Rule → Asked
  Read : Reading → Asked
  -- an index path
  Index : Text → Asked
  -- a crate and a version
  Download : Text → Text → Asked
  ListOwners : Text → Asked
  Publish : Publication → Asked
  Yank : Text → Text → Asked
  Unyank : Text → Text → Asked
  -- a crate and logins
  AddOwners : Text → List Text → Asked
  RemoveOwners : Text → List Text → Asked

-- an owner, as owner lists show it
pub record OwnerEntry : Type 0 where
  pub id : ℕ
  pub login : Text
  pub name : Option Text

-- the action of what is asked: all of it that the rules on the state look at
abbrev pub action_of : Asked → Action
action_of (Malformed r) = to_read
action_of (Read what) = to_read
action_of (Index path) = to_index path
action_of (Download n v) = to_download n v
action_of (ListOwners n) = to_list n
action_of (Publish p) = to_publish p.name p.version
action_of (Yank n v) = to_yank n v
action_of (Unyank n v) = to_unyank n v
action_of (AddOwners n logins) = to_add n logins
action_of (RemoveOwners n logins) = to_remove n logins

-- the rule that the body or the query breaks
abbrev pub fault_of : Asked → Option Rule
fault_of (Malformed r) = Some r
fault_of _ = None

-- a command of the administrator
pub data Command : Type 0 where
  -- a login, and the account's name if it has one
  UserAdd : Text → Option Text → Command
  UserDisable : Text → Command
  UserEnable : Text → Command
  -- a login, the words for endpoints, the patterns, and the digest
  TokenAdd : Text → List Text → List Text → Text → Command
  -- an id
  TokenRevoke : ℕ → Command
  Reserve : Text → Command
  Unreserve : Text → Command
  -- a crate and a login
  OwnerAdd : Text → Text → Command
  -- who may act on a crate, and who reads it; all accounts; all tokens; all crates
  Access : Text → Command
  Users : Command
  Tokens : Command
  Crates : Command
  CrateRestrict : Text → Command
  CrateOpen : Text → Command
  -- a crate and a login
  ReaderAdd : Text → Text → Command
  ReaderRemove : Text → Text → Command

pub data Event : Type 0 where
  -- the digest of the token, if just one was shown, and what is asked for
  Ask : Option Text → Asked → Event
  Order : Command → Event

-- a crate that a search finds: its name, its highest version, and that version's description
pub record Hit : Type 0 where
  pub name : Text
  pub version : Text
  pub description : Option Text

-- how many crates match, and the first of them
pub record FoundCrates : Type 0 where
  pub total : ℕ
  pub crates : List Hit

pub data Answer : Type 0 where
  Denied : Rule → Answer
  -- the request is granted; what is said of it is always the same
  Granted : Answer
  -- the config; what a search found
  Config : Text → Answer
  Found : FoundCrates → Answer
  -- an index file; an archive; the owners of a crate
  File : Text → Answer
  Archive : Text → Answer
  Owners : List OwnerEntry → Answer
  Refused : AdminRefusal → Answer
  -- a command is done; one that adds a token tells its id, and a report is a text
  Done : Answer
  Id : ℕ → Answer
  Report : Text → Answer
