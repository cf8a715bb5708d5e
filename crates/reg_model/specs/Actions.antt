-- What a request does, as far as the rules look at it (the Cargo Book, "Registry Web API" and
-- "Registry Index"). Crates and versions are texts as they stood in a path.
use Rattle.std.specs.Prelude.{List, [], Option, Some, None}
use Rattle.reg_names.specs.Names.{name_at, name_of}
use Rattle.reg_model.specs.Registry.{Text}

pub data Action : Type 0 where
  Read : Action
  -- an index path
  Index : Text → Action
  -- a crate and a version
  Download : Text → Text → Action
  ListOwners : Text → Action
  -- a name and a version
  Publish : Text → Text → Action
  Yank : Text → Text → Action
  Unyank : Text → Text → Action
  -- a crate and logins
  AddOwners : Text → List Text → Action
  RemoveOwners : Text → List Text → Action

-- The name of the crate that an action is about; none where the text in its place is no crate name.
-- What is published has a name, where the event is fit.
abbrev pub crate_of : Action → Option Text
crate_of Read = None
crate_of (Index path) = name_at path
crate_of (Download n v) = name_of n
crate_of (ListOwners n) = name_of n
crate_of (Publish n v) = Some n
crate_of (Yank n v) = name_of n
crate_of (Unyank n v) = name_of n
crate_of (AddOwners n logins) = name_of n
crate_of (RemoveOwners n logins) = name_of n

-- the version that an action names
abbrev pub version_of : Action → Text
version_of (Download n v) = v
version_of (Publish n v) = v
version_of (Yank n v) = v
version_of (Unyank n v) = v
version_of _ = []

-- the logins that an action names
abbrev pub logins_of : Action → List Text
logins_of (AddOwners n logins) = logins
logins_of (RemoveOwners n logins) = logins
logins_of _ = []
