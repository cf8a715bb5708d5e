-- The bodies of replies (the Cargo Book, "Registry Web API").
use Rattle.std.specs.Prelude.{ℕ, List, [], ◌++◌, map, codes}
use Rattle.serde_json.specs.Data.{Data, array, member, no_members, number, object, string, unsigned}
use Rattle.serde_json.specs.View.{items_of}
use Rattle.serde_json.specs.Written.{compact_text}
use Rattle.reg_line.specs.Line.{text_or_null}
use Rattle.reg_model.specs.declared.rule.Rule.{Rule}
use Rattle.reg_model.specs.Registry.{Text}
use Rattle.reg_model.specs.Events.{Answer, Asked, FoundCrates, Hit, OwnerEntry}
use Rattle.reg_model.specs.Events.Answer.{Denied, Granted, Config, Found, File, Archive, Owners}
use Rattle.reg_model.specs.Events.Asked.{Publish, Yank, Unyank, AddOwners, RemoveOwners}
use Rattle.reg_policy.specs.Words.{text_of}

-- ---- lists, as compact JSON

abbrev pub owner_data : OwnerEntry → Data
owner_data o = object
    (member (codes "id") (number (unsigned o.id))
    (member (codes "login") (string o.login)
    (member (codes "name") (text_or_null o.name) no_members)))

abbrev pub owners_data : List OwnerEntry → Data
owners_data os = object (member (codes "users") (array (items_of (map owner_data os))) no_members)

-- the owners of a crate ("Owners: List")
unfoldable pub owners_body : List OwnerEntry → Text
owners_body os = compact_text (owners_data os)

abbrev pub hit_data : Hit → Data
hit_data h = object
    (member (codes "description") (text_or_null h.description)
    (member (codes "max_version") (string h.version)
    (member (codes "name") (string h.name) no_members)))

abbrev pub total_data : ℕ → Data
total_data total = object (member (codes "total") (number (unsigned total)) no_members)

abbrev pub found_data : FoundCrates → Data
found_data f = object
    (member (codes "crates") (array (items_of (map hit_data f.crates)))
    (member (codes "meta") (total_data f.total) no_members))

-- the crates that a search finds ("Search")
unfoldable pub found_body : FoundCrates → Text
found_body f = compact_text (found_data f)

-- ---- what is always the same

-- a version is published, without a warning ("Publish")
abbrev pub publish_body : Text
publish_body =
    codes "{\"warnings\":{\"invalid_badges\":[],\"invalid_categories\":[],\"other\":[]}}"

-- a version is yanked, or no longer ("Yank", "Unyank")
abbrev pub ok_body : Text
ok_body = codes "{\"ok\":true}"

-- owners are added ("Owners: Add")
abbrev pub owners_added_body : Text
owners_added_body = codes "{\"msg\":\"owners added\",\"ok\":true}"

-- owners are removed ("Owners: Remove")
abbrev pub owners_removed_body : Text
owners_removed_body = codes "{\"msg\":\"owners removed\",\"ok\":true}"

-- what a granted request is told; what is only read is told in other answers
abbrev pub granted_body : Asked → Text
granted_body (Publish p) = publish_body
granted_body (Yank n v) = ok_body
granted_body (Unyank n v) = ok_body
granted_body (AddOwners n logins) = owners_added_body
granted_body (RemoveOwners n logins) = owners_removed_body
granted_body _ = []

-- what a refused request is told: the code of the rule, a space and words
abbrev pub error_body : Rule → Text
error_body r = codes "{\"errors\":[{\"detail\":\"" ++ (text_of r ++ codes "\"}]}")

-- ---- all answers

-- the body of the reply to what is asked; commands are answered in other ways
abbrev pub body_of : Asked → Answer → Text
body_of asked (Denied r) = error_body r
body_of asked Granted = granted_body asked
body_of asked (Config t) = t
body_of asked (Found f) = found_body f
body_of asked (File t) = t
body_of asked (Archive t) = t
body_of asked (Owners os) = owners_body os
body_of asked _ = []
