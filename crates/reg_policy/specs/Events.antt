-- The events and answers that values of the program stand for.
use Rattle.std.specs.Prelude.{map, string_bytes, Result, Ok, Err}
use Rattle.std.specs.Option.{option_map}
use Rattle.reg_model.specs.Registry as model
use Rattle.reg_model.specs.Events as events
use Rattle.reg_model.specs.Events.Reading.{Config as to_config, Search as to_search}
use Rattle.reg_model.specs.Events.Asked.{Malformed as to_malformed, Read as to_read, Index as to_index, Download as to_download, ListOwners as to_list, Publish as to_publish, Yank as to_yank, Unyank as to_unyank, AddOwners as to_add, RemoveOwners as to_remove}
use Rattle.reg_model.specs.Events.Command.{UserAdd as to_user_add, UserDisable as to_disable, UserEnable as to_enable, TokenAdd as to_token_add, TokenRevoke as to_revoke, Reserve as to_reserve, Unreserve as to_unreserve, OwnerAdd as to_owner_add, Access as to_access, Users as to_users, Tokens as to_tokens, Crates as to_crates, CrateRestrict as to_restrict, CrateOpen as to_open, ReaderAdd as to_reader_add, ReaderRemove as to_reader_remove}
use Rattle.reg_model.specs.Events.Event.{Ask as to_ask, Order as to_order}
use Rattle.reg_model.specs.Events.Answer.{Denied as to_denied, Granted as to_granted, File as to_file, Archive as to_archive, Owners as to_owners, Refused as to_refused, Done as to_done, Id as to_id, Report as to_report, Config as to_config_text, Found as to_found}
use Rattle.reg_policy.specs.declared.event.Reading.{Reading}
use Rattle.reg_policy.specs.declared.event.Reading.TheVariants.{Config, Search}
use Rattle.reg_policy.specs.declared.event.NewPublication.{NewPublication}
use Rattle.reg_policy.specs.declared.event.Asked.{Asked}
use Rattle.reg_policy.specs.declared.event.Asked.TheVariants.{Malformed, Read, Index, Download, ListOwners, Publish, Yank, Unyank, AddOwners, RemoveOwners}
use Rattle.reg_policy.specs.declared.event.AdminCommand.{AdminCommand}
use Rattle.reg_policy.specs.declared.event.AdminCommand.TheVariants.{UserAdd, UserDisable, UserEnable, TokenAdd, TokenRevoke, Reserve, Unreserve, OwnerAdd, Access, Users, Tokens, Crates, CrateRestrict, CrateOpen, ReaderAdd, ReaderRemove}
use Rattle.reg_policy.specs.declared.event.Event.{Event}
use Rattle.reg_policy.specs.declared.event.Event.TheVariants.{Ask, Order}
use Rattle.reg_policy.specs.declared.event.OwnerEntry.{OwnerEntry}
use Rattle.reg_model.specs.declared.rule.AdminRefusal.{AdminRefusal}
use Rattle.reg_policy.specs.declared.event.AdminReply.{AdminReply}
use Rattle.reg_policy.specs.declared.event.AdminReply.TheVariants.{Done, Id, Text}
use Rattle.reg_policy.specs.declared.event.Answer.{Answer}
use Rattle.reg_policy.specs.declared.event.Answer.TheVariants.{Denied, Granted, File, Archive, Owners, Refused, Replied}

abbrev pub reading_of : Reading → events.Reading
reading_of Config = to_config
reading_of (Search text most) = to_search text.now most

abbrev pub publication_of : NewPublication → model.Publication
publication_of v = record {
  name = v.name;
  version = string_bytes v.version;
  description = option_map string_bytes v.description;
  stem = v.stem.items;
  digest = v.digest;
  archive = v.archive.now;
}

abbrev pub asked_of : Asked → events.Asked
asked_of (Malformed r) = to_malformed r
asked_of (Read what) = to_read (reading_of what)
asked_of (Index path) = to_index path.now
asked_of (Download n v) = to_download n.now v.now
asked_of (ListOwners n) = to_list n.now
asked_of (Publish p) = to_publish (publication_of p)
asked_of (Yank n v) = to_yank n.now v.now
asked_of (Unyank n v) = to_unyank n.now v.now
asked_of (AddOwners n logins) = to_add n.now (map string_bytes logins.items)
asked_of (RemoveOwners n logins) = to_remove n.now (map string_bytes logins.items)

abbrev pub command_of : AdminCommand → events.Command
command_of (UserAdd login name) = to_user_add login.now (option_map (λ n. n.now) name)
command_of (UserDisable login) = to_disable login.now
command_of (UserEnable login) = to_enable login.now
command_of (TokenAdd login words patterns digest) =
    to_token_add login.now (map (λ w. w.now) words.now) (map (λ p. p.now) patterns.now) digest.now
command_of (TokenRevoke id) = to_revoke id
command_of (Reserve n) = to_reserve n.now
command_of (Unreserve n) = to_unreserve n.now
command_of (OwnerAdd n login) = to_owner_add n.now login.now
command_of (Access n) = to_access n.now
command_of Users = to_users
command_of Tokens = to_tokens
command_of Crates = to_crates
command_of (CrateRestrict n) = to_restrict n.now
command_of (CrateOpen n) = to_open n.now
command_of (ReaderAdd n login) = to_reader_add n.now login.now
command_of (ReaderRemove n login) = to_reader_remove n.now login.now

abbrev pub event_of : Event → events.Event
event_of (Ask digest asked) = to_ask (option_map (λ d. d.now) digest) (asked_of asked)
event_of (Order c) = to_order (command_of c)

abbrev pub entry_of : OwnerEntry → events.OwnerEntry
entry_of o = record { id = o.id; login = o.login; name = option_map string_bytes o.name }

abbrev pub answer_of : Answer → events.Answer
answer_of (Denied r) = to_denied r
answer_of Granted = to_granted
answer_of (File f) = to_file f.items
answer_of (Archive a) = to_archive a.items
answer_of (Owners os) = to_owners (map entry_of os.items)
answer_of (Refused g) = to_refused g
answer_of (Replied Done) = to_done
answer_of (Replied (Id n)) = to_id n
answer_of (Replied (Text t)) = to_report (string_bytes t)

-- what a command is answered
abbrev pub reply_of : Result AdminReply AdminRefusal → events.Answer
reply_of (Ok r) = answer_of (Replied r)
reply_of (Err g) = to_refused g

-- an answer with the decision alone for what is read
abbrev pub decision_alone : events.Answer → events.Answer
decision_alone (to_config_text t) = to_granted
decision_alone (to_found f) = to_granted
decision_alone a = a
