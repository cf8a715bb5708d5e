-- What a routed request asks for (the Cargo Book, "Registry Web API" and "Registry Index").
use Rattle.std.specs.Prelude.{[], Option, Some, None, option_map, unwrap_or, Result, Ok, Err, if◌then◌else◌}
use Rattle.std.specs.Str.{is_utf8}
use Rattle.sha2.specs.Sha256.{sha256}
use Rattle.reg_body.specs.declared.limits.Limits.{Limits}
use Rattle.reg_model.specs.declared.rule.Rule.{Rule}
use Rattle.reg_model.specs.declared.rule.Rule.TheVariants as rule
use Rattle.reg_model.specs.Registry.{Publication, Text}
use Rattle.reg_model.specs.Events.{Asked}
use Rattle.reg_model.specs.Events.Reading.{Config as to_config, Search as to_search}
use Rattle.reg_model.specs.Events.Asked.{Malformed as to_malformed, Read as to_read, Index as to_index, Download as to_download, ListOwners as to_list, Publish as to_publish, Yank as to_yank, Unyank as to_unyank, AddOwners as to_add, RemoveOwners as to_remove}
use Rattle.reg_api_requests.specs.Owners.{logins_named}
use Rattle.reg_api_requests.specs.Publish.{publish_of}
use Rattle.reg_api_requests.specs.Search.{page_of}
use Rattle.reg_api_requests.specs.Views.{Request}
use Rattle.reg_api_requests.specs.declared.request.ApiCall.{ApiCall}
use Rattle.reg_api_requests.specs.declared.request.ApiRequest.{ApiRequest}
use Rattle.reg_api_requests.specs.Wants.{Wants, wants_of}
use Rattle.reg_api_requests.specs.Wants.Wants.{Config, Index, Download, ListOwners, Publish, Yank, Unyank, AddOwners, RemoveOwners, Search}

-- the text of a path part; the empty text, which is no name, no version and no index path, where
-- the bytes are no UTF-8
abbrev pub text_in : Text → Text
text_in bytes = if is_utf8 bytes then bytes else []

-- what is asked for with what was found, or else the rule that finding nothing breaks
abbrev pub or_malformed : {A : Type 0} → Rule → (A → Asked) → Option A → Asked
or_malformed r ask None = to_malformed r
or_malformed r ask (Some a) = ask a

-- a search for what `q` says, or for nothing where it is missing; a bad `per_page` breaks Q1
abbrev pub searched : Option Text → Option Text → Asked
searched q per_page =
    or_malformed rule.Q1 (λ most. to_read (to_search (unwrap_or q []) most)) (page_of per_page)

-- the version that is published, or the rule that its body breaks
abbrev pub published : Result Publication Rule → Asked
published (Ok p) = to_publish p
published (Err r) = to_malformed r

-- what is asked for: all that is wanted, or the rule that the body or the query breaks
abbrev pub asked_from : Limits → Wants → Asked
asked_from limits Config = to_read to_config
asked_from limits (Index path) = to_index (text_in path)
asked_from limits (Download n v) = to_download (text_in n) (text_in v)
asked_from limits (ListOwners n) = to_list (text_in n)
asked_from limits (Publish body) = published (publish_of limits body)
asked_from limits (Yank n v) = to_yank (text_in n) (text_in v)
asked_from limits (Unyank n v) = to_unyank (text_in n) (text_in v)
asked_from limits (AddOwners n body) =
    or_malformed rule.O1 (to_add (text_in n)) (logins_named limits body)
asked_from limits (RemoveOwners n body) =
    or_malformed rule.O1 (to_remove (text_in n)) (logins_named limits body)
asked_from limits (Search q per_page) = searched q per_page

-- the SHA-256 of the token, and what is asked for
abbrev pub request_from : Limits → Option Text → Wants → Request
request_from limits token w = record {
  digest = option_map sha256 token;
  asked = asked_from limits w;
}

-- the same of a request as its route gives it
abbrev pub asked_by : Limits → ApiCall → Asked
asked_by limits call = asked_from limits (wants_of call)

abbrev pub request_of : Limits → ApiRequest → Request
request_of limits r =
    request_from limits (option_map (λ token. token.now) r.token) (wants_of r.call)
