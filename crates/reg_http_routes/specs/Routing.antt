-- Where a request leads, by the target and the method of its head (RFC 9110, sections 7.1 and 9.1).
use Rattle.std.specs.Prelude.{Bool, ◌||◌, codes, Option, Some, None, if◌then◌else◌}
use Rattle.std.specs.Str.{bytes_eq}
use Rattle.reg_http_read.specs.Heads.{Facts}
use Rattle.reg_model.specs.Registry.{Text}
use Rattle.reg_api_replies.specs.declared.head.Methods.{Methods}
use Rattle.reg_api_replies.specs.declared.head.Methods.TheVariants.{Get, Put, Delete, GetPutDelete}
use Rattle.reg_api_requests.specs.Wants as wants
use Rattle.reg_api_requests.specs.Wants.Wants.{Config as to_config, Index as to_index, Download as to_download, ListOwners as to_list, Publish as to_publish, Yank as to_yank, Unyank as to_unyank, AddOwners as to_add, RemoveOwners as to_remove}
use Rattle.reg_http_routes.specs.Queries.{search_wants}
use Rattle.reg_http_routes.specs.Table.{place_of}
use Rattle.reg_http_routes.specs.Targets.{index_rest, part_of, path_of, query_of}
use Rattle.reg_http_routes.specs.declared.place.Place.{Place}
use Rattle.reg_http_routes.specs.declared.place.Place.TheVariants.{Index, Crates, New, Owners, Yank, Unyank, Download}

-- no route, a route with other methods, or what is wanted
pub data Routing : Type 0 where
  NoRoute : Routing
  NoMethod : Methods → Routing
  Wants : wants.Wants → Routing

abbrev pub methods_of : Place → Methods
methods_of Index = Get
methods_of Crates = Get
methods_of New = Put
methods_of Owners = GetPutDelete
methods_of Yank = Delete
methods_of Unyank = Put
methods_of Download = Get

abbrev pub is_get : Text → Bool
is_get method = bytes_eq method (codes "GET")

abbrev pub is_put : Text → Bool
is_put method = bytes_eq method (codes "PUT")

abbrev pub is_delete : Text → Bool
is_delete method = bytes_eq method (codes "DELETE")

abbrev pub has_method : Methods → Text → Bool
has_method Get method = is_get method
has_method Put method = is_put method
has_method Delete method = is_delete method
has_method GetPutDelete method = is_get method || (is_put method || is_delete method)

-- the config, or the index file of a path
abbrev pub index_wants : Text → wants.Wants
index_wants rest = if bytes_eq rest (codes "config.json") then to_config else to_index rest

-- the owners of a crate: listed, added or removed
abbrev pub owners_wants : Text → Text → Text → wants.Wants
owners_wants method name body =
    if is_get method then to_list name
    else if is_put method then to_add name body
    else to_remove name body

-- what a request wants whose path leads to the place, with a method that the place has; a crate is
-- part 4 of a path, a version part 5
abbrev pub wants_at : Place → Text → Text → Text → wants.Wants
wants_at Index method target body = index_wants (index_rest (path_of target))
wants_at Crates method target body = search_wants (query_of target)
wants_at New method target body = to_publish body
wants_at Owners method target body = owners_wants method (part_of 4 (path_of target)) body
wants_at Yank method target body =
    to_yank (part_of 4 (path_of target)) (part_of 5 (path_of target))
wants_at Unyank method target body =
    to_unyank (part_of 4 (path_of target)) (part_of 5 (path_of target))
wants_at Download method target body =
    to_download (part_of 4 (path_of target)) (part_of 5 (path_of target))

abbrev pub routing_at : Option Place → Text → Text → Text → Routing
routing_at None method target body = NoRoute
routing_at (Some place) method target body =
    if has_method (methods_of place) method then Wants (wants_at place method target body)
    else NoMethod (methods_of place)

-- where the request leads: its path is looked up as it stands, and its parts are decoded then
unfoldable pub routing_of : Facts → Text → Routing
routing_of facts body =
    routing_at (place_of (path_of facts.target)) facts.method facts.target body
