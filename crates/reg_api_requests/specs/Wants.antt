-- What a request wants, as texts (the Cargo Book, "Registry Web API" and "Registry Index").
use Rattle.std.specs.Prelude.{Option, option_map}
use Rattle.std.specs.Cow.{cow_slice_items, cow_str_bytes}
use Rattle.reg_model.specs.Registry.{Text}
use Rattle.reg_api_requests.specs.declared.request.ApiCall.{ApiCall}
use Rattle.reg_api_requests.specs.declared.request.ApiCall.TheVariants as call

-- a path, a crate with a version, a crate with a body, a body, or the `q` and the `per_page` of a
-- query
pub data Wants : Type 0 where
  Config : Wants
  Index : Text → Wants
  Download : Text → Text → Wants
  ListOwners : Text → Wants
  Publish : Text → Wants
  Yank : Text → Text → Wants
  Unyank : Text → Text → Wants
  AddOwners : Text → Text → Wants
  RemoveOwners : Text → Text → Wants
  Search : Option Text → Option Text → Wants

abbrev pub wants_of : ApiCall → Wants
wants_of call.Config = Config
wants_of (call.Index path) = Index (cow_slice_items path)
wants_of (call.Download n v) = Download (cow_slice_items n) (cow_slice_items v)
wants_of (call.ListOwners n) = ListOwners (cow_slice_items n)
wants_of (call.Publish body) = Publish body.now
wants_of (call.Yank n v) = Yank (cow_slice_items n) (cow_slice_items v)
wants_of (call.Unyank n v) = Unyank (cow_slice_items n) (cow_slice_items v)
wants_of (call.AddOwners n body) = AddOwners (cow_slice_items n) body.now
wants_of (call.RemoveOwners n body) = RemoveOwners (cow_slice_items n) body.now
wants_of (call.Search q per_page) =
    Search (option_map cow_str_bytes q) (option_map cow_str_bytes per_page)
