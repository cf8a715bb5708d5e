-- The table of routes (the Cargo Book, "Registry Web API" and "Registry Index"), in the words of
-- `matchit`.
use Rattle.std.specs.Prelude.{[], codes, Result, Ok, Err, Option, option_map}
use Rattle.matchit.specs.Order.{placed}
use Rattle.matchit.specs.Route.{Scan, parse_route}
use Rattle.matchit.specs.Router.{RouteOf, route_from}
use Rattle.matchit.specs.Rows.{RowsOf}
use Rattle.matchit.specs.Seek.{first}
use Rattle.matchit.specs.declared.error.InsertError.{InsertError}
use Rattle.reg_model.specs.Registry.{Text}
use Rattle.reg_http_routes.specs.declared.place.Place.{Place}
use Rattle.reg_http_routes.specs.declared.place.Place.TheVariants.{Index, Crates, New, Owners, Yank, Unyank, Download}

abbrev pub Rows : Type 0
Rows = RowsOf (RouteOf Place)

abbrev pub with_scan : Result Scan InsertError → Place → Rows → Rows
with_scan (Ok s) place rows = placed (s.pattern, route_from s place) rows
with_scan (Err e) place rows = rows

-- the routes with one more
abbrev pub with_route : Text → Place → Rows → Rows
with_route text place rows = with_scan (parse_route text) place rows

unfoldable pub table : Rows
table =
    with_route (codes "/api/v1/crates/{crate}/{version}/download") Download
    (with_route (codes "/api/v1/crates/{crate}/{version}/unyank") Unyank
    (with_route (codes "/api/v1/crates/{crate}/{version}/yank") Yank
    (with_route (codes "/api/v1/crates/{crate}/owners") Owners
    (with_route (codes "/api/v1/crates/new") New
    (with_route (codes "/api/v1/crates") Crates
    (with_route (codes "/index/{*rest}") Index []))))))

-- where a path leads
abbrev pub place_of : Text → Option Place
place_of path = option_map (λ r. r.value) (first table path)
