-- What routing answers.
use Rattle.std.specs.Prelude.{◌≡◌, Option, Result, Ok, Err, option_copied}
use Rattle.reg_model.specs.Registry.{Text}
use Rattle.reg_api_requests.specs.Wants.{wants_of}
use Rattle.reg_api_requests.specs.declared.request.ApiRequest.{ApiRequest}
use Rattle.reg_http_routes.specs.Routing.{Routing}
use Rattle.reg_http_routes.specs.Routing.Routing.{NoRoute as to_no_route, NoMethod as to_no_method, Wants as to_wants}
use Rattle.reg_http_routes.specs.declared.fault.RouteFault.{RouteFault}
use Rattle.reg_http_routes.specs.declared.fault.RouteFault.TheVariants.{NoRoute, Method, Memory}

-- the request has this token and leads there, memory aside
abbrev pub IsRouted : Option Text → Routing → Result ApiRequest RouteFault → Type 0
IsRouted token there (Ok it) =
    (option_copied it.token ≡ token) × (there ≡ to_wants (wants_of it.call))
IsRouted token there (Err NoRoute) = there ≡ to_no_route
IsRouted token there (Err (Method methods)) = there ≡ to_no_method methods
IsRouted token there (Err Memory) = Unit {0}
