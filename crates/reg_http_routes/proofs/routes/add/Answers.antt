use Rattle.std.proofs.Common.{◌≡◌, Result, Ok, Err}
use Rattle.matchit.specs.Route.{Scan}
use Rattle.matchit.specs.Router.{InsertsRead}
use Rattle.matchit.specs.declared.error.InsertError.{InsertError}
use Rattle.reg_http_routes.specs.Table.{Rows, with_scan}
use Rattle.reg_http_routes.specs.declared.place.Place.{Place}
use Rattle.reg_http_routes.proofs.routes.add.Goals as goal

inserted : (x : Result Scan InsertError) (place : Place) (old new : Rows) (u : Unit {0})
    → InsertsRead x place old new (Ok u) → new ≡ with_scan x place old
inserted (Ok s) place old new u h = h.1
inserted (Err e) place old new u h = h.0

pub returns : goal.returns
returns c = inserted _ _ _ _ _ c.in-Ok.ensures
