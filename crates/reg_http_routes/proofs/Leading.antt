-- Where a request leads, step by step.
use Rattle.std.proofs.Common.{◌≡◌, ◌∙◌, true, false, Option, Some, None, refl, sym, ap}
use Rattle.reg_http_read.specs.Heads.{Facts}
use Rattle.reg_model.specs.Registry.{Text}
use Rattle.reg_api_replies.specs.declared.head.Methods.{Methods}
use Rattle.reg_api_requests.specs.Wants.{Wants as Wanted}
use Rattle.reg_http_routes.specs.Routing.{NoRoute, NoMethod, Wants, has_method, methods_of, routing_at, routing_of, wants_at}
use Rattle.reg_http_routes.specs.Table.{place_of}
use Rattle.reg_http_routes.specs.Targets.{path_of}
use Rattle.reg_http_routes.specs.declared.place.Place.{Place}

module _ (f : Facts) (body path : Text) (same : path ≡ path_of f.target) where
  by_place : (o : Option Place) → o ≡ place_of path → routing_of f body ≡ routing_at o f.method f.target body
  unfolding routing_of
  by_place o is = ap (λ x. routing_at x f.method f.target body) (sym (is ∙ ap place_of same))

  pub no_route : None ≡ place_of path → routing_of f body ≡ NoRoute
  no_route none = by_place None none

  module _ (place : Place) (methods : Methods) (found : Some place ≡ place_of path) (are : methods ≡ methods_of place) where
    pub other_method : false ≡ has_method methods f.method → routing_of f body ≡ NoMethod methods
    other_method other = by_place (Some place) found ∙ rw (← are, ← other) refl

    pub right_method : (w : Wanted) → true ≡ has_method methods f.method
        → w ≡ wants_at place f.method f.target body → routing_of f body ≡ Wants w
    right_method w right is = by_place (Some place) found ∙ rw (← are, ← right, is) refl
