use Rattle.std.proofs.Common.{◌∙◌, ap, codes}
use Rattle.reg_http_routes.specs.Table.{table, with_route}
use Rattle.reg_http_routes.specs.declared.place.Place.TheVariants.{Index, Crates, New, Owners, Yank, Unyank, Download}
use Rattle.reg_http_routes.proofs.routes.Routes.new.Goals as goal

pub invariant_of-result : goal.invariant_of-result
unfolding table
invariant_of-result c = record {
  whole =
      c.in_ok-router-7.ensures ∙ ap (with_route (codes "/api/v1/crates/{crate}/{version}/download") Download) (
      c.in_ok-router-6.ensures ∙ ap (with_route (codes "/api/v1/crates/{crate}/{version}/unyank") Unyank) (
      c.in_ok-router-5.ensures ∙ ap (with_route (codes "/api/v1/crates/{crate}/{version}/yank") Yank) (
      c.in_ok-router-4.ensures ∙ ap (with_route (codes "/api/v1/crates/{crate}/owners") Owners) (
      c.in_ok-router-3.ensures ∙ ap (with_route (codes "/api/v1/crates/new") New) (
      c.in_ok-router-2.ensures ∙ ap (with_route (codes "/api/v1/crates") Crates) (
      c.in_ok-router.ensures ∙ ap (with_route (codes "/index/{*rest}") Index) c.new-router.ensures))))));
}
