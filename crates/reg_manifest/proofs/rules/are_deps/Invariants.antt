use Rattle.std.proofs.Common.{◌≡◌, map, drop}
use Rattle.std.specs.List.{list_all}
use Rattle.reg_manifest.specs.Manifests.{dep_view}
use Rattle.reg_manifest.specs.Metadata.{is_dep}
use Rattle.reg_manifest.proofs.rules.are_deps.Given as goal

abbrev pub invariant-loop-found : goal.invariant-loop-found
invariant-loop-found l = list_all is_dep (map dep_view (drop l.found-index l.deps)) ≡ list_all is_dep (map dep_view l.deps)
