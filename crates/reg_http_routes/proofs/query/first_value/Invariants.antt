use Rattle.std.proofs.Common.{◌≡◌}
use Rattle.form_urlencoded.specs.Form.{raw_pairs}
use Rattle.form_urlencoded.specs.Parse.{raw_pairs_left}
use Rattle.reg_http_routes.specs.Queries.{first_value}
use Rattle.reg_http_routes.proofs.query.first_value.Given as goal

abbrev pub invariant-loop-raw : goal.invariant-loop-raw
invariant-loop-raw l = record {
  can : (goal.iterator-loop-raw).can_next l.raw-iterator;
  finite : (goal.iterator-loop-raw).is_finite l.raw-iterator;
  same : first_value l.name (raw_pairs l.query) ≡ first_value l.name (raw_pairs_left l.raw-iterator);
}
