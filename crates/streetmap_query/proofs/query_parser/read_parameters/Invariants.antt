use Rattle.std.proofs.Common.{◌≡◌}
use Rattle.form_urlencoded.specs.Parse.{pairs_left}
use Rattle.streetmap_query.specs.Parameters.{with_pairs}
use Rattle.streetmap_query.specs.Query.{decoded, parameters_of}
use Rattle.streetmap_query.specs.Views.{parameters_value}
use Rattle.streetmap_query.proofs.query_parser.read_parameters.Given as goal

abbrev pub invariant-loop-pair : goal.invariant-loop-pair
invariant-loop-pair l = record {
  can : (goal.iterator-loop-pair).can_next l.pair-iterator;
  finite : (goal.iterator-loop-pair).is_finite l.pair-iterator;
  same : with_pairs (parameters_value l.parameters) (decoded (pairs_left l.pair-iterator)) ≡ parameters_of l.text;
}
