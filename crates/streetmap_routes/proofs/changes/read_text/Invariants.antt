use Rattle.std.proofs.Common.{◌≡◌, Ok, Some}
use Rattle.form_urlencoded.specs.Parse.{pairs_left}
use Rattle.streetmap_query.specs.Query.{decoded}
use Rattle.streetmap_routes.specs.ChangesQuery.{with_pairs, changes_of}
use Rattle.streetmap_routes.specs.ChangesView.{changes_value}
use Rattle.streetmap_routes.proofs.changes.read_text.Given as goal

-- the pairs that are left, after those that were read, are all pairs
abbrev pub invariant-loop-pair : goal.invariant-loop-pair
invariant-loop-pair l = record {
  can : (goal.iterator-loop-pair).can_next l.pair-iterator;
  finite : (goal.iterator-loop-pair).is_finite l.pair-iterator;
  same : with_pairs (Ok (changes_value l.parameters)) (decoded (pairs_left l.pair-iterator)) ≡ changes_of (Some l.text);
}
