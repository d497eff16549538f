use Rattle.streetmap_grid.specs.Views.{box_value}
use Rattle.streetmap_outlines.proofs.Covering.{in_union}
use Rattle.streetmap_outlines.proofs.bounds.bounds_of_both.Goals as goal

pub returns-in-Some-Some-clause-one : goal.returns-in-Some-Some-clause-one
returns-in-Some-Some-clause-one c = rw c.in-Some-Some.is-0 (in_union (box_value c.in-Some-Some.one) (box_value c.in-Some-Some.other) (box_value c.union.result)
    c.union.ensures.value).0

pub returns-in-Some-Some-clause-other : goal.returns-in-Some-Some-clause-other
returns-in-Some-Some-clause-other c = rw c.in-Some-Some.is-1 (in_union (box_value c.in-Some-Some.one) (box_value c.in-Some-Some.other)
    (box_value c.union.result) c.union.ensures.value).1
