use Rattle.std.proofs.Common.{refl, ◌∙◌, ap, arith}
use Rattle.std.proofs.lemmas.Int.{ints}
use Rattle.streetmap_grid.specs.Views.{position_value, box_value}
use Rattle.streetmap_grid.specs.Extent.{union}
use Rattle.streetmap_grid.proofs.Facts.{position_facts}
use Rattle.streetmap_compact_reader.proofs.KeptPositions.{next_kept}
use Rattle.streetmap_compact_reader.proofs.positions.with_next.Goals as goal

pub returns : goal.returns
returns c = λ first others h.
    let edge = c.in_ok-edge.ensures in
    let sum = c.in_ok-area.ensures in
    next_kept first others (position_value c.args.next) c.args.kept _ h (omega arith) refl refl
    (c.union.ensures.value ∙ ap (union (box_value c.args.kept.extent)) c.extent_at.ensures) refl (omega (arith, ints, edge, sum)) (position_facts c.args.next)
