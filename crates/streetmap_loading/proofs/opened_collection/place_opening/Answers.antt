use Rattle.std.proofs.Common.{arith}
use Rattle.streetmap_batch.specs.BatchView.{edit_value}
use Rattle.streetmap_loading.proofs.OpeningLemmas.{opening_short}
use Rattle.streetmap_loading.proofs.opened_collection.place_opening.Goals as goal

pub unreachable-requires : goal.unreachable-requires
unreachable-requires c =
    let large = rw c.in-None.is at c.in_ok-placed.ensures in
    let short = opening_short (edit_value c.args.edit) c.facts.ensures c.requires in
    absurd (omega (arith, large, short))
