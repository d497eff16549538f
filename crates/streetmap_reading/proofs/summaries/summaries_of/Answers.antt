use Rattle.sqlite.specs.Held.{state}
use Rattle.streetmap_rows.proofs.ReadsInTurn.{reads_then, found_so}
use Rattle.streetmap_reading.specs.PassResults.{AreReported, AreSummaries}
use Rattle.streetmap_reading.proofs.summaries.summaries_of.Goals as goal

pub returns : goal.returns
returns g c =
    reads_then c.in_ok-heads.ensures c.with_extents.ensures (λ s limit keeps same is shows.
    found_so (AreReported c.in_ok-heads.heads s) (AreSummaries s) (state g.S.Store c.heads.new.conn) (state g.S.Store c.with_extents.new.conn)
    c.with_extents.result (λ x reported. reported is) (shows same.0.is_open s limit keeps))
