use Rattle.streetmap_rows.proofs.ReadsInTurn.{reads_then}
use Rattle.streetmap_reading.proofs.feature.feature_of.Goals as goal

pub returns : goal.returns
returns g c =
    reads_then c.in_ok-found.ensures c.found_feature.ensures (λ s limit keeps same is shows.
    shows s c.args.id.now limit same.0.is_open keeps is)
