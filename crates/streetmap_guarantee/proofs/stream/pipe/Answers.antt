use Rattle.streetmap_web.specs.Site.{site_value}
use Rattle.streetmap_web.specs.Conditions.{of_state}
use Rattle.streetmap_guarantee.proofs.Streams.{stream_is_guaranteed}
use Rattle.streetmap_guarantee.proofs.stream.pipe.Goals as goal

pub returns-clause-guarantee : goal.returns-clause-guarantee
returns-clause-guarantee g c clean s represented =
    let says = c.serve.ensures in
    let old = c.args.keeper.now in
    let new = c.serve.new.keeper in
    stream_is_guaranteed g.K.Keeper.model g.K.Durable.holds (g.K.Durable.leaves new) (site_value c.args.site.now) s old new represented
    (λ image left. g.met.K.Durable.images_hold_states old new s image represented says.calls.preserved clean left)
    _ _ _ _ _ _ (says.serves clean (of_state s) represented)
