use Rattle.std.proofs.Common.{◌≡◌, Ok, option_map, sym, ap, subst, ◌∙◌}
use Rattle.streetmap_moment.specs.Views.{interval_value}
use Rattle.streetmap_geojson.specs.FeatureValue.{FeatureValue}
use Rattle.streetmap_geojson.specs.Times.{time_of}
use Rattle.streetmap_outlines.specs.Outlines.{IsOutlineOf}
use Rattle.streetmap_outlines.proofs.Results.{on_ok_map}
use Rattle.streetmap_index.proofs.Following.{reported_time}
use Rattle.streetmap_index.proofs.outlined.OutlinedCollection.put.Goals as goal

pub returns-in_ok-outline_of-in-Ok : goal.returns-in_ok-outline_of-in-Ok
returns-in_ok-outline_of-in-Ok c = λ d g known reported.
    let f = c.args.feature.now in
    let t = option_map interval_value c.in-Ok.time in
    let property = c.as_deref.ensures.value ∙ known.time in
    let reported_is = rw c.in-Ok.is at c.in_ok-time.ensures.reported in
    let time : time_of d.time f.properties ≡ Ok t = ap (λ p. time_of p f.properties) (sym property) ∙ reported_is in
    let outline = subst (λ (x : FeatureValue). IsOutlineOf c.in_ok-outline_of-in-Ok.field-0 x) (reported_time d.time f g t time reported)
    c.in_ok-outline_of-in-Ok.ensures in
    on_ok_map c.put.result (λ are. record { title = known.title; time = known.time; outlines = are }) (c.put.ensures d.features g known.outlines outline)
