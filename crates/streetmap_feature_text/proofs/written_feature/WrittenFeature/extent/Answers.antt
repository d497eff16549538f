use Rattle.std.proofs.Common.{ap, sym, ◌∙◌, option_map}
use Rattle.streetmap_grid.specs.Extent.{extent_of}
use Rattle.streetmap_geojson.specs.FeatureValue.{FeatureValue}
use Rattle.streetmap_feature_text.proofs.KeptFacts.{written_view}
use Rattle.streetmap_feature_text.proofs.written_feature.WrittenFeature.extent.Goals as goal

pub returns : goal.returns
returns c =
    let h = c.self.invariant in
    rw c.deref.ensures (h.reaches ∙ ap (λ (f : FeatureValue). option_map extent_of f.geometry) (sym (written_view _ _ _ _ _ h) ∙ c.self.view_is))
