use Rattle.std.proofs.Common.{subst, sym, ◌∙◌}
use Rattle.streetmap_geojson.specs.FeatureInvariant.{IsFeature}
use Rattle.streetmap_feature_text.proofs.KeptFacts.{written_view}
use Rattle.streetmap_feature_text.proofs.written_feature.WrittenFeature.facts.Goals as goal

pub returns : goal.returns
returns c =
    let h = c.self.invariant in
    subst IsFeature (sym (written_view _ _ _ _ _ h) ∙ c.self.view_is) h.is
