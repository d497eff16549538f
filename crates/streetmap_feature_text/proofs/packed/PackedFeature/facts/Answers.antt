use Rattle.std.proofs.Common.{subst, sym, ◌∙◌}
use Rattle.streetmap_geojson.specs.FeatureInvariant.{IsFeature}
use Rattle.streetmap_feature_text.proofs.PackedFacts.{packed_view, packed_interval_made}
use Rattle.streetmap_geojson.proofs.Facts.{retimed_is}
use Rattle.streetmap_feature_text.proofs.packed.PackedFeature.facts.Goals as goal

pub returns : goal.returns
returns c =
    let h = c.self.invariant in
    subst IsFeature (sym (packed_view _ _ _ _ h) ∙ c.self.view_is) (retimed_is h.packed _ h.is (packed_interval_made c.self.inside.kept.value.time))
