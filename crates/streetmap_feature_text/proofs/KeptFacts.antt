-- What is kept of a feature beside its text is that of one feature.
use Rattle.std.proofs.Common.{◌≡◌, ℕ, List, Ok, Option, ap, ◌∙◌}
use Rattle.streetmap_grid.specs.Values.{BoxValue}
use Rattle.streetmap_moment.specs.IntervalValue.{IntervalValue}
use Rattle.streetmap_geojson.specs.FeatureValue.{FeatureValue, untimed, retimed}
use Rattle.streetmap_feature_text.specs.Packed.{feature_in_text, unpacked}
use Rattle.streetmap_feature_text.specs.WrittenFeatures.{IsWritten}
use Rattle.streetmap_feature_text.proofs.PackedFacts.{text_again, unpacked_again}

pub written_view : (text id : List ℕ) (extent : Option BoxValue) (time : Option IntervalValue) (kept : Option FeatureValue) (h : IsWritten text id extent time kept) → unpacked text time ≡ h.written
written_view text id extent time kept h = ap (λ t. unpacked t time) h.text_is ∙ unpacked_again h.written time h.is ∙ ap (retimed h.written) h.timed

pub written_text : (text id : List ℕ) (extent : Option BoxValue) (time : Option IntervalValue) (kept : Option FeatureValue) (h : IsWritten text id extent time kept) → feature_in_text text ≡ Ok (untimed h.written)
written_text text id extent time kept h = ap feature_in_text h.text_is ∙ text_again h.written h.is
