-- A feature's text reads again, with its time.
use Rattle.std.proofs.Common.{◌≡◌, Option, Result, Ok, sym, ap, ◌∙◌}
use Rattle.streetmap_geojson.specs.declared.fault.Fault.{Fault}
use Rattle.streetmap_geojson.specs.declared.fault.JsonFault.{JsonFault}
use Rattle.streetmap_geojson.specs.declared.fault.JsonFault.TheVariants as errors
use Rattle.streetmap_geojson.specs.Fault.{Fails}
use Rattle.streetmap_geojson.specs.FeatureValue.{FeatureValue}
use Rattle.streetmap_geojson.specs.FeatureMeaning.{ReadsAs}
use Rattle.streetmap_geojson.specs.JsonText.{json_of}
use Rattle.streetmap_geojson.specs.Times.{as_fault}
use Rattle.streetmap_feature_text.specs.Written.{feature_data}
use Rattle.streetmap_feature_text.proofs.Again.{feature_again}
use Rattle.streetmap_geojson.proofs.Timing.{time_found}
use Rattle.streetmap_feature_text.proofs.WrittenFeatures.{text_is_json}
use Rattle.streetmap_batch.specs.Text.{Text}
use Rattle.streetmap_rows.specs.Rows.{feature_text}
use Rattle.streetmap_rows.specs.Stored.{IsStored}

pub body_reads : (property : Option Text) (f : FeatureValue) → IsStored property f → ReadsAs property (feature_data f) f
body_reads property f h =
    let r = feature_again f h.kept in
    record {
      typed = r.typed;
      flat = r.flat;
      named = r.named;
      placed = r.placed;
      few = r.few;
      reported = r.reported;
      kept = r.kept;
      whole = r.whole;
      timed =
          time_found property f.properties f.time (ap as_fault h.timed);
    }

pub body_is_json : (f : FeatureValue) (body : Text) (property : Option Text) → IsStored property f → body ≡ feature_text f → json_of body ≡ Ok (feature_data f)
unfolding feature_text
body_is_json f body property h is = ap json_of is ∙ text_is_json f h.kept

-- what reads has no fault
pub no_fault : {X Y : Type 0} (e : JsonFault) (x : X) (y : Y) (r : Result X Fault) → r ≡ Ok x → Fails e r → Fails e (Ok y)
no_fault errors.Memory x y r is h = tt
no_fault (errors.Fault f) x y r is h = absurd (let e = sym is ∙ h in cc)
