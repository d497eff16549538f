-- Features in their collection.
use Rattle.std.proofs.Common.{◌≡◌, Option, sym, subst}
use Rattle.streetmap_geojson.specs.FeatureValue.{FeatureValue}
use Rattle.streetmap_batch.specs.Text.{Text}
use Rattle.streetmap_ledger.specs.WellFormed.{IsPlaced}
use Rattle.streetmap_rows.specs.Stored.{IsStored}

pub stored_under : (p q : Option Text) (id : Text) (f : FeatureValue) → p ≡ q → IsPlaced q id f → IsStored p f
stored_under p q id f same h = subst (λ o. IsStored o f) (sym same) (record { kept = h.is; timed = h.timed })
