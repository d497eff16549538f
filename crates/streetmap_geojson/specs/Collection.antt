-- What a FeatureCollection reads as. RFC 7946 3.3.
use Rattle.std.specs.Prelude.{◌≡◌, ℕ, ◌+◌, Bool, false, List, [], ◌∷◌, codes, Option, None, Some}
use Rattle.std.specs.Prelude.{option_map, option_and_then, unwrap_or, Result, Ok, Err}
use Rattle.std.specs.Prelude.{if◌then◌else◌, bytes_eq, IsTrue}
use Rattle.serde_json.specs.Data.{Data}
use Rattle.serde_json.specs.Find.{as_str, as_array, get}
use Rattle.streetmap_geojson.specs.declared.fault.Fault.{Fault}
use Rattle.streetmap_geojson.specs.declared.fault.Fault.TheVariants.{WrongType}
use Rattle.streetmap_geojson.specs.declared.fault.CollectionFault.{CollectionFault}
use Rattle.streetmap_geojson.specs.declared.fault.CollectionFault.TheVariants as faults
use Rattle.streetmap_geojson.specs.FeatureValue.{FeatureValue}
use Rattle.streetmap_geojson.specs.ParsedGeometries.{list_of}
use Rattle.streetmap_geojson.specs.Meaning.{IsArrayAt}
use Rattle.streetmap_geojson.specs.ParsedFeatures.{feature_at}
use Rattle.streetmap_geojson.specs.FeatureMeaning.{ReadsAt}

-- a fault of the feature at that place
abbrev pub at_place : ℕ → Result FeatureValue Fault → Result FeatureValue CollectionFault
at_place n (Ok f) = Ok f
at_place n (Err fault) = Err (faults.At n fault)

abbrev pub and_more : Result FeatureValue CollectionFault
    → Result (List FeatureValue) CollectionFault → Result (List FeatureValue) CollectionFault
and_more (Ok f) (Ok fs) = Ok (f ∷ fs)
and_more (Ok f) (Err fault) = Err fault
and_more (Err fault) _ = Err fault

-- the features after the n-th, from left to right; one without an id has its place, counted from 1,
-- as id
unfoldable pub features_after : ℕ → (time_property : Option (List ℕ)) → List Data
    → Result (List FeatureValue) CollectionFault
features_after n time_property [] = Ok []
features_after n time_property (d ∷ ds) = and_more
    (at_place (n + 1) (feature_at (Some (n + 1)) time_property d))
    (features_after (n + 1) time_property ds)

abbrev pub is_collection : Data → Bool
is_collection d = unwrap_or (option_map (λ s. bytes_eq s (codes "FeatureCollection"))
    (option_and_then as_str (get (codes "type") d))) false

abbrev pub features_in : (time_property : Option (List ℕ)) → Option (List Data)
    → Result (List FeatureValue) CollectionFault
features_in time_property None = Err (faults.Fault WrongType)
features_in time_property (Some ds) = features_after 0 time_property ds

abbrev pub features : (time_property : Option (List ℕ)) → Data
    → Result (List FeatureValue) CollectionFault
features time_property d = if is_collection d
    then features_in time_property
    (option_map list_of (option_and_then as_array (get (codes "features") d)))
    else Err (faults.Fault WrongType)

-- ---- "reads as"

abbrev pub AreAfter : ℕ → (time_property : Option (List ℕ)) → List Data → List FeatureValue → Type 0
AreAfter n time_property [] [] = Unit {0}
AreAfter n time_property (d ∷ ds) (f ∷ fs) = ReadsAt (Some (n + 1)) time_property d f
    × AreAfter (n + 1) time_property ds fs
AreAfter n time_property _ _ = ⊥

abbrev pub AreFeatures : (time_property : Option (List ℕ)) → Data → List FeatureValue → Type 0
AreFeatures time_property d fs = IsTrue (is_collection d)
    × ((ds : List Data) × IsArrayAt (codes "features") d ds × AreAfter 0 time_property ds fs)

-- ---- what a reader returns

abbrev pub FailsAt : {Y : Type 0} → CollectionFault → Result Y CollectionFault → Type 0
FailsAt faults.Memory read = Unit {0}
FailsAt (faults.Fault f) read = read ≡ Err (faults.Fault f)
FailsAt (faults.At n f) read = read ≡ Err (faults.At n f)

-- the result, seen by view, is the reading, unless memory ran out
abbrev pub GivesAt : {X Y : Type 0} → (X → Y) → Result X CollectionFault → Result Y CollectionFault
    → Type 0
GivesAt view (Ok x) read = read ≡ Ok (view x)
GivesAt view (Err e) read = FailsAt e read
