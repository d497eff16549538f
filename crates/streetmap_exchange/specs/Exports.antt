-- What an export of a collection writes.
use Rattle.std.specs.Prelude.{◌≡◌, ℕ, Bool, true, List, [], ◌∷◌, ◌++◌, Option, None, Some, Result}
use Rattle.std.specs.Prelude.{Ok, Err, IsSomeAnd}
use Rattle.std.specs.Option.{option_map}
use Rattle.std.specs.FinMap.{get, values}
use Rattle.std.specs.Io.KnownBytes.{Appends, Keeps}
use Rattle.serde_json.specs.Written.{comma_if, compact_text}
use Rattle.streetmap_geojson.specs.FeatureValue.{FeatureValue}
use Rattle.streetmap_feature_text.specs.Written.{feature_data, collection_data}
use Rattle.streetmap_query.specs.QueryValue.{QueryValue}
use Rattle.streetmap_batch.specs.Text.{Text}
use Rattle.streetmap_ledger.specs.State.{State, Collection}
use Rattle.streetmap_ledger.specs.Pages.{page_in}
use Rattle.streetmap_ledger.specs.PageView.{page_value}
use Rattle.streetmap_ledger.specs.declared.page.Page.{Page}
use Rattle.streetmap_text_lines.specs.Written.{AppendsBeginning, AppendsLess}
use Rattle.streetmap_exchange.specs.declared.fault.ExportFault.{ExportFault}
use Rattle.streetmap_exchange.specs.declared.fault.ExportFault.TheVariants.{NoCollection, Stopped}
use Rattle.streetmap_exchange.specs.declared.fault.ExportFault.TheVariants.{WriteFailed}
use Rattle.streetmap_exchange.specs.declared.fault.ExportFault.TheVariants.{FlushFailed}

-- the compact text of the FeatureCollection, and a line feed
abbrev pub export_text : List FeatureValue → List ℕ
export_text fs = compact_text (collection_data fs) ++ 10 ∷ []

-- the features of a collection in byte order of their ids: none if it does not exist
abbrev pub features_in : State → Text → Option (List FeatureValue)
features_in s name = option_map (λ (c : Collection). values c.features) (get s.collections name)

-- the text of an existing collection was written
abbrev pub WritesAll : Option (List FeatureValue) → Option (List ℕ) → Option (List ℕ) → Type 0
WritesAll features old new = IsSomeAnd features (λ fs. Appends old new (export_text fs))

-- a prefix of that text was written
abbrev pub WritesSome : Option (List FeatureValue) → Option (List ℕ) → Option (List ℕ) → Type 0
WritesSome features old new =
    IsSomeAnd features (λ fs. AppendsBeginning old new (export_text fs))

-- a prefix of that text was written, and not all of it
abbrev pub WritesLess : Option (List FeatureValue) → Option (List ℕ) → Option (List ℕ) → Type 0
WritesLess features old new = IsSomeAnd features (λ fs. AppendsLess old new (export_text fs))

-- a prefix of the text, if the collection exists, and otherwise nothing
abbrev pub WritesSomeIf : Option (List FeatureValue) → Option (List ℕ) → Option (List ℕ) → Type 0
WritesSomeIf None old new = Keeps old new
WritesSomeIf (Some fs) old new = AppendsBeginning old new (export_text fs)

-- what an export from a keeper that represented this state wrote
abbrev pub Exports : {T : Type 0} → State → Text → Result T ExportFault → Option (List ℕ)
    → Option (List ℕ) → Type 0
Exports s name (Ok done) old new = WritesAll (features_in s name) old new
Exports s name (Err NoCollection) old new = (features_in s name ≡ None) × Keeps old new
Exports s name (Err WriteFailed) old new = WritesLess (features_in s name) old new
Exports s name (Err FlushFailed) old new = WritesAll (features_in s name) old new
Exports s name (Err (Stopped fault)) old new = WritesSomeIf (features_in s name) old new

-- ---- its pages

-- a page of a thousand features after an id
abbrev pub part_query : Option Text → QueryValue
part_query after = record { bbox = None; datetime = None; limit = 1000; after = after }

-- a read of that page in this state
abbrev pub ShowsPart : State → Text → Option Text → Result Page ExportFault → Type 0
ShowsPart s name after (Ok page) =
    page_in s name (part_query after) ≡ Some (page_value page)
ShowsPart s name after (Err NoCollection) = page_in s name (part_query after) ≡ None
ShowsPart s name after (Err WriteFailed) = ⊥
ShowsPart s name after (Err FlushFailed) = ⊥
ShowsPart s name after (Err (Stopped fault)) = Unit {0}

-- ---- its text in parts

-- features as they are in an array, each after a comma; the first has one only if others come
-- before
abbrev pub part_text : Bool → List FeatureValue → List ℕ
part_text later [] = []
part_text later (f ∷ fs) = comma_if later ++ (compact_text (feature_data f) ++ part_text true fs)
