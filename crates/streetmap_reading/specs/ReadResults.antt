-- The results of reads of the tables.
use Rattle.std.specs.Prelude.{◌≡◌, ℕ, List, Option, None, Some, option_map, IfSome, Result}
use Rattle.std.specs.Prelude.{MatchResult, IsTrue, Vec}
use Rattle.std.specs.Option.{option_to_list}
use Rattle.std.specs.FinMap.{get, values}
use Rattle.std.specs.declared.alloc.Global.{Global}
use Rattle.sqlite.specs.Order.{Row}
use Rattle.sqlite.specs.State.{State as Seen, IsUnchanged}
use Rattle.streetmap_geojson.specs.FeatureValue.{FeatureValue}
use Rattle.streetmap_query.specs.QueryValue.{QueryValue}
use Rattle.streetmap_batch.specs.Text.{Text}
use Rattle.streetmap_ledger.specs.State.{State, Collection}
use Rattle.streetmap_ledger.specs.Pages.{page_in, page_over, feature_in, run_of}
use Rattle.streetmap_ledger.specs.PageView.{page_value}
use Rattle.streetmap_ledger.specs.declared.page.Page.{Page}
use Rattle.streetmap_rows.specs.KeptStates.{Keeps}
use Rattle.streetmap_rows.specs.TableReads.{Stopped}
use Rattle.streetmap_rows.specs.Views.{collection_view}
use Rattle.streetmap_rows.specs.declared.fault.ReadFault.{ReadFault}
use Rattle.streetmap_reading.specs.Candidates.{dated_row, ShowsOf}

-- what is kept of a collection
abbrev pub IsCollectionRow : Text → State → Option Row → Type 0
IsCollectionRow name s o = o ≡ option_map collection_view (get s.collections name)

abbrev pub IsPageOf : Text → QueryValue → State → Option Page → Type 0
IsPageOf name q s page = option_map page_value page ≡ page_in s name q

-- the page of an existing collection, whose time property is this
abbrev pub IsPageUnder : Text → QueryValue → Option Text → Seen → Seen → Result Page ReadFault
    → Type 0
IsPageUnder name q property old new result =
    (s : State) (c : Collection) → old.step_limit ≡ None → Keeps s old.now
    → get s.collections name ≡ Some c → c.time ≡ property
    → MatchResult result (λ page. (page_value page ≡ page_over q (values c.features))
    × IsUnchanged old new) (Stopped old new)

-- the features of an existing collection whose ids lie between two, whose time property is this
abbrev pub IsRunUnder : Text → Text → Text → Option Text → Seen → Seen
    → Result (Vec FeatureValue Global) ReadFault → Type 0
IsRunUnder name first last property old new result =
    (s : State) (c : Collection) → old.step_limit ≡ None → Keeps s old.now
    → get s.collections name ≡ Some c → c.time ≡ property
    → MatchResult result (λ fs. (fs.items ≡ run_of first last c) × IsUnchanged old new)
    (Stopped old new)

-- the row that a query shows, which shows at most one
abbrev pub IsOnlyRow : List ℕ → Row → Seen → Seen → Result (Option Row) ReadFault → Type 0
IsOnlyRow sql params old new result =
    (o : Option Row) → old.step_limit ≡ None → ShowsOf sql params old.now (option_to_list o)
    → MatchResult result (λ row. (row ≡ o) × IsUnchanged old new) (Stopped old new)

-- the row of a feature, if the feature exists
abbrev pub IsTextRow : Text → Text → State → Option Row → Type 0
IsTextRow name id s o = o ≡ option_map dated_row (feature_in s name id)

-- a row that is found is that of the feature; if none is found, nothing is claimed
abbrev pub IsTextRowIfFound : Text → Text → State → Option Row → Type 0
IsTextRowIfFound name id s o = IfSome o (λ row. IsTextRow name id s (Some row))

-- the feature of this collection with this id; none if the collection does not exist, or the
-- feature is not in it
abbrev pub IsFeatureOf : Text → Text → State → Option FeatureValue → Type 0
IsFeatureOf name id s found = found ≡ feature_in s name id

-- the feature of this collection whose row this is
abbrev pub IsFeatureIn : Text → Row → Seen → Seen → Result FeatureValue ReadFault → Type 0
IsFeatureIn name row old new result =
    (s : State) (id : Text) (f : FeatureValue) → old.step_limit ≡ None → IsTrue old.is_open
    → Keeps s old.now → feature_in s name id ≡ Some f → row ≡ dated_row f
    → MatchResult result (λ found. (found ≡ f) × IsUnchanged old new) (Stopped old new)

-- the feature of this collection whose row a query found; none if it found none
abbrev pub IsFeatureFound : Text → Option Row → Seen → Seen
    → Result (Option FeatureValue) ReadFault → Type 0
IsFeatureFound name row old new result =
    (s : State) (id : Text) → old.step_limit ≡ None → IsTrue old.is_open → Keeps s old.now
    → IsTextRow name id s row
    → MatchResult result (λ found. IsFeatureOf name id s found × IsUnchanged old new)
    (Stopped old new)
