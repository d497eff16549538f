-- The results of passes over all features of a collection, or over all collections.
use Rattle.std.specs.Prelude.{◌≡◌, map, Option, option_map, Some, Vec, Result, IsTrue, IfSome}
use Rattle.std.specs.Prelude.{Bool, string_bytes}
use Rattle.std.specs.Ordering.{is_lt}
use Rattle.std.specs.Option.{option_map_or}
use Rattle.std.specs.FinMap.{get, values, entries, empty}
use Rattle.std.specs.declared.alloc.Global.{Global}
use Rattle.sqlite.specs.State.{State as Seen}
use Rattle.streetmap_grid.specs.declared.grid_box.GridBox.{GridBox}
use Rattle.streetmap_grid.specs.Views.{box_value}
use Rattle.streetmap_batch.specs.Text.{Text, text_cmp}
use Rattle.streetmap_ledger.specs.State.{State, Collection, Features}
use Rattle.streetmap_ledger.specs.Outlines.{feature_outline_of, outlines_in}
use Rattle.streetmap_ledger.specs.OutlineView.{feature_outline_values}
use Rattle.streetmap_ledger.specs.Summaries.{all_vertices, extent_if, summary_of, summary_in}
use Rattle.streetmap_ledger.specs.Summaries.{summaries_in}
use Rattle.streetmap_ledger.specs.SummaryView.{summary_value, summary_values}
use Rattle.streetmap_ledger.specs.declared.outline.FeatureOutline.{FeatureOutline}
use Rattle.streetmap_ledger.specs.declared.summary.Summary.{Summary}
use Rattle.streetmap_rows.specs.declared.fault.ReadFault.{ReadFault}
use Rattle.streetmap_rows.specs.TableReads.{ReadsState}
use Rattle.streetmap_reading.specs.Held.{head_of}

-- the summary of the collection with this id; none if it does not exist
abbrev pub IsSummaryOf : Text → State → Option Summary → Type 0
IsSummaryOf id s found = option_map summary_value found ≡ summary_in s id

-- the summaries of all collections, in byte order of ids
abbrev pub AreSummaries : State → Vec Summary Global → Type 0
AreSummaries s found = summary_values found.items ≡ summaries_in s

-- the outlines of a collection's features, in byte order of ids; none if the collection does not
-- exist
abbrev pub AreOutlinesOf : Text → State → Option (Vec FeatureOutline Global) → Type 0
AreOutlinesOf name s found = option_map (λ (os : Vec FeatureOutline Global).
    feature_outline_values os.items) found ≡ outlines_in s name

-- ---- of one collection

-- the features of a collection; none if it does not exist
abbrev pub features_in : State → Text → Features
features_in s name = option_map_or (λ (c : Collection). c.features) (get s.collections name) empty

-- the outlines of its features, in byte order of ids
abbrev pub AreOutlinesIn : Text → State → Vec FeatureOutline Global → Type 0
AreOutlinesIn name s os = feature_outline_values os.items
    ≡ map (λ e. feature_outline_of e.0 e.1) (entries (features_in s name))

-- the same, if they are returned
abbrev pub AreOutlinesIfIn : Text → State → Option (Vec FeatureOutline Global) → Type 0
AreOutlinesIfIn name s found = IfSome found (AreOutlinesIn name s)

-- the id of the one comes before that of the other
abbrev pub comes_before : FeatureOutline → FeatureOutline → Bool
comes_before one other = is_lt (text_cmp (string_bytes one.id) (string_bytes other.id))

-- the extent of its features
abbrev pub IsExtentIn : Text → State → Option GridBox → Type 0
IsExtentIn name s extent = option_map box_value extent
    ≡ extent_if (all_vertices (values (features_in s name)))

-- the same, if it is returned
abbrev pub IsExtentIfIn : Text → State → Option (Option GridBox) → Type 0
IsExtentIfIn name s found = IfSome found (IsExtentIn name s)

-- its summary, completed from the summary before its extent is known
abbrev pub CompletesHead : Summary → State → Summary → Type 0
CompletesHead head s summary = (name : Text) (c : Collection) → get s.collections name ≡ Some c
    → summary_value head ≡ head_of name c → summary_value summary ≡ summary_of name c

-- ---- of all collections

-- their summaries before their extents are known
abbrev pub AreHeads : State → Vec Summary Global → Type 0
AreHeads s heads = summary_values heads.items ≡ map (λ e. head_of e.0 e.1) (entries s.collections)

abbrev pub AreReported : Vec Summary Global → State → Vec Summary Global → Type 0
AreReported heads s summaries = AreHeads s heads → AreSummaries s summaries

-- on a connection that is open
abbrev pub ReportsCollections : Vec Summary Global → Seen → Seen
    → Result (Vec Summary Global) ReadFault
    → Type 0
ReportsCollections heads old new result = IsTrue old.is_open
    → ReadsState (AreReported heads) old new result
