-- What folds hold of the rows that they have taken.
use Rattle.std.specs.Prelude.{◌≡◌, List, [], map, Option, None, Some, Vec}
use Rattle.std.specs.List.{AllByRecursion}
use Rattle.std.specs.Option.{option_copied}
use Rattle.std.specs.declared.alloc.Global.{Global}
use Rattle.sqlite.specs.Order.{Row}
use Rattle.streetmap_grid.specs.declared.grid_box.GridBox.{GridBox}
use Rattle.streetmap_grid.specs.Bounds.{AreBounds}
use Rattle.streetmap_geojson.specs.FeatureValue.{FeatureValue}
use Rattle.streetmap_geojson.specs.FeatureInvariant.{IsGeometryIf}
use Rattle.streetmap_batch.specs.Text.{Text}
use Rattle.streetmap_ledger.specs.State.{Collection}
use Rattle.streetmap_ledger.specs.OutlineView.{feature_outline_values}
use Rattle.streetmap_ledger.specs.Summaries.{SummaryValue, all_vertices}
use Rattle.streetmap_ledger.specs.SummaryView.{summary_values}
use Rattle.streetmap_ledger.specs.declared.outline.FeatureOutline.{FeatureOutline}
use Rattle.streetmap_ledger.specs.declared.summary.Summary.{Summary}
use Rattle.streetmap_query.specs.QueryValue.{QueryValue}
use Rattle.streetmap_ledger.specs.Folds.{IsFoldOf}
use Rattle.streetmap_rows.specs.Rows.{collection_cells}
use Rattle.streetmap_rows.specs.Stored.{IsStored}
use Rattle.streetmap_rows.specs.Representations.{HasTextNames}
use Rattle.streetmap_reading.specs.declared.candidates.PageRows.{PageRows}
use Rattle.streetmap_reading.specs.declared.run.FeatureRows.{FeatureRows}
use Rattle.streetmap_reading.specs.Candidates.{candidate_row}
use Rattle.streetmap_reading.specs.Views.{extent_row, feature_extent, IsOutline}
use Rattle.streetmap_reading.specs.Views.{PlacedOutline, placed_row}

-- the outlines that the rows are of
abbrev pub HoldsOutlines : Vec FeatureOutline Global → List Row → Type 0
HoldsOutlines os rows = (ps : List PlacedOutline) → rows ≡ map placed_row ps
    → AllByRecursion (λ p. IsOutline p.0) ps
    → feature_outline_values os.items ≡ map (λ p. p.0) ps

-- the bounds of the features whose extents the rows are
abbrev pub HoldsBounds : Option GridBox → List Row → Type 0
HoldsBounds bounds rows = (fs : List FeatureValue)
    → rows ≡ map (λ f. extent_row (feature_extent f)) fs
    → AllByRecursion (λ f. IsGeometryIf f.geometry) fs → AreBounds (all_vertices fs) bounds

-- the summary of a collection before its extent is known
abbrev pub head_of : Text → Collection → SummaryValue
head_of id c = record { id = id; title = c.title; time = c.time; extent = None }

-- the summaries of the collections that the rows are of, before their extents are known
abbrev pub HoldsHeads : Vec Summary Global → List Row → Type 0
HoldsHeads ss rows = (es : List (Text × Collection)) → rows ≡ map (λ e. collection_cells e.0 e.1) es
    → AllByRecursion (λ e. HasTextNames e.0 e.1) es
    → summary_values ss.items ≡ map (λ e. head_of e.0 e.1) es

-- the row shows the text of a feature that is read under this time property
pub record IsCandidate (property : Option Text) (row : Row) : Type 0 where
  pub feature : FeatureValue
  pub fine : IsStored property feature
  pub is : row ≡ candidate_row feature

-- the page of the features whose texts the rows show, if it held none at the start
pub record HoldsPage (start now : PageRows) (rows : List Row) : Type 0 where
  pub property : now.property ≡ start.property
  pub page : (q : QueryValue) (fs : List FeatureValue) → IsFoldOf q start.fold []
      → rows ≡ map candidate_row fs → AllByRecursion (IsStored (option_copied start.property)) fs
      → IsFoldOf q now.fold fs

-- the features whose texts the rows show, if it held none at the start
pub record HoldsRun (start now : FeatureRows) (rows : List Row) : Type 0 where
  pub property : now.property ≡ start.property
  pub features : (fs : List FeatureValue) → start.features.items ≡ []
      → rows ≡ map candidate_row fs → AllByRecursion (IsStored (option_copied start.property)) fs
      → now.features.items ≡ fs
