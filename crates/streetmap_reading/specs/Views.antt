-- What the rows of listings show, and which rows can be read.
use Rattle.std.specs.Prelude.{◌≡◌, ℤ, [], ◌∷◌, ◌++◌, Option, option_map, IfSome, IsUtf8}
use Rattle.sqlite.specs.declared.types.Value.TheVariants.{Int, Text as Words}
use Rattle.sqlite.specs.Order.{Row}
use Rattle.sqlite.specs.Values.{or_null}
use Rattle.streetmap_grid.specs.Values.{BoxValue}
use Rattle.streetmap_grid.specs.WellFormed.{IsBox}
use Rattle.streetmap_grid.specs.Extent.{extent_of}
use Rattle.streetmap_geojson.specs.FeatureValue.{FeatureValue}
use Rattle.streetmap_geojson.specs.FeatureInvariant.{IsGeometryIf}
use Rattle.streetmap_batch.specs.Text.{Text}
use Rattle.streetmap_ledger.specs.State.{Collection}
use Rattle.streetmap_ledger.specs.Outlines.{FeatureOutlineValue}
use Rattle.streetmap_rows.specs.Rows.{collection_cells}
use Rattle.streetmap_rows.specs.Representations.{HasTextNames}

-- the four bounds of an extent, or NULLs
abbrev pub extent_row : Option BoxValue → Row
extent_row e =
    or_null Int (option_map (λ (b : BoxValue). b.x0) e)
    ∷ or_null Int (option_map (λ (b : BoxValue). b.y0) e)
    ∷ or_null Int (option_map (λ (b : BoxValue). b.x1) e)
    ∷ or_null Int (option_map (λ (b : BoxValue). b.y1) e) ∷ []

-- the extent of a feature
abbrev pub feature_extent : FeatureValue → Option BoxValue
feature_extent f = option_map extent_of f.geometry

-- an outline: its id, the bounds of its extent or NULLs, its seconds or NULLs
abbrev pub outline_row : FeatureOutlineValue → Row
outline_row o =
    Words o.id ∷ or_null Int (option_map (λ (b : BoxValue). b.x0) o.extent)
    ∷ or_null Int (option_map (λ (b : BoxValue). b.y0) o.extent)
    ∷ or_null Int (option_map (λ (b : BoxValue). b.x1) o.extent)
    ∷ or_null Int (option_map (λ (b : BoxValue). b.y1) o.extent)
    ∷ or_null Int (option_map (λ (s : ℤ × ℤ). s.0) o.seconds)
    ∷ or_null Int (option_map (λ (s : ℤ × ℤ). s.1) o.seconds) ∷ []

-- an outline, and the rowid of its row
abbrev pub PlacedOutline : Type 0
PlacedOutline = FeatureOutlineValue × ℤ

-- the row that shows both: the outline, and after it the rowid
abbrev pub placed_row : PlacedOutline → Row
placed_row p = outline_row p.0 ++ Int p.1 ∷ []

-- the id is a text, and the extent a box
pub record IsOutline (o : FeatureOutlineValue) : Type 0 where
  pub id : IsUtf8 o.id
  pub extent : IfSome o.extent IsBox

-- the row of an outline and a rowid
pub record IsOutlineRow (row : Row) : Type 0 where
  pub placed : PlacedOutline
  pub fine : IsOutline placed.0
  pub is : row ≡ placed_row placed

-- the row of the extent of a feature
pub record IsExtentRow (row : Row) : Type 0 where
  pub feature : FeatureValue
  pub fine : IsGeometryIf feature.geometry
  pub is : row ≡ extent_row (feature_extent feature)

-- the row of a collection
pub record IsHeadRow (row : Row) : Type 0 where
  pub id : Text
  pub collection : Collection
  pub fine : HasTextNames id collection
  pub is : row ≡ collection_cells id collection
