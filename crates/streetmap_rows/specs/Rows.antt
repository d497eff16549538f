-- The rows of the tables are those of a state.
use Rattle.std.specs.Prelude.{ℤ, [], ◌∷◌, Option, None, Some, option_map, option_and_then}
use Rattle.std.specs.Prelude.{pos, codes, if◌then◌else◌}
use Rattle.std.specs.FinMap.{get}
use Rattle.serde_json.specs.Written.{compact_text}
use Rattle.sqlite.specs.declared.types.Value.TheVariants.{Int, Text as Words}
use Rattle.sqlite.specs.Order.{Row}
use Rattle.sqlite.specs.Values.{or_null}
use Rattle.sqlite_trees.specs.Tree.{Trees}
use Rattle.streetmap_grid.specs.Values.{BoxValue}
use Rattle.streetmap_grid.specs.Extent.{extent_of}
use Rattle.streetmap_moment.specs.Meeting.{seconds_of}
use Rattle.streetmap_geojson.specs.FeatureValue.{FeatureValue}
use Rattle.streetmap_feature_text.specs.Written.{feature_data}
use Rattle.streetmap_batch.specs.Text.{Text}
use Rattle.streetmap_ledger.specs.State.{State, Collection, AcceptedBatch}
use Rattle.streetmap_rows.specs.Holds.{HoldsByKey, same_text, first_key, is_first}
use Rattle.streetmap_rows.specs.Holds.{KeyPair, pair_key, has_pair}
use Rattle.streetmap_rows.specs.Tables.{Roots}

-- the feature of a state by its collection and its id
abbrev pub feature_at : State → KeyPair → Option FeatureValue
feature_at s p = option_and_then (λ (c : Collection). get c.features p.1) (get s.collections p.0)

-- the compact text of a feature, without its time
unfoldable pub feature_text : FeatureValue → Text
feature_text f = compact_text (feature_data f)

-- the extent of its geometry, and the seconds of its time
unfoldable pub extent_in : FeatureValue → Option BoxValue
extent_in f = option_map extent_of f.geometry

unfoldable pub seconds_in : FeatureValue → Option (ℤ × ℤ)
seconds_in f = option_map seconds_of f.time

-- ---- the rows, after their rowids

-- a collection: id, title, time property or NULL
abbrev pub collection_cells : Text → Collection → Row
collection_cells name c = Words name ∷ Words c.title ∷ or_null Words c.time ∷ []

-- a feature: collection, id, text, the four bounds of its extent or NULL, the seconds of its time
-- or NULL
abbrev pub feature_cells : KeyPair → FeatureValue → Row
feature_cells p f =
    Words p.0 ∷ Words p.1 ∷ Words (feature_text f)
    ∷ or_null Int (option_map (λ (b : BoxValue). b.x0) (extent_in f))
    ∷ or_null Int (option_map (λ (b : BoxValue). b.y0) (extent_in f))
    ∷ or_null Int (option_map (λ (b : BoxValue). b.x1) (extent_in f))
    ∷ or_null Int (option_map (λ (b : BoxValue). b.y1) (extent_in f))
    ∷ or_null Int (option_map (λ (s : ℤ × ℤ). s.0) (seconds_in f))
    ∷ or_null Int (option_map (λ (s : ℤ × ℤ). s.1) (seconds_in f)) ∷ []

-- an accepted batch: key, text, how many edits of each kind, serial
abbrev pub batch_cells : Text → AcceptedBatch → Row
batch_cells key k = Words key ∷ Words k.text ∷ Int (pos k.counts.opened)
    ∷ Int (pos k.counts.inserted) ∷ Int (pos k.counts.replaced) ∷ Int (pos k.counts.deleted)
    ∷ Int (pos k.serial) ∷ []

-- the one row of the table of the format
abbrev pub meta_cells : Text → Option Row
meta_cells name = if same_text name (codes "format")
    then Some (Words (codes "format") ∷ Int (pos 2) ∷ []) else None

-- the format, and the three lists of a state, in the trees of the tables
pub record AreOf (s : State) (roots : Roots) (db : Trees) : Type 0 where
  pub format : HoldsByKey first_key is_first meta_cells (db roots.meta)
  pub collections : HoldsByKey first_key is_first (λ name.
      option_map (collection_cells name) (get s.collections name)) (db roots.collections)
  pub batches : HoldsByKey first_key is_first (λ key.
      option_map (batch_cells key) (get s.keys key)) (db roots.batches)
  pub features : HoldsByKey pair_key has_pair (λ p. option_map (feature_cells p) (feature_at s p))
      (db roots.features)
