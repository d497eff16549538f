-- What is held of rows that have been taken.
use Rattle.std.specs.Prelude.{◌≡◌, ◌⊎◌, List, [], ◌∷◌, map, length, Option, None, Some, option_map}
use Rattle.std.specs.Prelude.{string_bytes}
use Rattle.std.specs.declared.cmp.Ordering.TheVariants.{Less}
use Rattle.sqlite.specs.Order.{Row}
use Rattle.streetmap_batch.specs.Text.{Text, text_cmp}
use Rattle.streetmap_rows.specs.Rows.{batch_cells}
use Rattle.streetmap_checking.specs.Good.{AreEntryRows, AreFormatRows, AreCollectionRows}
use Rattle.streetmap_checking.specs.Good.{AreFeatureRows, AreOwnerRows, IsAccepted, AreBatchRows}
use Rattle.streetmap_checking.specs.Good.{serials_of}
use Rattle.streetmap_checking.specs.declared.formats.FormatRows.{FormatRows}
use Rattle.streetmap_checking.specs.declared.collections.CollectionRows.{CollectionRows}
use Rattle.streetmap_checking.specs.declared.collections.Head.{Head}
use Rattle.streetmap_checking.specs.declared.features.FeatureRows.{FeatureRows}
use Rattle.streetmap_checking.specs.declared.owners.OwnerRows.{OwnerRows}
use Rattle.streetmap_checking.specs.declared.batches.BatchRows.{BatchRows}

-- the last of the keys
abbrev pub last_key : {V : Type 0} → List (Text × V) → Option Text
last_key [] = None
last_key (e ∷ []) = Some e.0
last_key (e ∷ f ∷ es) = last_key (f ∷ es)

-- a key comes after the last
abbrev pub ComesAfterLast : Option Text → Text → Type 0
ComesAfterLast None key = Unit {0}
ComesAfterLast (Some last) key = text_cmp last key ≡ Less

-- ---- the format

abbrev pub HoldsFormatRows : FormatRows → FormatRows → List Row → Type 0
HoldsFormatRows start now rows = ((rows ≡ []) × (now.found ≡ 0))
    ⊎ (AreFormatRows rows × (now.found ≡ 1))

abbrev pub IsGoodFormat : FormatRows → List Row → Type 0
IsGoodFormat start rows = AreFormatRows rows

-- ---- collections: the id and the time property of each

abbrev pub known : List Head → List (Text × Option Text)
known heads = map (λ h. (string_bytes h.id, option_map string_bytes h.time)) heads

abbrev pub HoldsCollectionRows : CollectionRows → CollectionRows → List Row → Type 0
HoldsCollectionRows start now rows = (are : AreCollectionRows rows)
    × (known now.heads.items ≡ map (λ e. (e.0, e.1.time)) are.entries)

abbrev pub IsGoodCollections : CollectionRows → List Row → Type 0
IsGoodCollections start rows = AreCollectionRows rows

-- ---- features of a collection: the last id, and how many they are

abbrev pub property_of : FeatureRows → Option Text
property_of f = option_map string_bytes f.head.time

pub record HoldsFeatureRows (start now : FeatureRows) (rows : List Row) : Type 0 where
  pub head : now.head ≡ start.head
  pub are : AreFeatureRows (property_of start) rows
  pub last : option_map string_bytes now.last ≡ last_key are.entries
  pub counted : now.count ≡ length are.entries

abbrev pub IsGoodFeatures : FeatureRows → List Row → Type 0
IsGoodFeatures start rows = AreFeatureRows (property_of start) rows

-- ---- the collections that features name

abbrev pub names_of : OwnerRows → List Text
names_of o = map (λ h. string_bytes h.id) o.heads.items

abbrev pub HoldsOwnerRows : OwnerRows → OwnerRows → List Row → Type 0
HoldsOwnerRows start now rows = (now ≡ start) × AreOwnerRows (names_of start) rows

abbrev pub IsGoodOwners : OwnerRows → List Row → Type 0
IsGoodOwners start rows = AreOwnerRows (names_of start) rows

-- ---- batches: the last key, and the serials

pub record HoldsBatchRows (start now : BatchRows) (rows : List Row) : Type 0 where
  pub are : AreEntryRows batch_cells IsAccepted rows
  pub last : option_map string_bytes now.last ≡ last_key are.entries
  pub serials : now.serials.items ≡ serials_of are.entries

abbrev pub IsGoodBatches : BatchRows → List Row → Type 0
IsGoodBatches start rows = AreBatchRows rows
