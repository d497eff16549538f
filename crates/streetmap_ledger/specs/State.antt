-- The state, and what one edit does to it.
use Rattle.std.specs.Prelude.{ℕ, Option, None, Some, Result, Ok, Err, ok_or}
use Rattle.std.specs.FinMap.{FinMap, empty, get, insert, remove}
use Rattle.streetmap_moment.specs.declared.faults.TimeFault.{TimeFault}
use Rattle.streetmap_geojson.specs.FeatureValue.{FeatureValue}
use Rattle.streetmap_geojson.specs.Times.{timed as timed_by}
use Rattle.streetmap_batch.specs.Text.{Text, text_cmp}
use Rattle.streetmap_batch.specs.BatchValue as edit
use Rattle.streetmap_batch.specs.BatchValue.{EditValue}
use Rattle.streetmap_ledger.specs.declared.reply.Counts.{Counts}
use Rattle.streetmap_ledger.specs.declared.reply.Refusal.{Refusal}
use Rattle.streetmap_ledger.specs.declared.reply.Refusal.TheVariants.{NoCollection}
use Rattle.streetmap_ledger.specs.declared.reply.Refusal.TheVariants.{CollectionExists}
use Rattle.streetmap_ledger.specs.declared.reply.Refusal.TheVariants.{FeatureExists, NoFeature}
use Rattle.streetmap_ledger.specs.declared.reply.Refusal.TheVariants.{BadTime}

-- features by id
abbrev pub Features : Type 0
Features = FinMap text_cmp FeatureValue

-- a collection: its title, the property that the times of its features are read from, and its
-- features
pub record Collection : Type 0 where
  pub title : Text
  pub time : Option Text
  pub features : Features

-- what is kept for an accepted key: the text of its batch, how many edits of each kind it had, and
-- its serial
pub record AcceptedBatch : Type 0 where
  pub text : Text
  pub counts : Counts
  pub serial : ℕ

-- collections by id, and what is kept for each accepted key
pub record State : Type 0 where
  pub collections : FinMap text_cmp Collection
  pub keys : FinMap text_cmp AcceptedBatch

-- no collection and no key
abbrev pub opening_state : State
opening_state = record { collections = empty; keys = empty }

infixl 10 ◌>>=◌
-- continues with what was found, or is refused as before
abbrev pub ◌>>=◌ : {A B E : Type 0} → Result A E → (A → Result B E) → Result B E
Ok x >>= next = next x
Err why >>= next = Err why

-- refused if it exists already
abbrev pub absent : {A : Type 0} → Option A → Refusal → Result (Unit {0}) Refusal
absent None why = Ok tt
absent (Some x) why = Err why

-- either fault of a time is `BadTime`
abbrev pub or_bad_time : Result FeatureValue TimeFault → Result FeatureValue Refusal
or_bad_time (Ok f) = Ok f
or_bad_time (Err fault) = Err BadTime

-- the feature with the time that this property of it gives
abbrev pub timed : Option Text → FeatureValue → Result FeatureValue Refusal
timed property f = or_bad_time (timed_by property f)

-- the state with these features in the collection
abbrev pub with_features : State → Text → Collection → Features → State
with_features s name c features = record s
    { collections = insert s.collections name (record c { features = features }) }

-- the state with this feature in the collection, under its id
abbrev pub with_feature : State → Text → Collection → FeatureValue → State
with_feature s name c f = with_features s name c (insert c.features f.id f)

-- a feature is inserted into a collection that has none with its id
abbrev pub inserted : State → Text → FeatureValue → Collection → Result State Refusal
inserted s name f c = do
  new ← absent (get c.features f.id) FeatureExists
  g ← timed c.time f
  Ok (with_feature s name c g)

-- a feature takes the place of the one with its id
abbrev pub replaced : State → Text → FeatureValue → Collection → Result State Refusal
replaced s name f c = do
  old ← ok_or (get c.features f.id) NoFeature
  g ← timed c.time f
  Ok (with_feature s name c g)

-- the feature with this id is removed
abbrev pub deleted : State → Text → Text → Collection → Result State Refusal
deleted s name id c = do
  old ← ok_or (get c.features id) NoFeature
  Ok (with_features s name c (remove c.features id))

-- a collection is opened, with no features
abbrev pub opened : State → Text → Text → Option Text → State
opened s name title time = record s {
  collections = insert s.collections name
      (record { title = title; time = time; features = empty });
}

-- one edit: the state after it, or why it is refused
abbrev pub step : State → EditValue → Result State Refusal
step s (edit.«open» name title time) = absent (get s.collections name) CollectionExists >>= λ new.
    Ok (opened s name title time)
step s (edit.insert name f) = ok_or (get s.collections name) NoCollection >>= inserted s name f
step s (edit.replace name f) = ok_or (get s.collections name) NoCollection >>= replaced s name f
step s (edit.delete name id) = ok_or (get s.collections name) NoCollection >>= deleted s name id
