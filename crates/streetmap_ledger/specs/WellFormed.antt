-- What is true of every state that comes from the opening state by batches.
use Rattle.std.specs.Prelude.{◌≡◌, ◌≤◌, ℕ, Option, Some, Ok, IsTrue}
use Rattle.std.specs.FinMap.{get, len}
use Rattle.streetmap_geojson.specs.FeatureValue.{FeatureValue}
use Rattle.streetmap_geojson.specs.FeatureInvariant.{IsFeature}
use Rattle.streetmap_geojson.specs.Times.{time_of}
use Rattle.streetmap_batch.specs.Text.{Text}
use Rattle.streetmap_batch.specs.BatchFacts.{IsTitle, IsTimePropertyIf, IsSoundBatch}
use Rattle.streetmap_batch.specs.ParsedBatches.{most_edits}
use Rattle.streetmap_batch.specs.BatchValue.{BatchValue}
use Rattle.streetmap_batch.specs.Names.{is_key, is_collection_id}
use Rattle.streetmap_ledger.specs.State.{State, Collection, AcceptedBatch, opening_state}
use Rattle.streetmap_ledger.specs.Batches.{act, most_batches}
use Rattle.streetmap_ledger.specs.declared.reply.Counts.{Counts}

-- a feature is kept under its id, with the time that its collection's property gives
pub record IsPlaced (property : Option Text) (id : Text) (f : FeatureValue) : Type 0 where
  pub is : IsFeature f
  pub named : f.id ≡ id
  pub timed : time_of property f.properties ≡ Ok f.time

-- this holds for every feature of a collection
abbrev pub HoldsFeatures : Collection → Type 0
HoldsFeatures c = (id : Text) (f : FeatureValue) → get c.features id ≡ Some f → IsPlaced c.time id f

-- a collection's id, title and time property follow the rules, and it holds features
pub record IsCollection (name : Text) (c : Collection) : Type 0 where
  pub named : IsTrue (is_collection_id name)
  pub titled : IsTitle c.title
  pub timed : IsTimePropertyIf c.time
  pub holds : HoldsFeatures c

-- counts that a batch may have
pub record AreCounts (n : Counts) : Type 0 where
  pub opened : n.opened ≤ most_edits
  pub inserted : n.inserted ≤ most_edits
  pub replaced : n.replaced ≤ most_edits
  pub deleted : n.deleted ≤ most_edits

-- collections and keys follow the rules; the n keys have the serials 1 to n, one each, and each the
-- counts of a batch
pub record IsState (s : State) : Type 0 where
  pub made : (name : Text) (c : Collection) → get s.collections name ≡ Some c → IsCollection name c
  pub keyed : (key : Text) (k : AcceptedBatch) → get s.keys key ≡ Some k → IsTrue (is_key key)
  pub from_one : (key : Text) (k : AcceptedBatch) → get s.keys key ≡ Some k → 1 ≤ k.serial
  pub to_count : (key : Text) (k : AcceptedBatch) → get s.keys key ≡ Some k → k.serial ≤ len s.keys
  pub one_each : (key other : Text) (k l : AcceptedBatch) → get s.keys key ≡ Some k
      → get s.keys other ≡ Some l → k.serial ≡ l.serial → key ≡ other
  pub counted : (key : Text) (k : AcceptedBatch) → get s.keys key ≡ Some k → AreCounts k.counts
  pub not_too_many : len s.keys ≤ most_batches

-- the opening state is well-formed, and a batch that the type of batches can hold keeps a state so
abbrev pub StaysWellFormed : Type 0
StaysWellFormed = IsState opening_state
    × ((s : State) (b : BatchValue) → IsState s → IsSoundBatch b → IsState (act s b).state)
