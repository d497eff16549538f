-- A load in progress.
use Rattle.std.specs.Prelude.{◌≡◌, ◌<◌, ◌≤◌, ℕ, ◌+◌, ◌^◌, List, [], ◌∷◌, ◌++◌, length, Option, None}
use Rattle.std.specs.Prelude.{Some}
use Rattle.std.specs.Prelude.{Result, Ok, Err}
use Rattle.streetmap_batch.specs.Text.{Text}
use Rattle.streetmap_batch.specs.BatchValue.{EditValue, BatchValue}
use Rattle.streetmap_packing.specs.Packs.{numbered_all}
use Rattle.streetmap_packing.specs.PackerView.{packing, begun}
use Rattle.streetmap_packing.specs.Underway.{packing_at, Underway, edits_in}
use Rattle.streetmap_loading.specs.Places.{PlacedValue, edits_of, places_of}
use Rattle.streetmap_loading.specs.Sinks.{SinkTakesAll}
use Rattle.streetmap_loading.specs.Ends.{EndsBy, IsOfBatch, placed_fault}
use Rattle.streetmap_loading.specs.declared.load_fault.LoadFault.{LoadFault}
use Rattle.streetmap_loading.specs.declared.load_fault.LoadFault.TheVariants.{Memory}
use Rattle.streetmap_loading.specs.declared.load_fault.LoadFault.TheVariants.{Refused, Stopped}
use Rattle.streetmap_loading.specs.declared.load_fault.LoadFault.TheVariants.{WriteFailed}
use Rattle.streetmap_loading.specs.declared.loaded.Loaded.{Loaded}
use Rattle.streetmap_loading.specs.declared.progress.Sending.{Sending}

-- a load that begins
pub record Begins (each : ℕ) (key : Text) (l : Sending) : Type 0 where
  pub is : packing l.packer ≡ begun key each
  pub places : l.places.items ≡ []
  pub batches : l.batches ≡ 0
  pub taken : l.taken ≡ 0
  pub serial : l.serial ≡ None

-- the number and the counts of one more batch do not overflow
pub record HasNumbersLeft (l : Sending) : Type 0 where
  pub number : (packing l.packer).number + 1 < 2 ^ 63
  pub batches : l.batches + 1 < 2 ^ 64
  pub taken : l.taken + 10000 < 2 ^ 64

-- at most one more batch
pub record FewMore (old new : Sending) : Type 0 where
  pub number : (packing new.packer).number ≤ (packing old.packer).number + 1
  pub batches : new.batches ≤ old.batches + 1
  pub taken : new.taken ≤ old.taken + 10000

-- it ended at an edit that was read, or because memory ran out
abbrev pub EndsAtEdit : LoadFault → Type 0
EndsAtEdit Memory = Unit {0}
EndsAtEdit (Refused why place) = Unit {0}
EndsAtEdit (Stopped fault) = Unit {0}
EndsAtEdit WriteFailed = Unit {0}
EndsAtEdit _ = ⊥

-- or after the last
abbrev pub EndsAtOrAfterEdit : Option LoadFault → Type 0
EndsAtOrAfterEdit None = Unit {0}
EndsAtOrAfterEdit (Some fault) = EndsAtEdit fault

module _ {S : Type 0} (takes : S → BatchValue → Result (Option ℕ) LoadFault → S → Type 0) where
  -- these edits were read from the first sink on: the runs that are complete were sent, and the
  -- others remain
  pub record IsSending (each : ℕ) (key : Text) (first : S) (read : List PlacedValue) (l : Sending)
      (now : S) : Type 0 where
    pub sent : List (List EditValue)
    pub done : List PlacedValue
    pub left : List PlacedValue
    pub split : read ≡ done ++ left
    pub some : 1 ≤ each
    pub is : packing l.packer ≡ packing_at each key sent (edits_of left)
    pub places : l.places.items ≡ places_of left
    pub underway : Underway each key (edits_of read) sent (edits_of left)
    pub counted : length sent ≡ l.batches
    pub held : edits_in sent ≡ l.taken
    pub all : SinkTakesAll takes first None (numbered_all key 1 sent) now l.serial

  -- a batch was counted if it was taken, and otherwise the load ended at it
  abbrev pub Sends : Sending → S → BatchValue → List (Option ℕ) → Result (Unit {0}) LoadFault
      → Sending → S → Type 0
  Sends l old b places (Ok done) m new =
      (serial : Option ℕ) × takes old b (Ok serial) new
      × (m ≡ record l
      { batches = l.batches + 1; taken = l.taken + length b.edits; serial = serial })
  Sends l old b places (Err fault) m new =
      (stop : LoadFault) × takes old b (Err stop) new × (fault ≡ placed_fault places stop)
      × (m ≡ l) × IsOfBatch stop

  -- the current batch was sent if it was full
  abbrev pub SendsWhenFull : (each : ℕ) (key : Text) (first : S) → List PlacedValue →
      Result (Unit {0}) LoadFault → Sending → S → Type 0
  SendsWhenFull each key first read (Ok done) l now = IsSending each key first read l now ×
      (length (packing l.packer).edits < each)
  SendsWhenFull each key first read (Err fault) l now =
      EndsBy takes each key first now read l.batches l.taken l.serial (Some fault)
      × EndsAtEdit fault

  -- an edit was added
  abbrev pub TakesEdit : (each : ℕ) (key : Text) (first : S) → List PlacedValue → PlacedValue →
      Result (Unit {0}) LoadFault → Sending → S → Type 0
  TakesEdit each key first read p (Ok done) l now = IsSending each key first (read ++ p ∷ []) l now
  TakesEdit each key first read p (Err fault) l now =
      EndsBy takes each key first now (read ++ p ∷ []) l.batches l.taken l.serial (Some fault)
      × EndsAtEdit fault

  -- the last batch was taken, or it ended there
  abbrev pub SendsTheRest : (each : ℕ) (key : Text) (first : S) → List PlacedValue → Loaded → S →
      Type 0
  SendsTheRest each key first read loaded now = EndsBy takes each key first now read loaded.batches
      loaded.taken loaded.serial loaded.fault × EndsAtOrAfterEdit loaded.fault
