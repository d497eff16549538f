-- How a load ends.
use Rattle.std.specs.Prelude.{◌≡◌, ◌≢◌, ◌<◌, ℕ, ◌+◌, true, List, [], ◌∷◌, ◌++◌, length, take}
use Rattle.std.specs.Prelude.{Option, None, Some, Result, Err}
use Rattle.streetmap_batch.specs.Text.{Text}
use Rattle.streetmap_batch.specs.BatchValue.{EditValue, BatchValue}
use Rattle.streetmap_packing.specs.Packs.{numbered_key, passes, Packs, PacksFirst}
use Rattle.streetmap_loading.specs.Places.{PlacedValue, edits_of, places_of, text_place}
use Rattle.streetmap_loading.specs.Sinks.{SinkTakesAll}
use Rattle.streetmap_loading.specs.declared.load_fault.LoadFault.{LoadFault}
use Rattle.streetmap_loading.specs.declared.load_fault.LoadFault.TheVariants.{AtFault, ReadFailed}
use Rattle.streetmap_loading.specs.declared.load_fault.LoadFault.TheVariants.{Memory}
use Rattle.streetmap_loading.specs.declared.load_fault.LoadFault.TheVariants.{Refused, Stopped}
use Rattle.streetmap_loading.specs.declared.load_fault.LoadFault.TheVariants.{WriteFailed}

-- the faults of a batch
abbrev pub IsOfBatch : LoadFault → Type 0
IsOfBatch (Refused why place) = Unit {0}
IsOfBatch (Stopped fault) = Unit {0}
IsOfBatch WriteFailed = Unit {0}
IsOfBatch _ = ⊥

-- the fault of a batch whose edits have these places in the text
abbrev pub placed_fault : List (Option ℕ) → LoadFault → LoadFault
placed_fault places (Refused why place) = Refused why (text_place places place)
placed_fault places fault = fault

-- how many edits batches have
abbrev pub count_of_edits : List BatchValue → ℕ
count_of_edits [] = 0
count_of_edits (b ∷ bs) = length b.edits + count_of_edits bs

-- of these edits the batches that are complete are sent, and these remain
pub record AreLeft (each : ℕ) (key : Text) (read : List PlacedValue) (sent : List BatchValue)
    (left : List PlacedValue) : Type 0 where
  pub done : List PlacedValue
  pub split : read ≡ done ++ left
  pub packed : PacksFirst each key (edits_of read) sent (edits_of left)

-- the edits that remain are not a whole batch: more may come before it is sent
pub record IsShort (each : ℕ) (key : Text) (n : ℕ) (left : List EditValue) : Type 0 where
  pub few : length left < each
  pub passing : left ≢ [] → passes each key n left ≡ true

-- the batch of this number, of the first of the edits that remain
abbrev pub IsNext : (key : Text) → ℕ → List EditValue → BatchValue → Type 0
IsNext key n left b = (rest : List EditValue) × (left ≡ b.edits ++ rest) ×
    (b.key ≡ numbered_key key n)

module _ {S : Type 0} (takes : S → BatchValue → Result (Option ℕ) LoadFault → S → Type 0) where
  -- the next batch, of the first of the edits that remain, was not taken
  pub record EndsAt (each : ℕ) (key : Text) (read : List PlacedValue) (sent : List BatchValue)
      (mid last : S) (fault : LoadFault) : Type 0 where
    pub left : List PlacedValue
    pub are_left : AreLeft each key read sent left
    pub batch : BatchValue
    pub next : IsNext key (1 + length sent) (edits_of left) batch
    pub stop : LoadFault
    pub refused : takes mid batch (Err stop) last
    pub of_batch : IsOfBatch stop
    pub reported : fault ≡ placed_fault (take (length batch.edits) (places_of left)) stop

  -- the edits that remain are part of a batch, and none of them was sent
  pub record EndsWithinBatch (each : ℕ) (key : Text) (read : List PlacedValue)
      (sent : List BatchValue) (mid last : S) : Type 0 where
    pub left : List PlacedValue
    pub are_left : AreLeft each key read sent left
    pub still : last ≡ mid

  -- these edits were read, and the batches were sent up to the sink mid: it ended in this way, at
  -- the last one
  abbrev pub ByEnd :
      (each : ℕ) (key : Text) (read : List PlacedValue) (sent : List BatchValue) (mid last : S) →
      Option LoadFault → Type 0
  ByEnd each key read sent mid last None = Packs each key (edits_of read) sent × (last ≡ mid)
  ByEnd each key read sent mid last (Some (AtFault fault)) =
      (within : EndsWithinBatch each key read sent mid last) × IsShort each key (1 + length sent)
      (edits_of within.left)
  ByEnd each key read sent mid last (Some ReadFailed) = EndsWithinBatch each key read sent mid last
  ByEnd each key read sent mid last (Some Memory) = EndsWithinBatch each key read sent mid last
  ByEnd each key read sent mid last (Some (Refused why place)) =
      EndsAt each key read sent mid last (Refused why place)
  ByEnd each key read sent mid last (Some (Stopped fault)) =
      EndsAt each key read sent mid last (Stopped fault)
  ByEnd each key read sent mid last (Some WriteFailed) =
      EndsAt each key read sent mid last WriteFailed
  ByEnd each key read sent mid last (Some _) = ⊥

  -- from the first sink on batches were taken, and it ended in this way
  pub record EndsBy (each : ℕ) (key : Text) (first last : S) (read : List PlacedValue)
      (batches taken : ℕ) (serial : Option ℕ) (why : Option LoadFault) : Type 0 where
    pub sent : List BatchValue
    pub mid : S
    pub counted : length sent ≡ batches
    pub held : count_of_edits sent ≡ taken
    pub all : SinkTakesAll takes first None sent mid serial
    pub ends : ByEnd each key read sent mid last why
