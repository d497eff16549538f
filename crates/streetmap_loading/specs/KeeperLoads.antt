-- The effect of a load on a keeper.
use Rattle.std.specs.Prelude.{◌≡◌, ℕ, ◌+◌, List, [], ◌∷◌, ◌++◌, length, take, Option, None}
use Rattle.std.specs.Prelude.{Some, Err}
use Rattle.streetmap_batch.specs.Text.{Text}
use Rattle.streetmap_batch.specs.BatchValue.{BatchValue}
use Rattle.streetmap_packing.specs.Packs.{Packs}
use Rattle.streetmap_ledger.specs.State.{State}
use Rattle.streetmap_ledger.specs.Batches.{act, after_all}
use Rattle.streetmap_ledger.specs.Model.{Model}
use Rattle.streetmap_ledger.specs.Keep.{LeavesEither}
use Rattle.streetmap_ledger.specs.Laws.{IsAcknowledged}
use Rattle.streetmap_ledger.specs.declared.reply.Fault.{Fault}
use Rattle.streetmap_ledger.specs.declared.reply.Fault.TheVariants as faults
use Rattle.streetmap_ledger.specs.declared.reply.Reply.{Reply}
use Rattle.streetmap_ledger.specs.declared.reply.Reply.TheVariants as replies
use Rattle.streetmap_loading.specs.Places.{PlacedValue, edits_of, places_of, text_place}
use Rattle.streetmap_loading.specs.Sources.{Item}
use Rattle.streetmap_loading.specs.Loads.{items_of}
use Rattle.streetmap_loading.specs.Ends.{AreLeft, IsShort, IsNext, count_of_edits}
use Rattle.streetmap_loading.specs.declared.loaded.Loaded.{Loaded}
use Rattle.streetmap_loading.specs.declared.load_fault.LoadFault.{LoadFault}
use Rattle.streetmap_loading.specs.declared.load_fault.LoadFault.TheVariants.{AtFault, ReadFailed}
use Rattle.streetmap_loading.specs.declared.load_fault.LoadFault.TheVariants.{Memory}
use Rattle.streetmap_loading.specs.declared.load_fault.LoadFault.TheVariants.{Refused, Stopped}

-- the fault of the keeper that ended it, if one did
abbrev pub keeper_fault : Option LoadFault → Option Fault
keeper_fault (Some (Stopped fault)) = Some fault
keeper_fault _ = None

-- these edits of the items, if they are known, were read: all; those before the fault; or the first
abbrev pub AreRead : Option (List Item) → List PlacedValue → Option LoadFault → Type 0
AreRead None read why = Unit {0}
AreRead (Some items) read None = items ≡ items_of read
AreRead (Some items) read (Some (AtFault fault)) = (rest : List Item) ×
    (items ≡ items_of read ++ Err fault ∷ rest)
AreRead (Some items) read _ = (rest : List Item) × (items ≡ items_of read ++ rest)

-- each is accepted, or was before, in the state after those before it
abbrev pub AreAcknowledged : State → List BatchValue → Type 0
AreAcknowledged s [] = Unit {0}
AreAcknowledged s (b ∷ bs) = IsAcknowledged (act s b).reply × AreAcknowledged (act s b).state bs

-- the serial of a batch that was accepted, now or before
abbrev pub serial_of : Reply → Option ℕ
serial_of (replies.Accepted counts serial) = Some serial
serial_of (replies.Repeated counts serial) = Some serial
serial_of (replies.Refused why place) = None

-- that of the last of some batches
abbrev pub last_serial : Option ℕ → State → List BatchValue → Option ℕ
last_serial before s [] = before
last_serial before s (b ∷ bs) = last_serial (serial_of (act s b).reply) (act s b).state bs

module _ {K : Type 0} (model : Model K) (first last : K) where
  -- the keeper gave no reply to this batch: if memory ran out nothing changes; if its store failed,
  -- a crash may leave the batch or not
  abbrev pub LeavesUnanswered : State → BatchValue → Fault → Type 0
  LeavesUnanswered t b faults.Memory = model.represents last t
  LeavesUnanswered t b faults.Device =
      model.fails first last × LeavesEither (model.may_leave last) (Some t) (Some (act t b).state)
  LeavesUnanswered t b faults.Damaged = ⊥
  LeavesUnanswered t b faults.Reopen = ⊥

  -- a batch of the first of these edits was refused, and is reported with the place in the text; or
  -- the keeper gave no reply to it
  abbrev pub StopsAt : State → List PlacedValue → BatchValue → LoadFault → Type 0
  StopsAt t placed b (Refused why place) =
      (inner : Option ℕ) × ((act t b).reply ≡ replies.Refused why inner) ×
      (place ≡ text_place (take (length b.edits) (places_of placed)) inner) ×
      model.represents last t
  StopsAt t placed b (Stopped fault) = LeavesUnanswered t b fault
  StopsAt t placed b _ = ⊥

  -- in the state t, after the batches that were sent
  pub record EndsAtBatch (each : ℕ) (key : Text) (read : List PlacedValue)
      (sent : List BatchValue)
      (t : State) (fault : LoadFault) : Type 0 where
    pub rest : List PlacedValue
    pub are_left : AreLeft each key read sent rest
    pub batch : BatchValue
    pub next : IsNext key (1 + length sent) (edits_of rest) batch
    pub stops : StopsAt t rest batch fault

  -- the rest of the edits that were read is part of a batch, and was not sent
  pub record LeavesUnsent (each : ℕ) (key : Text) (read : List PlacedValue) (sent : List BatchValue)
      (t : State) : Type 0 where
    pub rest : List PlacedValue
    pub are_left : AreLeft each key read sent rest
    pub represents : model.represents last t

  abbrev pub EndsIn : (each : ℕ) (key : Text) (read : List PlacedValue) (sent : List BatchValue) →
      State → Option LoadFault → Type 0
  EndsIn each key read sent t None = Packs each key (edits_of read) sent × model.represents last t
  EndsIn each key read sent t (Some (AtFault fault)) =
      (unsent : LeavesUnsent each key read sent t) × IsShort each key (1 + length sent)
      (edits_of unsent.rest)
  EndsIn each key read sent t (Some ReadFailed) = LeavesUnsent each key read sent t
  EndsIn each key read sent t (Some Memory) = LeavesUnsent each key read sent t
  EndsIn each key read sent t (Some (Refused why place)) =
      EndsAtBatch each key read sent t (Refused why place)
  EndsIn each key read sent t (Some (Stopped fault)) =
      EndsAtBatch each key read sent t (Stopped fault)
  EndsIn each key read sent t (Some _) = ⊥

  -- these edits of the items were read; their batches that are complete were sent and acknowledged,
  -- from the state s on; and the load ended in this way
  pub record LoadsTo (s : State) (each : ℕ) (key : Text) (items : Option (List Item))
      (loaded : Loaded) : Type 0 where
    pub read : List PlacedValue
    pub counted : length read ≡ loaded.edits
    pub is : AreRead items read loaded.fault
    pub sent : List BatchValue
    pub batches : length sent ≡ loaded.batches
    pub taken : count_of_edits sent ≡ loaded.taken
    pub acknowledged : AreAcknowledged s sent
    pub serial : loaded.serial ≡ last_serial None s sent
    pub ends : EndsIn each key read sent (after_all s sent) loaded.fault
