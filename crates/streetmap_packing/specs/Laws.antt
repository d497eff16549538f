-- Laws of packing.
use Rattle.std.specs.Prelude.{◌≡◌, ◌≤◌, ◌<◌, ◌^◌, ℕ, List, ◌++◌, IsTrue, length, flat_map}
use Rattle.streetmap_batch.specs.Text.{Text}
use Rattle.streetmap_batch.specs.BatchValue.{EditValue, BatchValue}
use Rattle.streetmap_batch.specs.Names.{is_key}
use Rattle.streetmap_packing.specs.Packs.{numbered_key, Packs, PacksFirst}

-- edits are packed in at most one way, and the batches have the edits, in their order
abbrev pub OneWay : Type 0
OneWay =
    ((each : ℕ) (key : Text) (es : List EditValue) (bs cs : List BatchValue) → Packs each key es bs
    → Packs each key es cs → bs ≡ cs)
    × ((each : ℕ) (key : Text) (es : List EditValue) (bs : List BatchValue) → Packs each key es bs →
    flat_map (λ b. b.edits) bs ≡ es)

-- the batches that are complete are the first ones, whatever follows the edits
abbrev pub GoesOn : Type 0
GoesOn =
    (each : ℕ) (key : Text) (es more left : List EditValue) (bs all : List BatchValue) →
    PacksFirst each key es bs left → Packs each key (es ++ more) all →
    (later : List BatchValue) × (all ≡ bs ++ later)

-- a key of at most 44 bytes has room for every number that a ledger can count to
abbrev pub KeysHaveRoom : Type 0
KeysHaveRoom = (key : Text) (n : ℕ) → IsTrue (is_key key) → length key ≤ 44 → n < 2 ^ 63 → IsTrue
    (is_key (numbered_key key n))
