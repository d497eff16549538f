-- Batches that are taken one after the other.
use Rattle.std.specs.Prelude.{◌≡◌, ℕ, List, [], ◌∷◌, Option, Result, Ok}
use Rattle.streetmap_batch.specs.BatchValue.{BatchValue}
use Rattle.streetmap_loading.specs.declared.load_fault.LoadFault.{LoadFault}

-- from the first to the second these batches were taken, in their order, the last with the second
-- serial; before them the last had the first
abbrev pub SinkTakesAll : {S : Type 0} → (S → BatchValue → Result (Option ℕ) LoadFault → S → Type 0)
    → S → Option ℕ → List BatchValue → S → Option ℕ → Type 0
SinkTakesAll takes first before [] last serial = (last ≡ first) × (serial ≡ before)
SinkTakesAll {S} takes first before (b ∷ bs) last serial =
    (next : S) × (now : Option ℕ) × takes first b (Ok now) next ×
    SinkTakesAll takes next now bs last serial
