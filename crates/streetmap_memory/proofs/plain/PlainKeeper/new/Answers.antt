use Rattle.std.proofs.Common.{ap, ◌∙◌}
use Rattle.std.specs.FinMap.{empty}
use Rattle.streetmap_memory.specs.Slots.{map_of}
use Rattle.streetmap_memory.specs.Does.{state_of}
use Rattle.streetmap_memory.proofs.SlotLemmas.{collections_empty}
use Rattle.streetmap_ledger.proofs.StatesStay.{opening_sound}
use Rattle.streetmap_memory.proofs.plain.PlainKeeper.new.Goals as goal

pub returns : goal.returns
returns c = record {
  is = ap (λ es. state_of (map_of es) (map_of c.new-2.result.entries)) c.new.ensures.empty
      ∙ (ap (λ es. state_of empty (map_of es)) c.new-2.ensures.empty ∙ ap (λ m. record { collections = m; keys = empty }) collections_empty);
  sound = opening_sound;
}
