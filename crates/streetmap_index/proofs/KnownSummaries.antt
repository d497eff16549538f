-- The summary of a collection that is known.
use Rattle.std.proofs.Common.{◌≡◌, Option, None, Some, refl, ap}
use Rattle.std.specs.Option.{option_map}
use Rattle.std.specs.FinMap.{get}
use Rattle.streetmap_batch.specs.Text.{Text}
use Rattle.streetmap_ledger.specs.State.{State, Collection}
use Rattle.streetmap_ledger.specs.Summaries.{SummaryValue, summary_of, summary_in}
use Rattle.streetmap_index.specs.Index.{IsOutlined, IsOutlinedIf}
use Rattle.streetmap_index.specs.declared.outlined.OutlinedCollection.{OutlinedCollection}

pub reported_in : (s : State) (id : Text) (o : OutlinedCollection) (v : SummaryValue) → ((d : Collection) → get s.collections id ≡ Some d → IsOutlined o d → v
    ≡ summary_of id d) → IsOutlinedIf o (get s.collections id) → Some v ≡ summary_in s id
reported_in s id o v reports known = by (get s.collections id) refl known where
  by : (c : Option Collection) → get s.collections id ≡ c → IsOutlinedIf o c → Some v ≡ option_map (summary_of id) c
  by None at known = absurd known
  by (Some d) at known = ap (λ x. Some x) (reports d at known)
