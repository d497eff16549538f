-- What was read for the status of a service.
use Rattle.std.specs.Prelude.{◌≡◌, option_map, string_bytes}
use Rattle.serde_json.specs.Data.{Data}
use Rattle.streetmap_bodies.specs.Status.{status_data}
use Rattle.streetmap_ledger.specs.State.{State}
use Rattle.streetmap_ledger.specs.Kept.{batch_count}
use Rattle.streetmap_web.specs.Response.{collection_count, last_key}
use Rattle.streetmap_web.specs.declared.status.Status.{Status}

-- the status with the key of the batch that was read
abbrev pub status_value : Status → Data
status_value status = status_data status.batches status.collections
    (option_map (λ b. string_bytes b.key) status.last)

-- it is that of a state
abbrev pub IsStatusOf : State → Status → Type 0
IsStatusOf s status =
    status_value status ≡ status_data (batch_count s) (collection_count s) (last_key s)
