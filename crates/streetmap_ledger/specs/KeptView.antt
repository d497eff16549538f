-- A kept batch of the code as a plain value.
use Rattle.std.specs.Prelude.{List, map, string_bytes, vec_items}
use Rattle.streetmap_ledger.specs.Kept.{KeyedBatch}
use Rattle.streetmap_ledger.specs.declared.kept_batch.KeptBatch.{KeptBatch}

abbrev pub keyed_batch : KeptBatch → KeyedBatch
keyed_batch b =
    (string_bytes b.key, record { text = vec_items b.text; counts = b.counts; serial = b.serial })

abbrev pub keyed_batches : List KeptBatch → List KeyedBatch
keyed_batches bs = map keyed_batch bs
